-- What the steps leave keeps the rules of the channel, the store's and the output's room.
-- Assumes nothing.
use mathlib.Core.Path.{◌≡◌, refl}
use mathlib.Core.Bool.{Bool, true, false, not, false≢true}
use mathlib.Core.List.{List, [], ◌++◌}
use Prim.Native.Nat.{ℕ, ◌+◌, ◌-◌, ◌≤◌}
use native.Mathlib.Omega.{arith}
use lib.Dec.{eqb, leb}
use lib.ListN.{length, take, drop, length-append, length-take, length-drop}
use lib.Seq.{take_at}
use borrow.Author.Tests.{leb-true, leb-false, le-leb}
use Rattle.octets.specs.Laid.{laid}
use Rattle.octets.specs.Pick.{pick}
use Rattle.octets.specs.Octets.{Octets}
use Rattle.packet.specs.Family.{Family, Lawful}
use Rattle.frame.specs.Opening.{none_starts}
use Rattle.frame.specs.declared.header.Header.{Header}
use Rattle.channel.specs.Rules.{judged, state_follows, hunts, channel_follows}
use Rattle.channel.specs.declared.state.Channel.{Channel}
use Rattle.channel.specs.declared.state.State.{State}
use Rattle.channel.specs.declared.state.State.TheVariants.{Hunting, Gathering, Skipping}
use Rattle.channel.proofs.RuleLaws.{both, and, gathers_from}
use Rattle.walk.specs.declared.walking.End.{End}
use Rattle.walk.specs.Steps.{hunted, called_at, agrees, gathered, skipped, resumed, gap_for, carries_none, steps_of}
use Rattle.walk.specs.Walk.{Done, only, ended_by, ended, walk_of, handed_all}
use Rattle.walk.proofs.EndLaws.{EndFollows, walk_follows, held_follows}
use Rattle.octets.proofs.OctetLaws.{octets_drop}
use Rattle.walk.proofs.WalkLaws.{walk_fits}

-- a channel that keeps the rules has a state that does
pub state_follows_lem : (F : Family) (limit : ℕ) (part : List ℕ) (c : Channel) → channel_follows F limit part c ≡ true → state_follows F limit part c.state ≡ true
unfolding channel_follows hunts state_follows
state_follows_lem F limit part c = go c.heard c.state
  where
    go : (b : Bool) (s : State) → pick b (state_follows F limit part s) (hunts s) ≡ true → state_follows F limit part s ≡ true
    go true s e = e
    go false Hunting e = refl
    go false (Gathering k) e = absurd (false≢true e)
    go false (Skipping r) e = absurd (false≢true e)

-- a choice has what both have
either : {A : Type 0} (P : A → Type 0) (b : Bool) {x y : A} → P x → P y → P (pick b x y)
either P true p q = p
either P false p q = q

-- what the channel is left with: the held octets fit its part and, if O, are octets and keep the rules there; the whole packets fit the room
pub record Leaves (F : Family) (limit : ℕ) (O : Type 0) (room : ℕ) (s : State) (held : List ℕ) (whole : List (List ℕ)) : Type 0 where
  pub short : length held ≤ limit
  pub octets : O → Octets held
  pub hands : length (handed_all F whole) ≤ room
  pub keeps : (part : List ℕ) → O → state_follows F limit (laid part 0 held) s ≡ true

abbrev pub LeavesBy : Family → ℕ → Type 0 → ℕ → Done → Type 0
LeavesBy F limit O room d = Leaves F limit O room d.state d.held d.whole

module _ (F : Family) (laws : Lawful F) (limit : ℕ) (O : Type 0) (room : ℕ) (wide : F.header ≤ limit) where
  nothing : (s : State) → ((part : List ℕ) → O → state_follows F limit part s ≡ true) → LeavesBy F limit O room (only s)
  unfolding handed_all
  nothing s h = record { short = omega arith; octets = λ o i. omega arith; hands = omega arith; keeps = λ part o. h (laid part 0 []) o }

  ended_by_lem : (e : End) (whole : List (List ℕ)) (rest : List ℕ) → length (handed_all F whole) ≤ room → EndFollows F limit O e rest
      → LeavesBy F limit O room (ended_by e whole rest)
  unfolding ended_by state_follows judged laid
  ended_by_lem End.Foreign whole rest h f = record { short = omega arith; octets = λ o i. omega arith; hands = h; keeps = λ part o. refl }
  ended_by_lem End.Exact whole rest h f =
      record {
        short = omega arith;
        octets = λ o i. omega arith;
        hands = h;
        keeps = λ part o. gathers_from F limit (laid part 0 []) 0 (omega (arith, laws.header_tells [] laws.empty_waits)) (omega arith) (rw laws.empty_waits);
      }
  ended_by_lem (End.Cut k) whole rest h f =
      record {
        short = omega arith;
        octets = f.3;
        hands = h;
        keeps = λ part o. gathers_from F limit (laid part 0 rest) k f.1 (omega (arith, f.0, length-append rest (drop (0 + length rest) part)))
            (rw (take_at rest (drop (0 + length rest) part) k f.0) f.2);
      }
  ended_by_lem (End.Oversize r) whole rest h f =
      record {
        short = omega arith;
        octets = λ o i. omega arith;
        hands = h;
        keeps = λ part o. and (le-leb 1 r f.0) (le-leb r F.most_skip (f.1 o));
      }

  -- a walk over a run that is no longer than the limit, and a hunt in a field
  run : (d : List ℕ) → length d ≤ limit → length d ≤ room → (O → Octets d) → LeavesBy F limit O room (ended (walk_of F limit d))
  run d l r o = ended_by_lem _ _ _ (omega (arith, walk_fits F laws limit d)) (walk_follows F laws limit O wide d l o)

  hunt : (field : List ℕ) (pointer : ℕ) → length field ≤ limit → length field ≤ room → (O → Octets field)
      → LeavesBy F limit O room (hunted F limit field pointer)
  unfolding hunted state_follows
  hunt field pointer l r o =
      either (LeavesBy F limit O room) (eqb pointer none_starts) (nothing Hunting (λ part o. refl))
      (run (drop pointer field) (omega (arith, length-drop pointer field)) (omega (arith, length-drop pointer field))
      (λ p. octets_drop field pointer (o p)))

  module _ (part field : List ℕ) (whole_part : length part ≡ limit) (few : length field + F.header ≤ limit) (fits : limit + length field ≤ room)
      (op : O → Octets part) (of : O → Octets field) where
    resume : (pointer : ℕ) (s : State) → state_follows F limit part s ≡ true → LeavesBy F limit O room (resumed F limit part field pointer s)
    unfolding resumed gathered skipped state_follows
    resume pointer Hunting e = hunt field pointer (omega arith) (omega arith) of
    resume pointer (Gathering k) e =
        let w = walk_fits F laws limit (take k part ++ field) in
        either (LeavesBy F limit O room) (agrees (length field) k (F.size (take k part ++ field)) pointer)
        (ended_by_lem _ _ _ (omega (arith, w, length-append (take k part) field, length-take k part))
        (held_follows F laws limit O wide k part field whole_part few e op of))
        (hunt field pointer (omega arith) (omega arith) of)
    resume pointer (Skipping r) e =
        either (LeavesBy F limit O room) (eqb pointer (called_at (length field) r)) (go (leb r (length field)) refl)
        (hunt field pointer (omega arith) (omega arith) of)
      where
        t : (leb 1 r ≡ true) × (leb r F.most_skip ≡ true)
        t = both _ _ e

        go : (b : Bool) → leb r (length field) ≡ b
            → LeavesBy F limit O room (pick b (ended (walk_of F limit (drop r field))) (only (Skipping (r - length field))))
        go true q =
            run (drop r field) (omega (arith, length-drop r field)) (omega (arith, length-drop r field)) (λ o. octets_drop field r (of o))
        go false q =
            nothing (Skipping (r - length field))
            (λ part o. and (le-leb 1 (r - length field) (omega (arith, leb-false r (length field) q)))
            (le-leb (r - length field) F.most_skip (omega (arith, leb-true r F.most_skip t.1))))

    -- steps 1 to 5 of a frame of a channel that keeps the rules
    pub steps_leave : (h : Header) (c : Channel) → channel_follows F limit part c ≡ true → LeavesBy F limit O room (steps_of F limit part field h c)
    unfolding steps_of state_follows
    steps_leave h c e =
        either (LeavesBy F limit O room) (carries_none h) (nothing Hunting (λ part o. refl))
        (either (LeavesBy F limit O room) (not (eqb (gap_for c h) 0)) (hunt field h.pointer (omega arith) (omega arith) of)
        (resume h.pointer c.state (state_follows_lem F limit part c e)))
