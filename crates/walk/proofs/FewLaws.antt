-- How many packets a frame can finish: each takes at least the octets of the least packet, the one under way and a skip that ends included.
-- Assumes nothing.
use mathlib.Core.Path.{◌≡◌, refl}
use mathlib.Core.Bool.{Bool, true, false, not, ◌&&◌}
use mathlib.Core.List.{List, [], ◌∷◌, ◌++◌}
use Prim.Native.Nat.{ℕ, suc, ◌+◌, ◌-◌, ◌*◌, ◌≤◌, ◌<◌}
use native.Mathlib.Nat.{add-zero, mul-zero, mul-suc}
use native.Mathlib.Numerals.{add-one}
use native.Mathlib.Omega.{arith}
use lib.Dec.{eqb, leb}
use lib.ListN.{length, take, drop, length-append, length-take, length-drop}
use borrow.Author.Tests.{leb-true}
use Rattle.octets.specs.Pick.{pick}
use Rattle.packet.specs.Family.{Family, Lawful}
use Rattle.frame.specs.Opening.{none_starts}
use Rattle.frame.specs.declared.header.Header.{Header}
use Rattle.channel.specs.Rules.{state_follows}
use Rattle.channel.specs.declared.state.Channel.{Channel}
use Rattle.channel.specs.declared.state.State.{State}
use Rattle.channel.specs.declared.state.State.TheVariants.{Hunting, Gathering, Skipping}
use Rattle.channel.proofs.RuleLaws.{both}
use Rattle.walk.specs.declared.walking.End.{End}
use Rattle.std.specs.Prelude.{Result, Err, Ok}
use Rattle.walk.specs.declared.walking.Tally.{Tally}
use Rattle.walk.specs.Steps.{hunted, broke, disagreed, called_at, agrees, gathered, skipped, resumed, gap_for, carries_none, steps_of}
use Rattle.walk.specs.Walk.{Done, only, ended_by, ended, seen_of, walk_of, tallied, tallied_all}
use Rattle.walk.specs.Theorems.{WalkFew, skips_out}
use Rattle.walk.proofs.EndLaws.{held_total}
use Rattle.walk.proofs.WalkLaws.{seen_whole, walk_stop, walk_whole, walk_count, counted_more}

pub walk_few : (F : Family) (limit : ℕ) → WalkFew F limit
walk_few F limit laws d = walk_count F laws limit d

-- each whole packet counts once
pub counted : (F : Family) (t : Tally) (ws : List (List ℕ)) → (tallied_all F t ws).delivered + (tallied_all F t ws).idle ≡ t.delivered + t.idle + length ws
unfolding tallied_all
counted F t [] = omega arith
counted F t (p ∷ ps) = omega (arith, counted F (tallied F t p) ps, counted_more F t p)

-- the whole packets are the walk's, however it ended
whole_same : (e : End) (whole : List (List ℕ)) (rest : List ℕ) → (ended_by e whole rest).whole ≡ whole
unfolding ended_by
whole_same End.Foreign whole rest = refl
whole_same End.Exact whole rest = refl
whole_same (End.Cut k) whole rest = refl
whole_same (End.Oversize r) whole rest = refl

-- a frame with D octets of data did so much, and ended so many skips
abbrev Few : Family → ℕ → Done → ℕ → Type 0
Few F D d skips = F.least * (length d.whole + skips) < D + F.least

module _ (F : Family) (laws : Lawful F) (D m : ℕ) where
  few_none : F.least * m ≤ D → F.least * (m + 0) < D + F.least
  few_none h = rw (add-zero m) (omega (arith, laws.least_some))

  few_one : F.least * m < D → F.least * (m + 1) < D + F.least
  few_one h = rw (add-one m, mul-suc F.least m) (omega arith)

module _ (F : Family) (laws : Lawful F) (limit : ℕ) (part field : List ℕ) where
  nothing_few : F.least * (0 + 0) < length field + F.least
  nothing_few = few_none F laws (length field) 0 (rw (mul-zero F.least) (omega arith))

  run_few : (d : List ℕ) → length d ≤ length field → Few F (length field) (ended (walk_of F limit d)) 0
  run_few d h = rw whole_same (few_none F laws (length field) (length (walk_of F limit d).whole) (omega (arith, walk_count F laws limit d)))

  skip_few : (d : List ℕ) → length d < length field → Few F (length field) (ended (walk_of F limit d)) 1
  skip_few d h = rw whole_same (few_one F laws (length field) (length (walk_of F limit d).whole) (omega (arith, walk_count F laws limit d)))

  -- the packet under way ends in the field, so that it takes at least one octet of it
  held_few : (k : ℕ) → length part ≡ limit → state_follows F limit part (Gathering k) ≡ true
      → Few F (length field) (ended (walk_of F limit (take k part ++ field))) 0
  held_few k l e = rw whole_same (go (seen_of F limit d) refl)
    where
      d : List ℕ
      d = take k part ++ field

      go : (s : Result ℕ End) → seen_of F limit d ≡ s → F.least * (length (walk_of F limit d).whole + 0) < length field + F.least
      go (Err e) s = rw (walk_stop F laws limit d e s) nothing_few
      go (Ok n) s =
          let stands = seen_whole F laws limit d n s in
          let beyond = (held_total F laws limit k n part field l e stands.told).0 in
          let m = length (walk_of F limit (drop n d)).whole in
          rw (walk_whole F laws limit d n s, add-zero (suc m), mul-suc F.least m)
          (omega (arith, walk_count F laws limit (drop n d), length-drop n d, length-append (take k part) field, length-take k part))

  hunt_few : (pointer : ℕ) → Few F (length field) (hunted F limit field pointer) 0
  unfolding hunted
  hunt_few pointer = go (eqb pointer none_starts)
    where
      go : (b : Bool) → Few F (length field) (pick b (only Hunting) (ended (walk_of F limit (drop pointer field)))) 0
      go true = nothing_few
      go false = run_few (drop pointer field) (omega (arith, length-drop pointer field))

  module _ (whole_part : length part ≡ limit) where
    resume_few : (pointer : ℕ) (s : State) → state_follows F limit part s ≡ true
        → Few F (length field) (resumed F limit part field pointer s) (pick (skips_out s pointer (length field)) 1 0)
    unfolding resumed gathered skipped skips_out state_follows
    resume_few pointer Hunting e = hunt_few pointer
    resume_few pointer (Gathering k) e = go (agrees (length field) k (F.size (take k part ++ field)) pointer)
      where
        go : (b : Bool)
            → Few F (length field) (pick b (ended (walk_of F limit (take k part ++ field))) (disagreed (Gathering k) (hunted F limit field pointer))) 0
        go true = held_few k whole_part e
        go false = hunt_few pointer
    resume_few pointer (Skipping r) e = go (eqb pointer (called_at (length field) r)) (leb r (length field)) refl
      where
        some : 1 ≤ r
        some = leb-true 1 r (both _ _ e).0

        go : (a b : Bool) → leb r (length field) ≡ b
            → Few F (length field)
            (pick a (pick b (ended (walk_of F limit (drop r field))) (only (Skipping (r - length field))))
            (disagreed (Skipping r) (hunted F limit field pointer)))
            (pick (a && b) 1 0)
        go true true q = skip_few (drop r field) (omega (arith, some, length-drop r field, leb-true r (length field) q))
        go true false q = nothing_few
        go false b q = hunt_few pointer

    pub steps_few : (h : Header) (c : Channel) → state_follows F limit part c.state ≡ true
        → Few F (length field) (steps_of F limit part field h c)
        (pick (carries_none h) 0 (pick (not (eqb (gap_for c h) 0)) 0 (pick (skips_out c.state h.pointer (length field)) 1 0)))
    unfolding steps_of
    steps_few h c e = go (carries_none h) (not (eqb (gap_for c h) 0))
      where
        go : (a b : Bool)
            → Few F (length field)
            (pick a (broke c.state (only Hunting))
            (pick b (broke c.state (hunted F limit field h.pointer)) (resumed F limit part field h.pointer c.state)))
            (pick a 0 (pick b 0 (pick (skips_out c.state h.pointer (length field)) 1 0)))
        go true b = nothing_few
        go false true = hunt_few h.pointer
        go false false = resume_few h.pointer c.state e
