-- Where a walk ends, the channel keeps the rules: what is cut is shorter than the limit and told to be, and what is skipped is in range.
-- Assumes nothing.
use mathlib.Core.Path.{◌≡◌, refl}
use mathlib.Core.Bool.{Bool, true, false}
use mathlib.Core.List.{List, ◌++◌}
use Prim.Native.Nat.{ℕ, ◌+◌, ◌-◌, ◌≤◌, ◌<◌}
use native.Mathlib.Decide.{dec_lt}
use native.Mathlib.Omega.{arith}
use lib.Dec.{eqb, ltb, leb}
use lib.ListN.{length, take, drop, length-append, length-take, length-drop}
use lib.Seq.{length-take-le}
use borrow.Author.Tests.{ltb-true, ltb-false, leb-true, leb-false, lt-ltb, le-leb}
use Rattle.octets.specs.Pick.{pick}
use Rattle.octets.specs.Octets.{Octets}
use Rattle.packet.specs.Family.{Family, Lawful}
use Rattle.packet.specs.declared.source.Size.{Size}
use Rattle.packet.specs.declared.source.Size.TheVariants.{Wait, Foreign, Total}
use Rattle.channel.specs.Rules.{judged, state_follows}
use Rattle.channel.specs.declared.state.State.TheVariants.{Gathering}
use Rattle.channel.proofs.RuleLaws.{both, and, gathers_told}
use Rattle.walk.specs.declared.walking.End.{End}
use Rattle.std.specs.Prelude.{Result, Err, Ok}
use Rattle.walk.specs.Walk.{front, seen_of, cut_of, walk_of}
use Rattle.octets.proofs.OctetLaws.{octets_drop, octets_take, octets_append}
use Rattle.walk.proofs.WalkLaws.{seen_whole, walk_stop, walk_whole, walk_ind}

-- two answers that are not one
clash : {A : Type 0} → ◌≡◌ {A = ℕ} 0 1 → A
clash z = absurd (omega arith)

-- of k held octets that keep the rules, the packet's total is above k, and at most the limit unless they wait
pub held_total : (F : Family) (laws : Lawful F) (limit k n : ℕ) (part more : List ℕ) → length part ≡ limit
    → state_follows F limit part (Gathering k) ≡ true → F.size (take k part ++ more) ≡ Total n → (k < n) × (limit < n → k < F.header)
unfolding judged
held_total F laws limit k n part more l e t = go (F.size (take k part)) refl (gathers_told F limit part k e).2
  where
    w : length (take k part) ≡ k
    w = length-take-le k part (gathers_told F limit part k e).1

    above : F.size (take k part) ≡ Wait → Dec (k < n) → k < n
    above p (yes h) = h
    above p (no h) = clash (cc (laws.last_tells (take k part) more n t (omega (arith, w))))

    go : (s : Size) → F.size (take k part) ≡ s → judged limit k s ≡ true → (k < n) × (limit < n → k < F.header)
    go Wait p j = (above p (dec_lt k n), λ h. omega (arith, w, laws.header_tells (take k part) p))
    go Foreign p j = clash (cc)
    go (Total m) p j =
        let same : m ≡ n = cc (laws.total_stays (take k part) more m p) in
        let i = both (ltb k m) (leb m limit) j in
        (omega (arith, ltb-true k m i.0), λ h. absurd (omega (arith, leb-true m limit i.1)))

-- what a walk's end must be for the channel to keep the rules; O is what is known of the octets
abbrev pub EndFollows : Family → ℕ → Type 0 → End → List ℕ → Type 0
EndFollows F limit O End.Foreign rest = Unit {0}
EndFollows F limit O End.Exact rest = Unit {0}
EndFollows F limit O (End.Cut k) rest = (length rest ≡ k) × (k < limit) × (judged limit k (F.size rest) ≡ true) × (O → Octets rest)
EndFollows F limit O (End.Oversize r) rest = (1 ≤ r) × (O → r ≤ F.most_skip)

abbrev SeenFollows : Family → ℕ → Type 0 → List ℕ → Result ℕ End → Type 0
SeenFollows F limit O d (Err e) = EndFollows F limit O e (cut_of e d)
SeenFollows F limit O d (Ok n) = Unit {0}

module _ (F : Family) (laws : Lawful F) (limit : ℕ) (O : Type 0) (wide : F.header ≤ limit) where
  seen_follows : (d : List ℕ) → (O → Octets d) → ((t : ℕ) → F.size d ≡ Total t → limit < t → length d < t)
      → SeenFollows F limit O d (seen_of F limit d)
  unfolding seen_of front cut_of judged
  seen_follows d octets over = go (F.size d) refl
    where
      waits : F.size d ≡ Wait → (b : Bool) → SeenFollows F limit O d (Err (pick b End.Exact (End.Cut (length d))))
      waits p true = tt
      waits p false = (refl, omega (arith, laws.header_tells d p), rw p, octets)

      tells : (t : ℕ) → F.size d ≡ Total t → (a : Bool) → ltb limit t ≡ a → (b : Bool) → leb t (length d) ≡ b
          → SeenFollows F limit O d (pick a (Err (End.Oversize (t - length d))) (pick b (Ok t) (Err (End.Cut (length d)))))
      tells t p true q b r = (
        omega (arith, over t p (ltb-true limit t q)),
        λ o. omega (arith, laws.skip_most d t (octets o) p),
      )
      tells t p false q true r = tt
      tells t p false q false r =
          let short : length d < t = leb-false t (length d) r in
          let within : t ≤ limit = ltb-false limit t q in
          (refl, omega arith, rw p (and (lt-ltb (length d) t short) (le-leb t limit within)), octets)

      go : (s : Size) → F.size d ≡ s → SeenFollows F limit O d (front limit s (length d))
      go Wait p = waits p (eqb (length d) 0)
      go Foreign p = tt
      go (Total t) p = tells t p (ltb limit t) refl (leb t (length d)) refl

  -- the end of a walk over a run that is no longer than the limit
  pub walk_follows : (d : List ℕ) → length d ≤ limit → (O → Octets d) → EndFollows F limit O (walk_of F limit d).end (walk_of F limit d).rest
  walk_follows =
      walk_ind F laws limit (λ d. length d ≤ limit → (O → Octets d) → EndFollows F limit O (walk_of F limit d).end (walk_of F limit d).rest)
      (λ d e s l o. rw (walk_stop F laws limit d e s) (rw s at (seen_follows d o (λ t p h. omega arith))))
      (λ d n s h l o. rw (walk_whole F laws limit d n s) (h (omega (arith, length-drop n d)) (λ p. octets_drop d n (o p))))

  -- the end of a walk over held octets that keep the rules, and a field behind them
  pub held_follows : (k : ℕ) (part field : List ℕ) → length part ≡ limit → length field + F.header ≤ limit → state_follows F limit part (Gathering k) ≡ true
      → (O → Octets part) → (O → Octets field)
      → EndFollows F limit O (walk_of F limit (take k part ++ field)).end (walk_of F limit (take k part ++ field)).rest
  held_follows k part field l w e op of = go (seen_of F limit d) refl
    where
      d : List ℕ
      d = take k part ++ field

      long : length d ≤ k + length field
      long = simp length-append (omega (arith, length-take k part))

      octets : O → Octets d
      octets o = octets_append (take k part) field (octets_take part k (op o)) (of o)

      over : (t : ℕ) → F.size d ≡ Total t → limit < t → length d < t
      over t p h = omega (arith, long, (held_total F laws limit k t part field l e p).1 h)

      go : (s : Result ℕ End) → seen_of F limit d ≡ s → EndFollows F limit O (walk_of F limit d).end (walk_of F limit d).rest
      go (Err e) s = rw (walk_stop F laws limit d e s) (rw s at (seen_follows d octets over))
      go (Ok n) s =
          let beyond = (held_total F laws limit k n part field l e (seen_whole F laws limit d n s).told).0 in
          rw (walk_whole F laws limit d n s) (walk_follows (drop n d) (omega (arith, long, length-drop n d)) (λ o. octets_drop d n (octets o)))
