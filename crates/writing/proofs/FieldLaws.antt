-- A laid field: its pointer, whether anything was placed, and what is left over for the next.
-- Assumes nothing.
use mathlib.Core.Path.{◌≡◌, refl, ap}
use mathlib.Core.Bool.{Bool, true, false, ◌&&◌}
use mathlib.Core.List.{List, [], ◌∷◌}
use mathlib.Core.Logic.{◌⊎◌, inl, inr, ◌↔◌}
use Prim.Native.Nat.{ℕ, ◌+◌, ◌-◌, ◌≤◌, ◌<◌}
use native.Mathlib.Decide.{dec_lt, ℕ_discrete}
use native.Mathlib.Omega.{arith}
use lib.Dec.{eqb, ltb}
use lib.ListN.{length}
use borrow.Author.Tests.{eq-eqb, eqb-true, ltb-true}
use Rattle.octets.specs.Pick.{pick}
use Rattle.frame.specs.Opening.{none_starts}
use Rattle.frame.specs.Theorems.{Points}
use Rattle.writing.specs.Laying.{left_part, run_part, placed_part, left_after, left_over_after, nothing_of, pointer_of}
use Rattle.writing.proofs.LayingLaws.{length_left, length_run, length_placed, left_after_le, none_after}

and_both : (a b : Bool) → a && b ≡ true → (a ≡ true) × (b ≡ true)
and_both true b e = (refl, e)
and_both false b e = (e, cc)

none_there : (l : List ℕ) → length l ≡ 0 → l ≡ []
none_there [] e = refl
none_there (x ∷ l) e = absurd (omega arith)

-- a pointer that the frame may carry
pub points_well : (D distance left : ℕ) (nothing : Bool) → Points (pointer_of D distance left nothing) D
unfolding pointer_of
points_well D distance left true = inr (inl refl)
points_well D distance left false = go (ltb (left + distance) D) refl
  where
    go : (b : Bool) → ltb (left + distance) D ≡ b → Points (pick b (left + distance) none_starts) D
    go true e = inl (ltb-true (left + distance) D e)
    go false e = inr (inr refl)

module _ (D : ℕ) (run : List ℕ) (offset left : ℕ) (some : 1 ≤ D) (few : left ≤ 6) (inside : offset ≤ length run) where
  -- nothing at all is placed exactly where no left-over and nothing of the run is
  nothing_placed : left ≡ 0 → offset ≡ length run → length (placed_part D run offset left) ≡ 0
  nothing_placed a b = omega (arith, length_placed D run offset left, length_left D left few, length_run D run offset left)

  placed_nothing : length (placed_part D run offset left) ≡ 0 → (left ≡ 0) × (offset ≡ length run)
  placed_nothing e =
      let lp = length_placed D run offset left in
      let a : left ≡ 0 = omega (arith, length_left D left few) in
      (a, omega (arith, length_left D left few, length_run D run offset left))

  pub nothing_exactly : nothing_of run offset left ≡ true ↔ placed_part D run offset left ≡ []
  unfolding nothing_of
  nothing_exactly = (
    λ e. let b = and_both (eqb left 0) (eqb offset (length run)) e in
        none_there (placed_part D run offset left) (nothing_placed (eqb-true left 0 b.0) (eqb-true offset (length run) b.1)),
    λ e. let n = placed_nothing (ap length e) in rw (eq-eqb left 0 n.0, eq-eqb offset (length run) n.1),
  )

  -- a left-over that does not fit leaves no room for the run, and one that fits leaves over what the filler leaves
  no_room : D < left → (length (left_part D left) ≡ D) × (length (run_part D run offset left) ≡ 0)
  no_room h =
      let a : length (left_part D left) ≡ D = omega (arith, length_left D left few) in
      (a, omega (arith, length_run D run offset left))

  all_left : left ≤ D → length (left_part D left) ≡ left
  all_left h = omega (arith, length_left D left few)

  -- room behind the run is there only at its end
  to_end : left ≤ D → (D - length (placed_part D run offset left) ≡ 0 → ⊥) → offset + length (run_part D run offset left) ≡ length run
  to_end h r = let a = all_left h in let p = length_placed D run offset left in omega (arith, length_run D run offset left)

  -- what is left over then: at most six, and nothing unless a left-over did not fit, or the run is at its end
  pub left_then : (left_over_after D run offset left ≤ 6)
      × ((left_over_after D run offset left ≡ 0)
      ⊎ (((left ≡ 0 → ⊥) × (length (run_part D run offset left) ≡ 0)) ⊎ (offset + length (run_part D run offset left) ≡ length run)))
  unfolding left_over_after
  left_then = by (dec_lt D left)
    where
      room : ℕ
      room = D - length (placed_part D run offset left)

      after : ℕ
      after = left_after (length (placed_part D run offset left)) room

      over : ℕ
      over = left - length (left_part D left) + after

      Then : Type 0
      Then = (over ≤ 6) × ((over ≡ 0) ⊎ (((left ≡ 0 → ⊥) × (length (run_part D run offset left) ≡ 0)) ⊎ (offset + length (run_part D run offset left) ≡ length run)))

      fitting : left ≤ D → Dec (room ≡ 0) → Then
      fitting h (yes e) =
          let z : over ≡ 0 = omega (arith, all_left h, none_after (length (placed_part D run offset left)) room e) in
          (omega arith, inl z)
      fitting h (no e) =
          (omega (arith, all_left h, left_after_le (length (placed_part D run offset left)) room), inr (inr (to_end h e)))

      by : Dec (D < left) → Then
      by (yes h) =
          let n = no_room h in
          let r : room ≡ 0 = omega (arith, length_placed D run offset left) in
          (omega (arith, none_after (length (placed_part D run offset left)) room r), inr (inl (λ z. omega arith, n.1)))
      by (no h) = fitting (omega arith) (ℕ_discrete room 0)
