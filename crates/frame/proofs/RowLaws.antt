-- What decides row 12, and what rows 6, 9 and 11 say where they pass.
-- Assumes nothing.
use Rattle.std.proofs.Common.{◌≡◌, ℕ, ◌+◌, Bool, true, false, not, ◌&&◌, ◌||◌, eqb, ltb, ◌⊎◌, ◌↔◌, List, sym, refl, inl, inr, arith, ltb-true, lt-ltb, eq-eqb, eqb-true}
use borrow.Author.Tests.{not-false}
use Rattle.crc.specs.Register.{syndrome_of}
use Rattle.octets.specs.Layout.{value_in}
use Rattle.frame.specs.Header.{secondary_header, length_less_one}
use Rattle.frame.specs.declared.header.Header.{Header}
use Rattle.frame.specs.declared.set_up.SetUp.{SetUp}
use Rattle.frame.specs.Opening.{row6, row9, row11, row12, secondary_version, secondary_size, idle_data, none_starts}
use Rattle.frame.specs.Theorems.{Points, Row12Exactly}

-- row 9 and the secondary header's size, each where its flag says that it is there and where not
module _ (h : Header) (f : List ℕ) where
  pub row9_tested : (v : ℕ) → h.secondary ≡ true → v ≡ secondary_version f → not (eqb v 0) ≡ row9 h f
  unfolding row9
  row9_tested v s e = rw (s, e)

  pub row9_passed : h.secondary ≡ false → false ≡ row9 h f
  unfolding row9
  row9_passed s = rw s

  pub size_there : (n : ℕ) → h.secondary ≡ true → n ≡ value_in secondary_header f 6 length_less_one + 1 → n ≡ secondary_size h f
  unfolding secondary_size
  size_there n s e = rw (s, e)

  pub size_none : h.secondary ≡ false → 0 ≡ secondary_size h f
  unfolding secondary_size
  size_none s = rw s

-- a row of two tests that passes: where the first holds, the second does not
second_passes : (a b : Bool) → a && b ≡ false → a ≡ true → b ≡ false
second_passes a b e h = rw h at e

neither : (a b : Bool) → a || b ≡ false → (a ≡ false) × (b ≡ false)
neither true b e = (e, cc)
neither false b e = (refl, e)

pub row6_zero : (u : SetUp) (f : List ℕ) → row6 u f ≡ false → u.error_control ≡ true → syndrome_of f ≡ 0
unfolding row6
row6_zero u f e a = eqb-true (syndrome_of f) 0 (not-false _ (second_passes u.error_control _ e a))

pub row9_zero : (h : Header) (f : List ℕ) → row9 h f ≡ false → h.secondary ≡ true → secondary_version f ≡ 0
unfolding row9
row9_zero h f e a = eqb-true (secondary_version f) 0 (not-false _ (second_passes h.secondary _ e a))

pub row11_whole : (h : Header) → row11 h ≡ false → h.synchronisation ≡ false → (h.order ≡ false) × (h.segment ≡ 3)
unfolding row11
row11_whole h e s =
    let n = neither h.order (not (eqb h.segment 3)) (rw s at e) in
    (n.0, eqb-true h.segment 3 (not-false _ n.1))

-- so a pointer that passes is below D, or one of the two
or_either : (a b : Bool) → a || b ≡ true → (a ≡ true) ⊎ (b ≡ true)
or_either true b e = inl refl
or_either false b e = inr e

or_second : (a : Bool) {b : Bool} → b ≡ true → a || b ≡ true
or_second true e = refl
or_second false e = e

false_true : false ≡ true → ⊥
false_true e = let z : ◌≡◌ {A = ℕ} 0 1 = cc in omega arith

points : (p D : ℕ) → ltb p D || (eqb p idle_data || eqb p none_starts) ≡ true → Points p D
points p D e = below (or_either (ltb p D) (eqb p idle_data || eqb p none_starts) e)
  where
    one : (eqb p idle_data ≡ true) ⊎ (eqb p none_starts ≡ true) → Points p D
    one (inl h) = inr (inl (eqb-true p idle_data h))
    one (inr h) = inr (inr (eqb-true p none_starts h))

    below : (ltb p D ≡ true) ⊎ (eqb p idle_data || eqb p none_starts ≡ true) → Points p D
    below (inl h) = inl (ltb-true p D h)
    below (inr h) = one (or_either (eqb p idle_data) (eqb p none_starts) h)

named : (p D : ℕ) → Points p D → ltb p D || (eqb p idle_data || eqb p none_starts) ≡ true
named p D (inl h) = rw (lt-ltb p D h)
named p D (inr (inl h)) = or_second (ltb p D) (rw (eq-eqb p idle_data h))
named p D (inr (inr h)) = or_second (ltb p D) (or_second (eqb p idle_data) (eq-eqb p none_starts h))

-- a row of two tests that must both fail
both_fail : (a b : Bool)
    → (not a && not b ≡ true ↔ ((a ≡ false) × (b ≡ true → ⊥))) × (not a && not b ≡ false ↔ (a ≡ false → b ≡ true))
both_fail true b = ((λ h. absurd (false_true h), λ h. absurd (false_true (sym h.0))), (λ h a. absurd (false_true (sym a)), λ h. refl))
both_fail false true = ((λ h. absurd (false_true h), λ h. absurd (h.1 refl)), (λ h a. refl, λ h. refl))
both_fail false false = ((λ h. (refl, false_true), λ h. refl), (λ h. absurd (false_true (sym h)), λ h. absurd (false_true (h refl))))

pub row12_exactly : Row12Exactly
unfolding row12
row12_exactly h D =
    let p = h.pointer in
    let t = both_fail h.synchronisation (ltb p D || (eqb p idle_data || eqb p none_starts)) in (
      (λ e. let x = t.0.0 e in (x.0, λ y. x.1 (named p D y)), λ x. t.0.1 (x.0, λ y. x.1 (points p D y))),
      (λ e s. points p D (t.1.0 e s), λ x. t.1.1 (λ s. named p D (x s))),
    )

pub row12_points : (h : Header) (D : ℕ) → row12 h D ≡ false → h.synchronisation ≡ false → Points h.pointer D
row12_points h D e s = (row12_exactly h D).1.0 e s
