-- What `fits_of` says.
-- Assumes nothing.
use Rattle.std.proofs.Common.{◌≡◌, ℕ, Bool, true, false, ◌&&◌, leb, sym, refl, ◌∙◌, arith, le-leb, leb-true}
use borrow.Author.Tests.{not-true, not-false}
use Rattle.frame.specs.Opening.{row1}
use Rattle.frame.specs.SetUp.{fits_of}
use Rattle.frame.specs.Theorems.{InRange, InRangeLaw, Row1Exactly, Row1Fits}

true_false : true ≡ false → ⊥
true_false e = let z : ◌≡◌ {A = ℕ} 0 1 = cc in omega arith

and_both : (a b : Bool) → a && b ≡ true → (a ≡ true) × (b ≡ true)
and_both true b e = (refl, e)
and_both false b e = (e, cc)

pub in_range : InRangeLaw
unfolding fits_of
in_range u = (within, λ r. rw (le-leb 13 u.length r.least, le-leb u.length 2048 r.most, le-leb u.spacecraft 1023 r.spacecraft))
  where
    within : leb 13 u.length && (leb u.length 2048 && leb u.spacecraft 1023) ≡ true → InRange u
    within e =
        let p = and_both (leb 13 u.length) (leb u.length 2048 && leb u.spacecraft 1023) e in
        let q = and_both (leb u.length 2048) (leb u.spacecraft 1023) p.1 in
        record { least = leb-true _ _ p.0; most = leb-true _ _ q.0; spacecraft = leb-true _ _ q.1 }

-- row 1
pub row1_fits : Row1Fits
unfolding row1
row1_fits u = ((not-true (fits_of u), λ h. rw h), (not-false (fits_of u), λ h. rw h))

pub row1_exactly : Row1Exactly
row1_exactly u = (λ e r. true_false (sym ((in_range u).1 r) ∙ (row1_fits u).0.0 e), λ h. (row1_fits u).0.1 (outside (fits_of u) refl h))
  where
    outside : (b : Bool) → fits_of u ≡ b → (InRange u → ⊥) → fits_of u ≡ false
    outside true e h = absurd (h ((in_range u).0 e))
    outside false e h = e
