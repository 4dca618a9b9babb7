-- The laws of specs/Table.antt: the first cause found, one row at a time, and exactly.
-- Assumes nothing.
use mathlib.Core.Path.{◌≡◌, refl, ◌∙◌, sym, ap, subst}
use mathlib.Core.Bool.{Bool, true, false}
use mathlib.Core.List.{List, [], ◌∷◌}
use mathlib.Core.Logic.{◌⊎◌, inl, inr}
use Rattle.table.specs.Table.{Row, row, first_cause, First, None, FirstGives, NoneGives, FirstExactly, NoneExactly, Made}

module _ {R A : Type 0} (refused : R → A) (accepted : A) (r : R) (rows : List (Row R)) where
  -- a row whose cause holds gives the answer
  pub here : {b : Bool} → b ≡ true → first_cause (row r b ∷ rows) refused accepted ≡ refused r
  unfolding first_cause
  here e = rw e

  -- a row whose cause does not hold leaves it to the next
  pub next : {b : Bool} → b ≡ false → first_cause (row r b ∷ rows) refused accepted ≡ first_cause rows refused accepted
  unfolding first_cause
  next e = rw e

-- a table has a first cause, or none
module _ {R : Type 0} where
  found_here : (a : Row R) (rows : List (Row R)) (b : Bool) → a.cause ≡ b → ((r : R) × First rows r) ⊎ None rows
      → ((r : R) × First (a ∷ rows) r) ⊎ None (a ∷ rows)
  found_here a rows true c o = inl (a.case, inl (refl, c))
  found_here a rows false c (inl f) = inl (f.0, inr (c, f.1))
  found_here a rows false c (inr n) = inr (c, n)

  found : (rows : List (Row R)) → ((r : R) × First rows r) ⊎ None rows
  found [] = inr tt
  found (a ∷ rows) = found_here a rows a.cause refl (found rows)

module _ {R A : Type 0} (refused : R → A) (accepted : A) where
  pub first_gives : FirstGives refused accepted
  first_gives [] r f = absurd f
  first_gives (a ∷ rows) r (inl h) = here refused accepted a.case rows h.1 ∙ ap refused h.0
  first_gives (a ∷ rows) r (inr h) = next refused accepted a.case rows h.0 ∙ first_gives rows r h.1

  pub none_gives : NoneGives refused accepted
  unfolding first_cause
  none_gives [] n = refl
  none_gives (a ∷ rows) n = next refused accepted a.case rows n.0 ∙ none_gives rows n.1

  pub first_exactly : FirstExactly refused accepted
  first_exactly one other rows r = (by (found rows), first_gives rows r)
    where
      by : ((s : R) × First rows s) ⊎ None rows → first_cause rows refused accepted ≡ refused r → First rows r
      by (inl f) e = subst (First rows) (one f.0 r (sym (first_gives rows f.0 f.1) ∙ e)) f.1
      by (inr n) e = absurd (other r (sym (none_gives rows n) ∙ e))

  pub none_exactly : NoneExactly refused accepted
  none_exactly y other rows = (by (found rows), λ h. none_gives rows h.1 ∙ h.0)
    where
      by : ((s : R) × First rows s) ⊎ None rows → first_cause rows refused accepted ≡ y → (accepted ≡ y) × None rows
      by (inl f) e = absurd (other f.0 (sym (first_gives rows f.0 f.1) ∙ e))
      by (inr n) e = (sym (none_gives rows n) ∙ e, n)

module _ {R A B : Type 0} (g : A → B) (refused : R → A) (accepted : A) where
  pub made : Made g refused accepted
  made rows = by (found rows)
    where
      by : ((r : R) × First rows r) ⊎ None rows → g (first_cause rows refused accepted) ≡ first_cause rows (λ r. g (refused r)) (g accepted)
      by (inl f) = ap g (first_gives refused accepted rows f.0 f.1) ∙ sym (first_gives (λ r. g (refused r)) (g accepted) rows f.0 f.1)
      by (inr n) = ap g (none_gives refused accepted rows n) ∙ sym (none_gives (λ r. g (refused r)) (g accepted) rows n)
