-- A table of refusals (01, "When the desk says no"): "tests in this order; the first cause found gives the number". Its laws are proved in
-- proofs/Laws.antt, under their names in lower case.
use Rattle.std.specs.Prelude.{◌≡◌, Bool, true, false, List, [], ◌∷◌, ◌⊎◌, ◌↔◌}
use Rattle.octets.specs.Pick.{pick}

-- a row: a case, and whether its cause holds
pub record Row (R : Type 0) : Type 0 where
  pub case : R
  pub cause : Bool

abbrev pub row : {R : Type 0} → R → Bool → Row R
row r b = record { case = r; cause = b }

-- the first cause found gives the answer, else it is accepted
unfoldable pub first_cause : {R A : Type 0} → List (Row R) → (R → A) → A → A
first_cause [] refused accepted = accepted
first_cause (r ∷ rows) refused accepted = pick r.cause (refused r.case) (first_cause rows refused accepted)

-- the case stands in the table, its cause holds, and no earlier one does
abbrev pub First : {R : Type 0} → List (Row R) → R → Type 0
First [] r = ⊥
First (a ∷ rows) r = ((a.case ≡ r) × (a.cause ≡ true)) ⊎ ((a.cause ≡ false) × First rows r)

-- no cause holds
abbrev pub None : {R : Type 0} → List (Row R) → Type 0
None [] = Unit {0}
None (a ∷ rows) = (a.cause ≡ false) × None rows

-- the case whose cause is the first gives the answer, and without a cause it is accepted
abbrev pub FirstGives : {R A : Type 0} → (R → A) → A → Type 0
FirstGives {R} refused accepted = (rows : List (Row R)) (r : R) → First rows r → first_cause rows refused accepted ≡ refused r

abbrev pub NoneGives : {R A : Type 0} → (R → A) → A → Type 0
NoneGives {R} refused accepted = (rows : List (Row R)) → None rows → first_cause rows refused accepted ≡ accepted

-- where no two cases give one answer, nor does an acceptance, a case gives the answer exactly when its cause is the first
abbrev pub FirstExactly : {R A : Type 0} → (R → A) → A → Type 0
FirstExactly {R} refused accepted = ((s r : R) → refused s ≡ refused r → s ≡ r) → ((r : R) → accepted ≡ refused r → ⊥)
    → (rows : List (Row R)) (r : R) → first_cause rows refused accepted ≡ refused r ↔ First rows r

-- an answer that no case gives is the acceptance, exactly when no cause holds
abbrev pub NoneExactly : {R A : Type 0} → (R → A) → A → Type 0
NoneExactly {R} {A} refused accepted = (y : A) → ((r : R) → refused r ≡ y → ⊥) → (rows : List (Row R))
    → first_cause rows refused accepted ≡ y ↔ ((accepted ≡ y) × None rows)

-- what is made of the answer is made of each case's
abbrev pub Made : {R A B : Type 0} → (A → B) → (R → A) → A → Type 0
Made {R} g refused accepted = (rows : List (Row R))
    → g (first_cause rows refused accepted) ≡ first_cause rows (λ r. g (refused r)) (g accepted)
