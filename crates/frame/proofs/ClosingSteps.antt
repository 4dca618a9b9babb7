-- The table of closing: which test gives which answer.
-- Assumes nothing.
use Rattle.std.proofs.Common.{◌≡◌, ℕ, ◌<◌, ◌≤◌, true, false, List, length, ltb-false, ltb-true, le-ltb, lt-ltb, eq-eqb, ne_eqb, eqb-true, Ok, Err}
use borrow.Author.Tests.{not-false, not-true, eqb-false}
use Rattle.frame.specs.declared.closing.CloseRefusal.TheVariants.{SetUpRange, ChannelAbove, OutputLength}
use Rattle.frame.specs.declared.set_up.SetUp.{SetUp}
use Rattle.frame.specs.Closing.{row20, row25, close_table, close_of}
use Rattle.frame.specs.Opening.{row1}
use Rattle.frame.specs.SetUp.{fits_of}
use Rattle.frame.specs.Theorems.{Row20Exactly, Row25Exactly}
use Rattle.table.specs.Table.{None, first_cause}

-- rows 20 and 25
pub row20_exactly : Row20Exactly
unfolding row20
row20_exactly channel = (
  (λ h. ltb-false channel 8 (not-true _ h), λ h. rw (le-ltb channel 8 h)),
  (λ h. ltb-true channel 8 (not-false _ h), λ h. rw (lt-ltb channel 8 h)),
)

pub row25_exactly : Row25Exactly
unfolding row25
row25_exactly u out = (
  (λ h. eqb-false (length out) u.length (not-true _ h), λ h. rw (ne_eqb (length out) u.length h)),
  (λ h. eqb-true (length out) u.length (not-false _ h), λ h. rw (eq-eqb (length out) u.length h)),
)

-- what the tests decide, in the order of the code
module _ (u : SetUp) (channel : ℕ) (out : List ℕ) where
  pub outside : fits_of u ≡ false → Err SetUpRange ≡ close_of u channel out
  unfolding close_of close_table first_cause row1
  outside a = rw a

  module _ (a : fits_of u ≡ true) where
    pub above : 8 ≤ channel → Err ChannelAbove ≡ close_of u channel out
    unfolding close_of close_table first_cause row1 row20
    above b = rw (a, le-ltb channel 8 b)

    pub other_length : channel < 8 → (length out ≡ u.length → ⊥) → Err OutputLength ≡ close_of u channel out
    unfolding close_of close_table first_cause row1 row20 row25
    other_length b c = rw (a, lt-ltb channel 8 b, ne_eqb (length out) u.length c)

    pub no_cause : channel < 8 → length out ≡ u.length → Ok tt ≡ close_of u channel out
    unfolding close_of close_table first_cause row1 row20 row25
    no_cause b c = rw (a, lt-ltb channel 8 b, eq-eqb (length out) u.length c)

    pub passed : channel < 8 → length out ≡ u.length → None (close_table u channel out)
    unfolding close_table row1 row20 row25
    passed b c = (rw a, (rw (lt-ltb channel 8 b), (rw (eq-eqb (length out) u.length c), tt)))

  -- what holds where no cause does
  pub passing : None (close_table u channel out) → (fits_of u ≡ true) × (channel < 8) × (length out ≡ u.length)
  unfolding close_table row1 row20 row25
  passing n = (not-false _ n.0, ltb-true channel 8 (not-false _ n.1.0), eqb-true (length out) u.length (not-false _ n.1.1.0))
