-- What the loop over the frames keeps from frame to frame, whatever is printed and written in between.
use Rattle.std.specs.Prelude.{List, ◌≡◌, ℕ}
use Rattle.frame.specs.declared.set_up.SetUp.{SetUp}
use Rattle.reading.specs.Reading.{answer_of, record_of, store_of}
use Rattle.desk.specs.Counting.{totals_after}
use Rattle.desk.specs.declared.taking.Desk.{Desk}

-- after frame f: record and store as the reader leaves them, and one frame more in the counts
pub record Keeps (u : SetUp) (before : Desk) (store out f : List ℕ) (after : Desk) (store' : List ℕ) : Type 0 where
  pub record_kept : after.rec ≡ record_of u before.rec store out f
  pub store_kept : store' ≡ store_of u before.rec store out f
  pub counts_kept : after.totals ≡ totals_after before.totals (answer_of u before.rec store out f)
