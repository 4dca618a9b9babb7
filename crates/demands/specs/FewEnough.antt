-- "One call finishes at most one packet for each seven octets of its data field, rounded up": for every accepted frame and every record. It
-- is the case of source packets of the reader's theorem over any packet family.
use Rattle.std.specs.Prelude.{List, ◌≡◌, ℕ, ◌+◌, ◌/◌, ◌≤◌, Ok}
use Rattle.frame.specs.Opening.{frame_of}
use Rattle.frame.specs.declared.set_up.SetUp.{SetUp}
use Rattle.channel.specs.declared.state.Record.{Record}
use Rattle.reading.specs.Reading.{answer_of}
use Rattle.reading.specs.Theorems.{skip_ended}
use Rattle.reading.specs.declared.Report.{Report}

-- delivered plus idle, plus 1 if a skip ended, is at most D / 7 rounded up
abbrev pub FewEnough : Type 0
FewEnough = (u : SetUp) (rec : Record) (store out f : List ℕ) (a : Report) → answer_of u rec store out f ≡ Ok a
    → a.delivered + a.idle + skip_ended (frame_of u f) rec ≤ ((frame_of u f).size + 6) / 7
