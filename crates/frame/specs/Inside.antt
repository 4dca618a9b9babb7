-- What only the proofs of this crate's code need: opening and closing by halves. Nothing above cites it, and no theorem does.
use Rattle.std.specs.Prelude.{ℕ, ◌-◌, List, length, take, drop, Result, Ok, Err}
use Rattle.octets.specs.Pick.{pick}
use Rattle.frame.specs.declared.opening.Frame.{Frame}
use Rattle.frame.specs.declared.opening.Refusal.{Refusal}
use Rattle.frame.specs.declared.set_up.SetUp.{SetUp}
use Rattle.frame.specs.Closing.{with_check}
use Rattle.frame.specs.Opening.{frame_of, open_table}
use Rattle.table.specs.Table.{first_cause}

-- the answer of opening once the first k rows have passed: the first cause found of the others, else what the frame gives
unfoldable pub open_from : ℕ → SetUp → List ℕ → Result Frame Refusal
open_from k u f = first_cause (drop k (open_table u f)) Err (Ok (frame_of u f))

-- the output with the check in its place, over all octets before it, if it is set up
unfoldable pub checked_output : SetUp → List ℕ → List ℕ
checked_output u out = pick u.error_control (with_check u (take (length out - 2) out)) out
