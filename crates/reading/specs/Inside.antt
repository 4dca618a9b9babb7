-- What only the code's proofs need: what the part of a reading behind the tests answers and leaves, and what it may rely on. No public operation's
-- promise needs this file.
use Rattle.std.specs.Prelude.{true, false, List, ◌≡◌, ℕ, ◌+◌, ◌*◌, ◌≤◌, ◌<◌, length, Result, Ok, Err}
use Rattle.packet.specs.Family.{Family}
use Rattle.frame.specs.Header.{channels}
use Rattle.frame.specs.Opening.{frame_of}
use Rattle.frame.specs.SetUp.{most_field, most_length}
use Rattle.frame.specs.Theorems.{Points}
use Rattle.frame.specs.declared.opening.Frame.{Frame}
use Rattle.frame.specs.declared.set_up.SetUp.{SetUp}
use Rattle.table.specs.Table.{first_cause}
use Rattle.channel.specs.Rules.{record_follows}
use Rattle.channel.specs.declared.state.Record.{Record}
use Rattle.reading.specs.declared.Refusal.{Refusal}
use Rattle.reading.specs.declared.Report.{Report}
use Rattle.reading.specs.Reading.{channel_of, done_by, read_table_over, report_of, record_after, store_after, output_after}

-- what the tests 1 to 12 answer: the first cause found, else the frame
unfoldable pub tested_over : Family → ℕ → SetUp → Record → List ℕ → List ℕ → List ℕ → Result Frame Refusal
tested_over F limit u rec store out f = first_cause (read_table_over F limit u rec store out f) Err (Ok (frame_of u f))

-- what a call must answer and leave behind, of a frame that passed all tests and gives x
pub record ReadBy (F : Family) (limit : ℕ) (x : Frame) (rec : Record) (store out f : List ℕ) (answer : Result Report Refusal) (rec' : Record)
    (store' out' : List ℕ) : Type 0 where
  pub answers : answer ≡ Ok (report_of F x (channel_of x rec) (done_by F limit x rec store f))
  pub record_left : rec' ≡ record_after x rec (done_by F limit x rec store f)
  pub store_left : store' ≡ store_after limit x store (done_by F limit x rec store f)
  pub output_left : out' ≡ output_after F out (done_by F limit x rec store f)

-- what the steps of a frame that gives x may rely on
pub record Ready (F : Family) (limit : ℕ) (rec : Record) (x : Frame) (f store out : List ℕ) : Type 0 where
  pub store_whole : length store ≡ limit * channels
  pub output_room : limit + most_length ≤ length out
  pub follows : record_follows F limit store rec ≡ true
  pub inside : x.place + x.size ≤ length f
  pub some : 1 ≤ x.size
  pub few : x.size ≤ most_field
  pub channel : x.header.channel < channels
  pub points : x.header.synchronisation ≡ false → Points x.header.pointer x.size
