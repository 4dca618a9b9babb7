-- Reading a frame: the table of refusals (01, "When the desk says no"), and what one call answers and leaves behind; over a packet family and
-- the limit of a delivered packet, and at the end for source packets and 4,096.
use Rattle.std.specs.Prelude.{Bool, true, not, List, ◌∷◌, map, ◌≡◌, ℕ, eqb, length, get_or, set, take, drop, Result, Ok, Err}
use Rattle.octets.specs.Laid.{laid}
use Rattle.octets.specs.Pick.{pick}
use Rattle.packet.specs.Family.{Family}
use Rattle.packet.specs.Size.{most, source}
use Rattle.frame.specs.Opening.{row1, frame_table, frame_of, idle_data}
use Rattle.table.specs.Table.{Row, row, first_cause}
use Rattle.frame.specs.declared.header.Header.{Header}
use Rattle.frame.specs.declared.opening.Frame.{Frame}
use Rattle.frame.specs.declared.set_up.SetUp.{SetUp}
use Rattle.frame.specs.declared.opening.Refusal.{Refusal as FrameRefusal}
use Rattle.frame.specs.declared.opening.Refusal.TheVariants.{SetUpRange}
use Rattle.channel.specs.Rules.{record_follows}
use Rattle.channel.specs.State.{fresh_channel}
use Rattle.channel.specs.Store.{store_fits, output_fits, part_of, with_part}
use Rattle.channel.specs.declared.state.Channel.{Channel}
use Rattle.channel.specs.declared.state.Record.{Record}
use Rattle.reading.specs.declared.Refusal.{Refusal}
use Rattle.reading.specs.declared.Refusal.TheVariants.{OfFrame, StoreLength, OutputLength, BrokenRecord}
use Rattle.reading.specs.declared.Report.{Report}
use Rattle.reading.specs.declared.Kind.{Kind}
use Rattle.reading.specs.declared.Kind.TheVariants.{Packets, Idle, Private}
use Rattle.walk.specs.declared.walking.Tally.{Tally}
use Rattle.walk.specs.Steps.{course_of, gap_for, steps_of}
use Rattle.walk.specs.Walk.{Done, handed_all}

-- row 2: the store is not 32,768 octets
abbrev pub row2 : ℕ → List ℕ → Bool
row2 limit store = not (store_fits limit (length store))

-- row 3: the output is under 6,144 octets
abbrev pub row3 : ℕ → List ℕ → Bool
row3 limit out = not (output_fits limit (length out))

-- row 4: any of the eight records breaks the rules
abbrev pub row4 : Family → ℕ → Record → List ℕ → Bool
row4 F limit rec store = not (record_follows F limit store rec)

-- a row of the frame part's table
abbrev pub of_frame : Row FrameRefusal → Row Refusal
of_frame r = row (OfFrame r.case) r.cause

-- rows 1 to 12, in the paper's order: 1, then 2, 3 and 4, then what the frame itself is tested for
unfoldable pub read_table_over : Family → ℕ → SetUp → Record → List ℕ → List ℕ → List ℕ → List (Row Refusal)
read_table_over F limit u rec store out f =
    row (OfFrame SetUpRange) (row1 u) ∷ row StoreLength (row2 limit store) ∷ row OutputLength (row3 limit out)
    ∷ row BrokenRecord (row4 F limit rec store) ∷ map of_frame (frame_table u f)

-- "private if the synchronisation flag is 1, else idle if the pointer is 2046, else packets"
unfoldable pub kind_of : Header → Kind
kind_of h = pick h.synchronisation Private (pick (eqb h.pointer idle_data) Idle Packets)

-- the data field's octets
abbrev pub field_of : Frame → List ℕ → List ℕ
field_of x f = take x.size (drop x.place f)

-- the record of the frame's channel
abbrev pub channel_of : Frame → Record → Channel
channel_of x rec = get_or rec.channels x.header.channel fresh_channel

-- steps 1 to 5 of an accepted frame
abbrev pub done_by : Family → ℕ → Frame → Record → List ℕ → List ℕ → Done
done_by F limit x rec store f =
    steps_of F limit (part_of limit x.header.channel store) (field_of x f) x.header (channel_of x rec)

-- the answer of an accepted frame: "kind [..], header values, control word (zero if not flagged), gap, and the counts"
unfoldable pub report_of : Family → Frame → Channel → Done → Report
report_of F x c d =
    let t : Tally = (course_of F d).tally in
    record {
      kind = kind_of x.header;
      header = x.header;
      word = x.word;
      gap = gap_for c x.header;
      delivered = t.delivered;
      idle = t.idle;
      broken = d.broken;
      disagreement = d.disagreement;
      foreign = d.foreign;
      oversize = d.oversize;
    }

-- "Heard and last count are set"; only the frame's own channel changes
unfoldable pub record_after : Frame → Record → Done → Record
record_after x rec d =
    record { channels = set rec.channels x.header.channel (record { heard = true; last = x.header.count; state = d.state }) }

-- "In the channel's store part the first k octets are the held ones, all others keep theirs."
unfoldable pub store_after : ℕ → Frame → List ℕ → Done → List ℕ
store_after limit x store d =
    with_part limit x.header.channel store (laid (part_of limit x.header.channel store) 0 d.held)

-- "Delivered packets stand end to end from output octet 0; octets after them keep their values."
unfoldable pub output_after : Family → List ℕ → Done → List ℕ
output_after F out d = laid out 0 (handed_all F d.whole)

-- one call: its answer, and the record, store and output that it leaves; "A refusal returns its number; record, store and output are untouched."
unfoldable pub answer_over : Family → ℕ → SetUp → Record → List ℕ → List ℕ → List ℕ → Result Report Refusal
answer_over F limit u rec store out f =
    let x : Frame = frame_of u f in
    first_cause (read_table_over F limit u rec store out f) Err (Ok (report_of F x (channel_of x rec) (done_by F limit x rec store f)))

unfoldable pub record_over : Family → ℕ → SetUp → Record → List ℕ → List ℕ → List ℕ → Record
record_over F limit u rec store out f =
    let x : Frame = frame_of u f in
    first_cause (read_table_over F limit u rec store out f) (λ _. rec) (record_after x rec (done_by F limit x rec store f))

unfoldable pub store_over : Family → ℕ → SetUp → Record → List ℕ → List ℕ → List ℕ → List ℕ
store_over F limit u rec store out f =
    let x : Frame = frame_of u f in
    first_cause (read_table_over F limit u rec store out f) (λ _. store) (store_after limit x store (done_by F limit x rec store f))

unfoldable pub output_over : Family → ℕ → SetUp → Record → List ℕ → List ℕ → List ℕ → List ℕ
output_over F limit u rec store out f =
    let x : Frame = frame_of u f in
    first_cause (read_table_over F limit u rec store out f) (λ _. out) (output_after F out (done_by F limit x rec store f))

-- what a call must answer and leave behind
pub record ReadOver (F : Family) (limit : ℕ) (u : SetUp) (rec : Record) (store out f : List ℕ) (answer : Result Report Refusal) (rec' : Record)
    (store' out' : List ℕ) : Type 0 where
  pub answers : answer ≡ answer_over F limit u rec store out f
  pub record_left : rec' ≡ record_over F limit u rec store out f
  pub store_left : store' ≡ store_over F limit u rec store out f
  pub output_left : out' ≡ output_over F limit u rec store out f

-- all of it for the desk's own packets and limit: source packets of up to 4,096 octets
abbrev pub read_table : SetUp → Record → List ℕ → List ℕ → List ℕ → List (Row Refusal)
read_table = read_table_over source most

abbrev pub answer_of : SetUp → Record → List ℕ → List ℕ → List ℕ → Result Report Refusal
answer_of = answer_over source most

abbrev pub record_of : SetUp → Record → List ℕ → List ℕ → List ℕ → Record
record_of = record_over source most

abbrev pub store_of : SetUp → Record → List ℕ → List ℕ → List ℕ → List ℕ
store_of = store_over source most

abbrev pub output_of : SetUp → Record → List ℕ → List ℕ → List ℕ → List ℕ
output_of = output_over source most

abbrev pub Read : SetUp → Record → List ℕ → List ℕ → List ℕ → Result Report Refusal → Record → List ℕ → List ℕ → Type 0
Read = ReadOver source most
