-- What is proved of a reading, over a packet family and a limit, besides the functions' contracts. The proofs are in proofs/Laws.antt, under
-- these names in lower case.
use Rattle.std.specs.Prelude.{◌≡◌, true, not, List, ◌↔◌, ℕ, ◌+◌, ◌*◌, ◌<◌, eqb, length, get_or, Result, Ok, Err}
use Rattle.octets.specs.Pick.{pick}
use Rattle.octets.specs.Octets.{Octets}
use Rattle.packet.specs.Family.{Family, Lawful}
use Rattle.frame.specs.Header.{channels}
use Rattle.frame.specs.Opening.{frame_of}
use Rattle.table.specs.Table.{First, None}
use Rattle.frame.specs.declared.header.Header.{Header}
use Rattle.frame.specs.declared.opening.Frame.{Frame}
use Rattle.frame.specs.declared.set_up.SetUp.{SetUp}
use Rattle.channel.specs.Rules.{record_follows}
use Rattle.channel.specs.State.{fresh_channel}
use Rattle.channel.specs.Store.{part_of}
use Rattle.channel.specs.declared.state.Record.{Record}
use Rattle.channel.specs.declared.state.State.{State}
use Rattle.reading.specs.declared.Refusal.{Refusal}
use Rattle.reading.specs.declared.Report.{Report}
use Rattle.reading.specs.Answers.{kind_number, number_of, values_of}
use Rattle.reading.specs.Reading.{read_table_over, answer_over, record_over, store_over, output_over, channel_of, done_by}
use Rattle.walk.specs.Steps.{carries_none, gap_for}
use Rattle.walk.specs.Theorems.{Roomy, skips_out}

-- a number is given exactly when its cause holds and no earlier one does
abbrev pub NumberExactly : Family → ℕ → Type 0
NumberExactly F limit = (u : SetUp) (rec : Record) (store out f : List ℕ) (r : Refusal)
    → get_or (values_of (answer_over F limit u rec store out f)) 0 0 ≡ number_of r ↔ First (read_table_over F limit u rec store out f) r

-- "In reading, every other returned value is zero"
abbrev pub RefusedZero : Family → ℕ → Type 0
RefusedZero F limit = (u : SetUp) (rec : Record) (store out f : List ℕ) (r : Refusal) (i : ℕ)
    → answer_over F limit u rec store out f ≡ Err r → get_or (values_of (answer_over F limit u rec store out f)) (i + 1) 0 ≡ 0

-- the twenty values of an accepted frame's answer, by their places: the number 0, the kind, the header's values but the version in the order of
-- "Layouts" with flags as 1 and 0, control word, gap, and the counts
pub record TwentyValues (a : Report) : Type 0 where
  pub number : get_or (values_of (Ok a)) 0 0 ≡ 0
  pub kind : get_or (values_of (Ok a)) 1 0 ≡ kind_number a.kind
  pub spacecraft : get_or (values_of (Ok a)) 2 0 ≡ a.header.spacecraft
  pub channel : get_or (values_of (Ok a)) 3 0 ≡ a.header.channel
  pub flagged : get_or (values_of (Ok a)) 4 0 ≡ pick a.header.flagged 1 0
  pub master : get_or (values_of (Ok a)) 5 0 ≡ a.header.master.0
  pub count : get_or (values_of (Ok a)) 6 0 ≡ a.header.count.0
  pub secondary : get_or (values_of (Ok a)) 7 0 ≡ pick a.header.secondary 1 0
  pub synchronisation : get_or (values_of (Ok a)) 8 0 ≡ pick a.header.synchronisation 1 0
  pub order : get_or (values_of (Ok a)) 9 0 ≡ pick a.header.order 1 0
  pub segment : get_or (values_of (Ok a)) 10 0 ≡ a.header.segment
  pub pointer : get_or (values_of (Ok a)) 11 0 ≡ a.header.pointer
  pub word : get_or (values_of (Ok a)) 12 0 ≡ a.word
  pub gap : get_or (values_of (Ok a)) 13 0 ≡ a.gap
  pub delivered : get_or (values_of (Ok a)) 14 0 ≡ a.delivered
  pub idle : get_or (values_of (Ok a)) 15 0 ≡ a.idle
  pub broken : get_or (values_of (Ok a)) 16 0 ≡ a.broken
  pub disagreement : get_or (values_of (Ok a)) 17 0 ≡ a.disagreement
  pub foreign : get_or (values_of (Ok a)) 18 0 ≡ a.foreign
  pub oversize : get_or (values_of (Ok a)) 19 0 ≡ a.oversize

abbrev pub AcceptedValues : Type 0
AcceptedValues = (a : Report) → TwentyValues a

abbrev pub ValuesTwenty : Type 0
ValuesTwenty = (o : Result Report Refusal) → length (values_of o) ≡ 20

-- a frame is accepted exactly when no cause holds
abbrev pub AcceptedExactly : Family → ℕ → Type 0
AcceptedExactly F limit = (u : SetUp) (rec : Record) (store out f : List ℕ)
    → ((a : Report) × (answer_over F limit u rec store out f ≡ Ok a)) ↔ None (read_table_over F limit u rec store out f)

-- "record, store and output are untouched"
pub record Untouched (F : Family) (limit : ℕ) (u : SetUp) (rec : Record) (store out f : List ℕ) : Type 0 where
  pub same_record : record_over F limit u rec store out f ≡ rec
  pub same_store : store_over F limit u rec store out f ≡ store
  pub same_output : output_over F limit u rec store out f ≡ out

abbrev pub RefusedUntouched : Family → ℕ → Type 0
RefusedUntouched F limit = (u : SetUp) (rec : Record) (store out f : List ℕ) (r : Refusal)
    → answer_over F limit u rec store out f ≡ Err r → Untouched F limit u rec store out f

-- every accepted frame keeps the rules of the record, and the lengths
pub record Keeps (F : Family) (limit : ℕ) (u : SetUp) (rec : Record) (store out f : List ℕ) : Type 0 where
  pub follows : record_follows F limit (store_over F limit u rec store out f) (record_over F limit u rec store out f) ≡ true
  pub eight : length (record_over F limit u rec store out f).channels ≡ channels
  pub store_length : length (store_over F limit u rec store out f) ≡ length store
  pub output_length : length (output_over F limit u rec store out f) ≡ length out

abbrev pub AcceptedKeeps : Family → ℕ → Type 0
AcceptedKeeps F limit = Roomy F limit → (u : SetUp) (rec : Record) (store out f : List ℕ) (a : Report) → Octets store → Octets f
    → length rec.channels ≡ channels → answer_over F limit u rec store out f ≡ Ok a → Keeps F limit u rec store out f

-- only the frame's own channel and its part of the store can change
pub record Apart (F : Family) (limit : ℕ) (u : SetUp) (rec : Record) (store out f : List ℕ) (w : ℕ) : Type 0 where
  pub channel_kept : get_or (record_over F limit u rec store out f).channels w fresh_channel ≡ get_or rec.channels w fresh_channel
  pub part_kept : part_of limit w (store_over F limit u rec store out f) ≡ part_of limit w store

abbrev pub OthersApart : Family → ℕ → Type 0
OthersApart F limit = Roomy F limit → (u : SetUp) (rec : Record) (store out f : List ℕ) (a : Report) (w : ℕ)
    → answer_over F limit u rec store out f ≡ Ok a → w < channels → (w ≡ a.header.channel → ⊥) → Apart F limit u rec store out f w

-- step 1: "Heard and last count are set", of the record before and after a frame with header h that left its channel in this state
pub record HeardInWords (h : Header) (state : State) (before after : Record) : Type 0 where
  -- the frame's channel is heard, its last count is the frame's, and its state is that one
  pub heard : (get_or after.channels h.channel fresh_channel).heard ≡ true
  pub last : (get_or after.channels h.channel fresh_channel).last ≡ h.count
  pub state_left : (get_or after.channels h.channel fresh_channel).state ≡ state
  -- the other seven are as they were
  pub others : (w : ℕ) → (w ≡ h.channel → ⊥) → get_or after.channels w fresh_channel ≡ get_or before.channels w fresh_channel

-- so of every accepted frame, with the state of steps 1 to 5
abbrev pub HeardInWordsLaw : Family → ℕ → Type 0
HeardInWordsLaw F limit = (u : SetUp) (rec : Record) (store out f : List ℕ) (a : Report) → length rec.channels ≡ channels
    → answer_over F limit u rec store out f ≡ Ok a
    → HeardInWords a.header (done_by F limit (frame_of u f) rec store f).state rec (record_over F limit u rec store out f)

-- a skip ended in this frame: it carries packets, there is no gap, and the channel skipped to a place within the field
abbrev pub skip_ended : Frame → Record → ℕ
skip_ended x rec =
    pick (carries_none x.header) 0
    (pick (not (eqb (gap_for (channel_of x rec) x.header) 0)) 0
    (pick (skips_out (channel_of x rec).state x.header.pointer x.size) 1 0))

-- each finished packet, and a skip that ended, takes at least the octets of the least packet, but for those of an earlier frame; so with
-- source packets "Delivered plus idle is at most D / 7 rounded up"
abbrev pub FewEnoughLaw : Family → ℕ → Type 0
FewEnoughLaw F limit = Lawful F → (u : SetUp) (rec : Record) (store out f : List ℕ) (a : Report) → answer_over F limit u rec store out f ≡ Ok a
    → F.least * (a.delivered + a.idle + skip_ended (frame_of u f) rec) < (frame_of u f).size + F.least
