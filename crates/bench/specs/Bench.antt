-- The bench examples B1 to B8 (01, "Bench examples") as one table under one claim, for every store and output of passing length. The proof is
-- in proofs/Bench.antt.
use Rattle.std.specs.Prelude.{◌≡◌, true, false, List, [], ◌∷◌, ◌++◌, ℕ, ◌+◌, ◌≤◌, length, get_or, take, set, replicate, Option, None, Result, Ok, Err}
use Rattle.frame.specs.Opening.{frame_of}
use Rattle.frame.specs.declared.closing.ControlWord.{ControlWord}
use Rattle.frame.specs.declared.set_up.SetUp.{SetUp}
use Rattle.channel.specs.State.{fresh_record}
use Rattle.channel.specs.declared.state.Record.{Record}
use Rattle.channel.specs.declared.state.State.TheVariants.{Hunting}
use Rattle.reading.specs.Answers as reading
use Rattle.reading.specs.Reading as read
use Rattle.reading.specs.declared.Refusal.{Refusal}
use Rattle.reading.specs.declared.Report.{Report}
use Rattle.writing.specs.Answers as writing
use Rattle.writing.specs.Writing as write
use Rattle.writing.specs.declared.Place.{Place}

-- "N = 20, no error control, spacecraft 171, channel 3, no control word, master count 9, channel count 4, offset and left-over 0"
abbrev pub bench : SetUp
bench = record { length = 20; spacecraft = 171; error_control = false }

abbrev pub bench_of : ℕ → SetUp
bench_of N = record { length = N; spacecraft = 171; error_control = false }

abbrev pub bench_place : ℕ → ℕ → ℕ → Place
bench_place left master count = record { offset = 0; left_over = left; master = record { 0 = master }; count = record { 0 = count } }

-- B1's run
abbrev pub run : List ℕ
run = 0x01 ∷ 0x23 ∷ 0xC0 ∷ 0x05 ∷ 0x00 ∷ 0x01 ∷ 0xDE ∷ 0xAD ∷ []

-- the three frames, octet for octet
abbrev pub frame1 : List ℕ
frame1 = 0x0A ∷ 0xB6 ∷ 0x09 ∷ 0x04 ∷ 0x18 ∷ 0x00 ∷ run ++ (0x07 ∷ 0xFF ∷ 0xC0 ∷ 0x00 ∷ 0x00 ∷ 0x00 ∷ [])

abbrev pub frame2 : List ℕ
frame2 = 0x0A ∷ 0xB6 ∷ 0x0A ∷ 0x05 ∷ 0x18 ∷ 0x01 ∷ 0x55 ∷ 0x07 ∷ 0xFF ∷ 0xC0 ∷ 0x00 ∷ 0x00 ∷ 0x06 ∷ replicate 7 0x55

abbrev pub frame3 : List ℕ
frame3 = 0x0A ∷ 0xB6 ∷ 0x0B ∷ 0x06 ∷ 0x1F ∷ 0xFE ∷ replicate 14 0x55

-- a line of the table, with its left side computed from the definitions: it is what the paper says, or at most that
pub data Line : Type 0 where
  line : List ℕ → List ℕ → Line
  at_most : ℕ → ℕ → Line

abbrev pub Holds : Line → Type 0
Holds (line given said) = given ≡ said
Holds (at_most given bound) = given ≤ bound

abbrev pub AllHold : List Line → Type 0
AllHold [] = Unit {0}
AllHold (l ∷ ls) = Holds l × AllHold ls

-- a writing's five values and its frame
abbrev pub written : Place → List ℕ → List ℕ → List ℕ
written p r out =
    writing.values_of (write.answer_of bench 3 p r out) (write.next_of bench 3 p None r out) ++ write.output_of bench 3 p None r out

-- a reading's twenty values
abbrev pub told : Record → List ℕ → List ℕ → List ℕ → List ℕ
told rec store out f = reading.values_of (read.answer_of bench rec store out f)

-- a reading's number
abbrev pub number : SetUp → Record → List ℕ → List ℕ → List ℕ → List ℕ
number u rec store out f = get_or (reading.values_of (read.answer_of u rec store out f)) 0 0 ∷ []

-- a writing's number
abbrev pub writing_number : SetUp → ℕ → Place → Option ControlWord → List ℕ → List ℕ → List ℕ
writing_number u v p word r out = get_or (writing.values_of (write.answer_of u v p r out) (write.next_of u v p word r out)) 0 0 ∷ []

-- how many packets a reading finishes: none if it is refused
abbrev pub packets_finished : Result Report Refusal → ℕ
packets_finished (Err r) = 0
packets_finished (Ok a) = a.delivered + a.idle

-- a record in which channel 3 was heard, last with this count, and hunts
abbrev pub heard_at : ℕ → Record
heard_at last = record { channels = set fresh_record.channels 3 (record { heard = true; last = record { 0 = last }; state = Hunting }) }

-- the twenty values of a frame of the bench: kind, master count, channel count, pointer, gap, delivered, idle, broken
abbrev pub values : ℕ → ℕ → ℕ → ℕ → ℕ → ℕ → ℕ → ℕ → List ℕ
values kind master count pointer gap delivered idle broken =
    0 ∷ kind ∷ 171 ∷ 3 ∷ 0 ∷ master ∷ count ∷ 0 ∷ 0 ∷ 0 ∷ 3 ∷ pointer ∷ 0 ∷ gap ∷ delivered ∷ idle ∷ broken ∷ 0 ∷ 0 ∷ 0 ∷ []

-- what the table is over
pub record Inputs : Type 0 where
  -- a store, an output for each reading, and an output for each writing
  pub store : List ℕ
  pub out₁ : List ℕ
  pub out₂ : List ℕ
  pub out₃ : List ℕ
  pub w : List ℕ
  -- for B7, any frame, and any call of the writer
  pub any_frame : List ℕ
  pub any_channel : ℕ
  pub any_place : Place
  pub any_word : Option ControlWord
  pub any_run : List ℕ
  pub any_output : List ℕ
  -- for B8, any call of the reader
  pub u : SetUp
  pub rec : Record
  pub any_store : List ℕ
  pub any_out : List ℕ
  pub f : List ℕ

-- what is asked of them: the lengths of the bench, and D = 2,042 for B8
pub record Passing (i : Inputs) : Type 0 where
  pub store_whole : length i.store ≡ 32768
  pub room₁ : 6144 ≤ length i.out₁
  pub room₂ : 6144 ≤ length i.out₂
  pub room₃ : 6144 ≤ length i.out₃
  pub output_whole : length i.w ≡ 20
  pub field_of_2042 : (frame_of i.u i.f).size ≡ 2042

-- the table
abbrev pub bench_table : Inputs → List Line
bench_table i =
    let rec₁ : Record = read.record_of bench fresh_record i.store i.out₁ frame1 in
    let store₁ : List ℕ = read.store_of bench fresh_record i.store i.out₁ frame1 in
    let rec₂ : Record = read.record_of bench rec₁ store₁ i.out₂ frame2 in
    let store₂ : List ℕ = read.store_of bench rec₁ store₁ i.out₂ frame2 in
    -- B1: left-over 1
    line (written (bench_place 0 9 4) run i.w) (0 ∷ 8 ∷ 1 ∷ 10 ∷ 5 ∷ frame1)
    -- B2: then the empty run, left-over 0
    ∷ line (written (bench_place 1 10 5) [] i.w) (0 ∷ 0 ∷ 0 ∷ 11 ∷ 6 ∷ frame2)
    -- B3: then the empty run
    ∷ line (written (bench_place 0 11 6) [] i.w) (0 ∷ 0 ∷ 0 ∷ 12 ∷ 7 ∷ frame3)
    -- B4: reading B1, B2, B3 fresh: delivered 1 (8 octets); idle 2; idle frame
    ∷ line (told fresh_record i.store i.out₁ frame1) (values 1 9 4 0 0 1 0 0)
    ∷ line (take 8 (read.output_of bench fresh_record i.store i.out₁ frame1)) run
    ∷ line (told rec₁ store₁ i.out₂ frame2) (values 1 10 5 1 0 0 2 0)
    ∷ line (told rec₂ store₂ i.out₃ frame3) (values 2 11 6 2046 0 0 0 0)
    -- B4: without B2: B3 has gap 1, broken 1
    ∷ line (told rec₁ store₁ i.out₃ frame3) (values 2 11 6 2046 1 0 0 1)
    -- B5: last 254, count 1: gap 2; B1 with that count, on a channel that was heard with that last count
    ∷ line (told (heard_at 254) i.store i.out₁ (set frame1 3 1)) (values 1 9 1 0 2 1 0 0)
    -- B6: pointer 14 in B1: refusal 12; 13 is no refusal 12
    ∷ line (number bench fresh_record i.store i.out₁ (set frame1 5 14)) (12 ∷ [])
    ∷ line (number bench fresh_record i.store i.out₁ (set frame1 5 13)) (0 ∷ [])
    -- B7: N = 12 and 2,049: refusal 1, of any reading and of any writing
    ∷ line (number (bench_of 12) i.rec i.any_store i.any_out i.any_frame) (1 ∷ [])
    ∷ line (number (bench_of 2049) i.rec i.any_store i.any_out i.any_frame) (1 ∷ [])
    ∷ line (writing_number (bench_of 12) i.any_channel i.any_place i.any_word i.any_run i.any_output) (1 ∷ [])
    ∷ line (writing_number (bench_of 2049) i.any_channel i.any_place i.any_word i.any_run i.any_output) (1 ∷ [])
    -- B8: D = 2,042 finishes at most 292, in any reading
    ∷ at_most (packets_finished (read.answer_of i.u i.rec i.any_store i.any_out i.f)) 292
    ∷ []

-- the claim
abbrev pub Bench : Type 0
Bench = (i : Inputs) → Passing i → AllHold (bench_table i)
