-- What is proved of the frame part besides its functions' contracts, with the laws that those above use of it. The proofs are in proofs/, most
-- of them in Laws.antt, under these names in lower case; the crate table has the laws of a table.
use Rattle.std.specs.Prelude.{◌≡◌, ℕ, ◌+◌, ◌%◌, ◌^◌, ◌<◌, ◌≤◌, nat_lt, ◌==◌, not, true, false, ◌⊎◌, ◌↔◌, List, length, take, drop, ◌≢◌, slice_index, slice_index_or, Option, Some, Result, Ok, Err}
use Rattle.crc.specs.Register.{syndrome_of}
use Rattle.octets.specs.Layout.{LaidIn}
use Rattle.octets.specs.Octets.{Octets}
use Rattle.octets.specs.Pick.{pick}
use Rattle.frame.specs.declared.closing.CloseRefusal.{CloseRefusal}
use Rattle.frame.specs.declared.closing.ControlWord.{ControlWord}
use Rattle.frame.specs.declared.counts.ChannelCount.{ChannelCount}
use Rattle.frame.specs.declared.counts.MasterCount.{MasterCount}
use Rattle.frame.specs.declared.header.Header.{Header}
use Rattle.frame.specs.declared.opening.Frame.{Frame}
use Rattle.frame.specs.declared.opening.Refusal.{Refusal}
use Rattle.frame.specs.declared.set_up.SetUp.{SetUp}
use Rattle.frame.specs.Answers.{number_of, values_of, close_number_of, close_value_of}
use Rattle.frame.specs.Closing.{row20, row25, close_table, close_of, close_size, field_in, flagged_by, frame_around, output_of, word_octets}
use Rattle.frame.specs.Counts.{gap_of}
use Rattle.frame.specs.Header.{channels, frame_header, secondary_header, version_of}
use Rattle.frame.specs.Opening.{row1, row12, secondary_version, frame_table, open_table, open_of, frame_of, idle_data, none_starts}
use Rattle.frame.specs.SetUp.{fits_of, most_field}
use Rattle.table.specs.Table.{First, None, first_cause}

-- row 1 in the paper's own numbers: N "13 to 2,048 octets, a spacecraft number 0 to 1,023"
pub record InRange (u : SetUp) : Type 0 where
  pub least : 13 ≤ u.length
  pub most : u.length ≤ 2048
  pub spacecraft : u.spacecraft ≤ 1023

abbrev pub InRangeLaw : Type 0
InRangeLaw = (u : SetUp) → fits_of u ≡ true ↔ InRange u

-- it is given exactly when one of them is outside its range, which is when the set-up does not fit
abbrev pub Row1Exactly : Type 0
Row1Exactly = (u : SetUp) → row1 u ≡ true ↔ (InRange u → ⊥)

abbrev pub Row1Fits : Type 0
Row1Fits = (u : SetUp) → (row1 u ≡ true ↔ (fits_of u ≡ false)) × (row1 u ≡ false ↔ (fits_of u ≡ true))

-- rows 1, 20 and 25 as the tests that they are
abbrev pub RowsTested : Type 0
RowsTested = (u : SetUp) (channel : ℕ) (out : List ℕ)
    → (row1 u ≡ not (fits_of u)) × (row20 channel ≡ not (nat_lt channel channels)) × (row25 u out ≡ not (length out == u.length))

-- "Frame header, 6 octets": its layout is one of which the laws of octets/specs/Layout speak
abbrev pub HeaderLaid : Type 0
HeaderLaid = LaidIn frame_header 6

-- so is that of the one octet that a secondary header begins with
abbrev pub SecondaryLaid : Type 0
SecondaryLaid = LaidIn secondary_header 1

-- no two refusals have the same number, and none has 0, which says that there is none
abbrev pub NumberOne : Type 0
NumberOne = (s r : Refusal) → number_of s ≡ number_of r → s ≡ r

abbrev pub NumberSome : Type 0
NumberSome = (r : Refusal) → 0 < number_of r

abbrev pub CloseNumberOne : Type 0
CloseNumberOne = (s r : CloseRefusal) → close_number_of s ≡ close_number_of r → s ≡ r

abbrev pub CloseNumberSome : Type 0
CloseNumberSome = (r : CloseRefusal) → 0 < close_number_of r

-- a number is given exactly when its cause holds and no earlier one does
abbrev pub NumberExactly : Type 0
NumberExactly = (u : SetUp) (f : List ℕ) (r : Refusal) → slice_index (values_of (open_of u f)) 0 ≡ number_of r ↔ First (open_table u f) r

-- a frame is accepted, with what it gives, exactly when no cause holds
abbrev pub AcceptedExactly : Type 0
AcceptedExactly = (u : SetUp) (f : List ℕ) (x : Frame) → open_of u f ≡ Ok x ↔ ((x ≡ frame_of u f) × None (open_table u f))

-- of a set-up that fits, the answer is that of rows 5 to 12
abbrev pub OpenedInRange : Type 0
OpenedInRange = (u : SetUp) (f : List ℕ) → fits_of u ≡ true → open_of u f ≡ first_cause (frame_table u f) Err (Ok (frame_of u f))

-- of a set-up that fits, rows 5 to 12 decide: a refusal is given exactly when its cause is the first among them
abbrev pub FrameRefused : Type 0
FrameRefused = (u : SetUp) (f : List ℕ) (r : Refusal) → fits_of u ≡ true → open_of u f ≡ Err r ↔ First (frame_table u f) r

-- and a frame is accepted exactly when the set-up fits and none of them holds
abbrev pub FrameAccepted : Type 0
FrameAccepted = (u : SetUp) (f : List ℕ) (x : Frame)
    → open_of u f ≡ Ok x ↔ ((x ≡ frame_of u f) × (fits_of u ≡ true) × None (frame_table u f))

-- an opening has fourteen values, a reading of the answer as numbers: "A refusal returns its number [..] every other returned value is zero"
abbrev pub ValuesFourteen : Type 0
ValuesFourteen = (o : Result Frame Refusal) → length (values_of o) ≡ 14

-- "every other returned value is zero"
abbrev pub RefusedZero : Type 0
RefusedZero = (u : SetUp) (f : List ℕ) (r : Refusal) (i : ℕ) → open_of u f ≡ Err r → slice_index (values_of (open_of u f)) (i + 1) ≡ 0

-- the fourteen values of a frame, by their places: the number 0, the header's values but the version in the order of "Layouts" with flags as 1
-- and 0, the control word, place and octets of the data field
pub record FourteenValues (o : Result Frame Refusal) (x : Frame) : Type 0 where
  pub number : slice_index_or (values_of o) 0 0 ≡ 0
  pub spacecraft : slice_index_or (values_of o) 1 0 ≡ x.header.spacecraft
  pub channel : slice_index_or (values_of o) 2 0 ≡ x.header.channel
  pub flagged : slice_index_or (values_of o) 3 0 ≡ pick x.header.flagged 1 0
  pub master : slice_index_or (values_of o) 4 0 ≡ x.header.master.0
  pub count : slice_index_or (values_of o) 5 0 ≡ x.header.count.0
  pub secondary : slice_index_or (values_of o) 6 0 ≡ pick x.header.secondary 1 0
  pub synchronisation : slice_index_or (values_of o) 7 0 ≡ pick x.header.synchronisation 1 0
  pub order : slice_index_or (values_of o) 8 0 ≡ pick x.header.order 1 0
  pub segment : slice_index_or (values_of o) 9 0 ≡ x.header.segment
  pub pointer : slice_index_or (values_of o) 10 0 ≡ x.header.pointer
  pub word : slice_index_or (values_of o) 11 0 ≡ x.word
  pub place : slice_index_or (values_of o) 12 0 ≡ x.place
  pub size : slice_index_or (values_of o) 13 0 ≡ x.size

-- an accepted frame has the values of what it gives
abbrev pub AcceptedValues : Type 0
AcceptedValues = (u : SetUp) (f : List ℕ) (x : Frame) → open_of u f ≡ Ok x → FourteenValues (open_of u f) x

-- a pointer that a frame with D octets of data may carry
abbrev pub Points : ℕ → ℕ → Type 0
Points p D = (p < D) ⊎ ((p ≡ idle_data) ⊎ (p ≡ none_starts))

-- row 12 is given exactly when the synchronisation flag is 0 and the pointer is none of these
abbrev pub Row12Exactly : Type 0
Row12Exactly = (h : Header) (D : ℕ)
    → (row12 h D ≡ true ↔ ((h.synchronisation ≡ false) × (Points h.pointer D → ⊥)))
    × (row12 h D ≡ false ↔ (h.synchronisation ≡ false → Points h.pointer D))

-- what an accepted frame promises to those above: the tests that it passed, in words, and the bounds of what it gives
pub record Sound (u : SetUp) (f : List ℕ) (x : Frame) : Type 0 where
  -- test 1, and test 5
  pub fits : fits_of u ≡ true
  pub octets : length f ≡ u.length
  -- test 6: a frame of a set-up with error control has syndrome zero
  pub undamaged : u.error_control ≡ true → syndrome_of f ≡ 0
  -- test 7, test 8, and test 9
  pub version : version_of f ≡ 0
  pub spacecraft : x.header.spacecraft ≡ u.spacecraft
  pub secondary : x.header.secondary ≡ true → secondary_version f ≡ 0
  -- the data field lies inside the frame and has D octets, 1 to 2,042; the least is test 10
  pub inside : x.place + x.size ≤ length f
  pub least : 1 ≤ x.size
  pub most : x.size ≤ most_field
  pub field : length (take x.size (drop x.place f)) ≡ x.size
  -- test 11: order flag 0 and segment id 11 when the synchronisation flag is 0
  pub order : x.header.synchronisation ≡ false → x.header.order ≡ false
  pub segment : x.header.synchronisation ≡ false → x.header.segment ≡ 3
  -- test 12: a pointer below D, 2046 or 2047 when the synchronisation flag is 0
  pub pointer : x.header.synchronisation ≡ false → Points x.header.pointer x.size
  -- a channel of the eight, counts of 8 bits, a segment id of 2 and a pointer of 11, whatever numbers the list has
  pub channel : x.header.channel < channels
  pub master_bits : x.header.master.0 < 256
  pub count_bits : x.header.count.0 < 256
  pub segment_bits : x.header.segment < 4
  pub pointer_bits : x.header.pointer < 2048

abbrev pub OpenedSound : Type 0
OpenedSound = (u : SetUp) (f : List ℕ) (x : Frame) → open_of u f ≡ Ok x → Sound u f x

-- row 20 is given exactly when the channel is above 7, row 25 exactly when the output is not N octets
abbrev pub Row20Exactly : Type 0
Row20Exactly = (channel : ℕ) → (row20 channel ≡ true ↔ (7 < channel)) × (row20 channel ≡ false ↔ (channel < channels))

abbrev pub Row25Exactly : Type 0
Row25Exactly = (u : SetUp) (out : List ℕ)
    → (row25 u out ≡ true ↔ (length out ≢ u.length)) × (row25 u out ≡ false ↔ (length out ≡ u.length))

-- closing: a number is given exactly when its cause holds and no earlier one does, and then no octet changes
abbrev pub CloseExactly : Type 0
CloseExactly = (u : SetUp) (channel : ℕ) (out : List ℕ) (r : CloseRefusal)
    → close_value_of (close_of u channel out) ≡ close_number_of r ↔ First (close_table u channel out) r

abbrev pub CloseUntouched : Type 0
CloseUntouched = (u : SetUp) (channel : ℕ) (m : MasterCount) (c : ChannelCount) (w : Option ControlWord) (p : ℕ) (out : List ℕ) (r : CloseRefusal)
    → close_of u channel out ≡ Err r → output_of u channel m c w p out ≡ out

-- the value is 0, of what is written, exactly when no cause holds
abbrev pub CloseWritten : Type 0
CloseWritten = (u : SetUp) (channel : ℕ) (out : List ℕ) → close_value_of (close_of u channel out) ≡ 0 ↔ None (close_table u channel out)

-- a frame is written exactly when the set-up fits, the channel is one of the eight and the output has N octets
abbrev pub ClosePasses : Type 0
ClosePasses = (u : SetUp) (channel : ℕ) (out : List ℕ)
    → close_of u channel out ≡ Ok tt ↔ ((fits_of u ≡ true) × (channel < channels) × (length out ≡ u.length))

-- the output is then the frame around the data field that lay in it
abbrev pub CloseAround : Type 0
CloseAround = (u : SetUp) (channel : ℕ) (m : MasterCount) (c : ChannelCount) (w : Option ControlWord) (p : ℕ) (out : List ℕ)
    → close_of u channel out ≡ Ok tt → output_of u channel m c w p out ≡ frame_around u channel m c w p (field_in u w out)

-- of octets, if the data field is of octets
abbrev pub AroundOctets : Type 0
AroundOctets = (u : SetUp) (channel : ℕ) (m : MasterCount) (c : ChannelCount) (w : Option ControlWord) (p : ℕ) (field : List ℕ)
    → Octets field → Octets (frame_around u channel m c w p field)

-- whose parts fill it, and leave the data field 1 to 2,042 octets
pub record Fills (u : SetUp) (w : Option ControlWord) : Type 0 where
  pub full : 6 + close_size u w + length (word_octets w) + pick u.error_control 2 0 ≡ u.length
  pub least : 1 ≤ close_size u w
  pub most : close_size u w ≤ most_field

abbrev pub Sizes : Type 0
Sizes = (u : SetUp) (w : Option ControlWord) → fits_of u ≡ true → Fills u w

-- the number of a control word, 0 for none
abbrev pub word_number : Option ControlWord → ℕ
word_number Option.None = 0
word_number (Some w) = w.0

-- what is closed opens again under that set-up, to exactly the values given, around the data field that lay in the output
abbrev pub ClosedOpens : Type 0
ClosedOpens = (u : SetUp) (channel : ℕ) (m : MasterCount) (c : ChannelCount) (w : Option ControlWord) (p : ℕ) (out : List ℕ)
    → close_of u channel out ≡ Ok tt → m.0 < 256 → c.0 < 256 → word_number w < 2 ^ 32 → Points p (close_size u w)
    → (open_of u (output_of u channel m c w p out)
    ≡ Ok (record {
      header = record {
        spacecraft = u.spacecraft;
        channel = channel;
        flagged = flagged_by w;
        master = m;
        count = c;
        secondary = false;
        synchronisation = false;
        order = false;
        segment = 3;
        pointer = p;
      };
      word = word_number w;
      place = 6;
      size = close_size u w;
    }))
    × (take (close_size u w) (drop 6 (output_of u channel m c w p out)) ≡ field_in u w out)

-- closing looks at a pointer's low 11 bits and at nothing else of it, whatever it answers
abbrev pub ClosedLow : Type 0
ClosedLow = (u : SetUp) (channel : ℕ) (m : MasterCount) (c : ChannelCount) (w : Option ControlWord) (p : ℕ) (out : List ℕ)
    → output_of u channel m c w p out ≡ output_of u channel m c w (p % 2048) out

-- and where test 12 does not let these pass, it refuses what was written when that is opened under that set-up
abbrev pub ClosedRefused : Type 0
ClosedRefused = (u : SetUp) (channel : ℕ) (m : MasterCount) (c : ChannelCount) (w : Option ControlWord) (p : ℕ) (out : List ℕ)
    → close_of u channel out ≡ Ok tt → m.0 < 256 → c.0 < 256 → (Points (p % 2048) (close_size u w) → ⊥)
    → open_of u (output_of u channel m c w p out) ≡ Err Refusal.PointerPlace

-- the control word of an opened frame, or none
abbrev pub own_word : Frame → Option ControlWord
own_word x = pick x.header.flagged (Some (record { 0 = x.word })) Option.None

-- and what opens closes to itself: a frame of octets with no secondary header and synchronisation flag 0, closed over itself with its own
-- channel, counts, control word and pointer, is written, and written as it was
abbrev pub OpenedCloses : Type 0
OpenedCloses = (u : SetUp) (f : List ℕ) (x : Frame)
    → Octets f → open_of u f ≡ Ok x → x.header.secondary ≡ false → x.header.synchronisation ≡ false
    → (close_of u x.header.channel f ≡ Ok tt)
    × (output_of u x.header.channel x.header.master x.header.count (own_word x) x.header.pointer f ≡ f)

-- step 1: the gap, with the frame itself, leads from the last count to this one, and no other number below 256 does
abbrev pub GapExactly : Type 0
GapExactly = (count last gap : ℕ) → count < 256 → last < 256 → gap < 256
    → (gap ≡ gap_of count last) ↔ ((last + gap + 1) % 256 ≡ count)
