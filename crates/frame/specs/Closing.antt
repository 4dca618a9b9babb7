-- Closing a frame: the frame around a data field that lies in its place (01, "Writing one frame"; "Layouts").
use Rattle.std.specs.Prelude.{ℕ, Bool, true, false, not, List, [], ◌∷◌, ◌++◌, length, take, drop, ◌==◌, nat_lt, Option, Some, None, Result, Ok, Err}
use Rattle.crc.specs.Register.{syndrome_of}
use Rattle.octets.specs.Layout.{laid_out}
use Rattle.octets.specs.Numbers.{octets_of}
use Rattle.octets.specs.Pick.{pick}
use Rattle.frame.specs.declared.closing.CloseRefusal.{CloseRefusal}
use Rattle.frame.specs.declared.closing.CloseRefusal.TheVariants.{SetUpRange, ChannelAbove, OutputLength}
use Rattle.frame.specs.declared.closing.ControlWord.{ControlWord}
use Rattle.frame.specs.declared.counts.ChannelCount.{ChannelCount}
use Rattle.frame.specs.declared.counts.MasterCount.{MasterCount}
use Rattle.frame.specs.declared.set_up.SetUp.{SetUp}
use Rattle.frame.specs.Answers.{bit}
use Rattle.frame.specs.Header.{channels, FrameItem, frame_header}
use Rattle.frame.specs.Opening.{row1, data_size}
use Rattle.table.specs.Table.{Row, row, first_cause}

-- row 20: channel above 7
unfoldable pub row20 : ℕ → Bool
row20 channel = not (nat_lt channel channels)

-- row 25: output not N octets
unfoldable pub row25 : SetUp → List ℕ → Bool
row25 u out = not (length out == u.length)

-- rows 1, 20 and 25, in the paper's order
unfoldable pub close_table : SetUp → ℕ → List ℕ → List (Row CloseRefusal)
close_table u channel out = row SetUpRange (row1 u) ∷ row ChannelAbove (row20 channel) ∷ row OutputLength (row25 u out) ∷ []

-- "a control word or none"
unfoldable pub flagged_by : Option ControlWord → Bool
flagged_by None = false
flagged_by (Some w) = true

unfoldable pub word_octets : Option ControlWord → List ℕ
word_octets None = []
word_octets (Some w) = octets_of 4 w.0

-- the value of each item of the header: "No secondary header; synchronisation and order flags 0, segment id 11"
abbrev pub header_value : SetUp → ℕ → MasterCount → ChannelCount → Bool → ℕ → FrameItem → ℕ
header_value u channel master count flagged pointer FrameItem.version = 0
header_value u channel master count flagged pointer FrameItem.spacecraft = u.spacecraft
header_value u channel master count flagged pointer FrameItem.channel = channel
header_value u channel master count flagged pointer FrameItem.control_word_flag = bit flagged
header_value u channel master count flagged pointer FrameItem.master_count = master.0
header_value u channel master count flagged pointer FrameItem.channel_count = count.0
header_value u channel master count flagged pointer FrameItem.secondary_header_flag = 0
header_value u channel master count flagged pointer FrameItem.synchronisation_flag = 0
header_value u channel master count flagged pointer FrameItem.packet_order_flag = 0
header_value u channel master count flagged pointer FrameItem.segment_length_id = 3
header_value u channel master count flagged pointer FrameItem.first_header_pointer = pointer

-- the header's octets. Of a value an item holds its low bits: of a pointer, whatever it is, the low 11.
unfoldable pub header_octets : SetUp → ℕ → MasterCount → ChannelCount → Bool → ℕ → List ℕ
header_octets u channel master count flagged pointer = laid_out frame_header (header_value u channel master count flagged pointer)

-- D, of a frame with no secondary header
unfoldable pub close_size : SetUp → Option ControlWord → ℕ
close_size u word = data_size u 0 (flagged_by word)

-- error control, if set up: "over all octets before the field"
unfoldable pub with_check : SetUp → List ℕ → List ℕ
with_check u f = f ++ pick u.error_control (octets_of 2 (syndrome_of f)) []

-- the whole frame: header, data field, control word, check
unfoldable pub frame_around : SetUp → ℕ → MasterCount → ChannelCount → Option ControlWord → ℕ → List ℕ → List ℕ
frame_around u channel master count word pointer field =
    with_check u (header_octets u channel master count (flagged_by word) pointer ++ field ++ word_octets word)

-- the data field is what stands in its place in the output already
unfoldable pub field_in : SetUp → Option ControlWord → List ℕ → List ℕ
field_in u word out = take (close_size u word) (drop 6 out)

-- the answer, and what the output holds then: on a refusal what it held
unfoldable pub close_of : SetUp → ℕ → List ℕ → Result (Unit {0}) CloseRefusal
close_of u channel out = first_cause (close_table u channel out) Err (Ok tt)

unfoldable pub output_of : SetUp → ℕ → MasterCount → ChannelCount → Option ControlWord → ℕ → List ℕ → List ℕ
output_of u channel master count word pointer out =
    first_cause (close_table u channel out) (λ _. out) (frame_around u channel master count word pointer (field_in u word out))
