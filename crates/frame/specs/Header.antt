-- The frame header (01, "Layouts"; 001 at 5.1): its layout, which reading and writing share, and the values that reading gives.
use Rattle.std.specs.Prelude.{ℕ, List, [], ◌∷◌, ◌==◌}
use Rattle.octets.specs.Layout.{Layout, item, value_in}
use Rattle.frame.specs.declared.header.Header.{Header}

-- "There are eight virtual channels, 0 to 7."
abbrev pub channels : ℕ
channels = 8

-- the items' names, and a number for each
pub data FrameItem : Type 0 where
  version : FrameItem
  spacecraft : FrameItem
  channel : FrameItem
  control_word_flag : FrameItem
  master_count : FrameItem
  channel_count : FrameItem
  secondary_header_flag : FrameItem
  synchronisation_flag : FrameItem
  packet_order_flag : FrameItem
  segment_length_id : FrameItem
  first_header_pointer : FrameItem

abbrev pub frame_name_number : FrameItem → ℕ
frame_name_number version = 0
frame_name_number spacecraft = 1
frame_name_number channel = 2
frame_name_number control_word_flag = 3
frame_name_number master_count = 4
frame_name_number channel_count = 5
frame_name_number secondary_header_flag = 6
frame_name_number synchronisation_flag = 7
frame_name_number packet_order_flag = 8
frame_name_number segment_length_id = 9
frame_name_number first_header_pointer = 10

-- "Frame header, 6 octets: version 2 bits (00), spacecraft 10, channel 3, control-word flag 1, master count 8, channel count 8, secondary header
-- flag 1, synchronisation flag 1, packet order flag 1, segment length id 2, first header pointer 11."
abbrev pub frame_header : Layout FrameItem
frame_header =
    record {
      items =
          item version 2 ∷ item spacecraft 10 ∷ item channel 3 ∷ item control_word_flag 1 ∷ item master_count 8 ∷ item channel_count 8
          ∷ item secondary_header_flag 1 ∷ item synchronisation_flag 1 ∷ item packet_order_flag 1 ∷ item segment_length_id 2
          ∷ item first_header_pointer 11 ∷ [];
      told = frame_name_number;
    }

abbrev pub version_of : List ℕ → ℕ
version_of f = value_in frame_header f 0 version

-- all other values of a header, flags as truth values
unfoldable pub header_of : List ℕ → Header
header_of f =
    record {
      spacecraft = value_in frame_header f 0 spacecraft;
      channel = value_in frame_header f 0 channel;
      flagged = (value_in frame_header f 0 control_word_flag == 1);
      master = record { 0 = value_in frame_header f 0 master_count };
      count = record { 0 = value_in frame_header f 0 channel_count };
      secondary = (value_in frame_header f 0 secondary_header_flag == 1);
      synchronisation = (value_in frame_header f 0 synchronisation_flag == 1);
      order = (value_in frame_header f 0 packet_order_flag == 1);
      segment = value_in frame_header f 0 segment_length_id;
      pointer = value_in frame_header f 0 first_header_pointer;
    }

-- the first octet of a secondary header, frame octet 6: "version 2 bits (00) and 6 bits of length less one"
pub data SecondaryItem : Type 0 where
  secondary_version_bits : SecondaryItem
  length_less_one : SecondaryItem

abbrev pub secondary_name_number : SecondaryItem → ℕ
secondary_name_number secondary_version_bits = 0
secondary_name_number length_less_one = 1

abbrev pub secondary_header : Layout SecondaryItem
secondary_header = record { items = item secondary_version_bits 2 ∷ item length_less_one 6 ∷ []; told = secondary_name_number }
