-- The packet header (01, "Layouts"; 001 at 3.1), and what its items say of the packet: its version, its total, whether it is idle.
use Rattle.std.specs.Prelude.{Bool, List, [], ◌∷◌, ℕ, ◌+◌, eqb}
use Rattle.octets.specs.Layout.{Layout, item, value_in}
use Rattle.packet.specs.declared.header.Header.{Header}

-- the items' names, and a number for each
pub data PacketItem : Type 0 where
  version : PacketItem
  type_bit : PacketItem
  secondary_flag : PacketItem
  application_id : PacketItem
  grouping_flags : PacketItem
  sequence_count : PacketItem
  length_field : PacketItem

abbrev pub name_number : PacketItem → ℕ
name_number version = 0
name_number type_bit = 1
name_number secondary_flag = 2
name_number application_id = 3
name_number grouping_flags = 4
name_number sequence_count = 5
name_number length_field = 6

-- "version 3 bits, type 1, secondary header flag 1, application id 11, grouping flags 2, sequence count 14, length 16"
abbrev pub packet_header : Layout PacketItem
packet_header =
    record {
      items =
          item version 3 ∷ item type_bit 1 ∷ item secondary_flag 1 ∷ item application_id 11 ∷ item grouping_flags 2 ∷ item sequence_count 14
          ∷ item length_field 16 ∷ [];
      told = name_number;
    }

abbrev pub version_of : List ℕ → ℕ
version_of p = value_in packet_header p 0 version

-- "The length field is the octets after the header, less one; a packet's total is that field plus 7."
abbrev pub length_bias : ℕ
length_bias = 7

abbrev pub total_of : List ℕ → ℕ
total_of p = value_in packet_header p 0 length_field + length_bias

abbrev pub application_of : List ℕ → ℕ
application_of p = value_in packet_header p 0 application_id

-- "Application id 2047 is an idle packet."
abbrev pub idle_application : ℕ
idle_application = 2047

unfoldable pub idle_of : List ℕ → Bool
idle_of p = eqb (application_of p) idle_application

-- all values of a header
unfoldable pub packet_header_of : List ℕ → Header
packet_header_of p =
    record {
      version = version_of p;
      type_bit = value_in packet_header p 0 type_bit;
      secondary = eqb (value_in packet_header p 0 secondary_flag) 1;
      application = application_of p;
      grouping = value_in packet_header p 0 grouping_flags;
      sequence = value_in packet_header p 0 sequence_count;
      total = total_of p;
    }
