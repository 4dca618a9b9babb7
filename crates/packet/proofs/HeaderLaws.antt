-- The items of a packet header, from the octets that hold them.
-- Assumes nothing.
use mathlib.Core.Path.{◌≡◌, refl, ◌∙◌, sym, ap}
use mathlib.Core.Bool.{true}
use mathlib.Core.List.{List}
use Prim.Native.Nat.{ℕ, ◌+◌, ◌/◌, ◌%◌, ◌<◌}
use native.Mathlib.Nat.{div-one}
use native.Mathlib.Omega.{arith}
use lib.Dec.{eqb}
use lib.ListN.{get_or}
use Rattle.octets.specs.Layout.{value_in, bits_from, first_among, width_among, bits_together, octets_in, apart, has}
use Rattle.octets.specs.Numbers.{number_at, bits_at}
use Rattle.octets.specs.Pick.{pick}
use Rattle.packet.specs.Header.{PacketItem, packet_header, version_of, total_of, application_of, packet_header_of}
use Rattle.packet.specs.Theorems.{HeaderLaid}

every_item : (n : PacketItem) → has packet_header.told packet_header.items n ≡ true
unfolding has
every_item PacketItem.version = refl
every_item PacketItem.type_bit = refl
every_item PacketItem.secondary_flag = refl
every_item PacketItem.application_id = refl
every_item PacketItem.grouping_flags = refl
every_item PacketItem.sequence_count = refl
every_item PacketItem.length_field = refl

-- the name that has a number
named : ℕ → PacketItem
named k =
    pick (eqb k 0) PacketItem.version
    (pick (eqb k 1) PacketItem.type_bit
    (pick (eqb k 2) PacketItem.secondary_flag
    (pick (eqb k 3) PacketItem.application_id
    (pick (eqb k 4) PacketItem.grouping_flags
    (pick (eqb k 5) PacketItem.sequence_count PacketItem.length_field)))))

named_back : (n : PacketItem) → named (packet_header.told n) ≡ n
unfolding named
named_back PacketItem.version = refl
named_back PacketItem.type_bit = refl
named_back PacketItem.secondary_flag = refl
named_back PacketItem.application_id = refl
named_back PacketItem.grouping_flags = refl
named_back PacketItem.sequence_count = refl
named_back PacketItem.length_field = refl

pub header_laid : HeaderLaid
unfolding bits_together octets_in apart has
header_laid =
    record { octets = refl; filled = refl; every = every_item; once = refl; named = λ n m e. sym (named_back n) ∙ ap named e ∙ named_back m }

-- the version, the type and the secondary header flag, from the first octet
module _ (p : List ℕ) where
  pub version_at : version_of p ≡ get_or p 0 0 / 32 % 8
  unfolding value_in bits_from first_among width_among bits_at number_at
  version_at = omega arith

  type_at : value_in packet_header p 0 PacketItem.type_bit ≡ get_or p 0 0 / 16 % 2
  unfolding value_in bits_from first_among width_among bits_at number_at
  type_at = omega arith

  secondary_at : value_in packet_header p 0 PacketItem.secondary_flag ≡ get_or p 0 0 / 8 % 2
  unfolding value_in bits_from first_among width_among bits_at number_at
  secondary_at = omega arith

  -- the application id, from the first two
  pub application_is : application_of p ≡ number_at p 0 2 % 2048
  unfolding value_in bits_from first_among width_among bits_at
  application_is = rw div-one

  -- the grouping flags and the sequence count, from the next two
  grouping_at : value_in packet_header p 0 PacketItem.grouping_flags ≡ get_or p 2 0 / 64 % 4
  unfolding value_in bits_from first_among width_among bits_at number_at
  grouping_at = omega arith

  sequence_at : value_in packet_header p 0 PacketItem.sequence_count ≡ number_at p 2 2 % 16384
  unfolding value_in bits_from first_among width_among bits_at
  sequence_at = rw div-one

  -- the length field, from the last two
  pub total_at : total_of p ≡ number_at p 4 2 % 65536 + 7
  unfolding value_in bits_from first_among width_among bits_at
  total_at = rw div-one

  -- of octets
  pub version_is : get_or p 0 0 < 256 → version_of p ≡ get_or p 0 0 / 32
  version_is h = omega (arith, version_at)

  pub total_is : number_at p 4 2 < 65536 → total_of p ≡ number_at p 4 2 + 7
  total_is h = omega (arith, total_at)

  -- the values that the code makes are the header's
  pub header_is : (v x w z y t : ℕ) → v ≡ version_of p → x ≡ get_or p 0 0 → w ≡ number_at p 0 2 % 2048 → z ≡ get_or p 2 0 → z < 256
      → y ≡ number_at p 2 2 → t ≡ total_of p
      → record {
        version = v;
        type_bit = x / 16 % 2;
        secondary = eqb (x / 8 % 2) 1;
        application = w;
        grouping = z / 64;
        sequence = y % 16384;
        total = t;
      }
      ≡ packet_header_of p
  unfolding packet_header_of
  header_is v x w z y t ev ex ew ez lz ey et =
      let g : get_or p 2 0 / 64 % 4 ≡ get_or p 2 0 / 64 = omega arith in
      rw (ev, ex, ew, ez, ey, et) (sym (λ i. record {
        version = version_of p;
        type_bit = type_at i;
        secondary = eqb (secondary_at i) 1;
        application = application_is i;
        grouping = (grouping_at ∙ g) i;
        sequence = sequence_at i;
        total = total_of p;
      }))
