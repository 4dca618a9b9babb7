-- The header's layout fills its six octets and has each name once, as the secondary header's fills its one; the header's values, from its first
-- and last 16 bits and the two octets between.
-- Assumes nothing.
use Rattle.std.proofs.Common.{◌≡◌, ℕ, ◌+◌, ◌*◌, ◌/◌, ◌%◌, ◌<◌, true, eqb, List, [], ◌∷◌, get_or, sym, refl, ap, ◌∙◌, arith}
use Rattle.octets.specs.Layout.{bits_together, octets_in, first_among, width_among, bits_from, value_in, has, apart, FillsOctets, TellsApart}
use Rattle.octets.specs.Numbers.{number_at, bits_at}
use Rattle.octets.specs.Octets.{Octets}
use Rattle.octets.proofs.Laws.{number_one, number_two}
use Rattle.frame.specs.Header.{FrameItem, version, spacecraft, channel, control_word_flag, master_count, channel_count, secondary_header_flag, synchronisation_flag, packet_order_flag, segment_length_id, first_header_pointer, frame_header, frame_name_number, SecondaryItem, secondary_version_bits, length_less_one, secondary_header, secondary_name_number, header_of, version_of}
use Rattle.frame.specs.Opening.{secondary_version}
use Rattle.frame.specs.Theorems.{HeaderLaid, SecondaryLaid}

-- the name of each number
name_of : ℕ → FrameItem
name_of n = get_or
    (version ∷ spacecraft ∷ channel ∷ control_word_flag ∷ master_count ∷ channel_count ∷ secondary_header_flag ∷ synchronisation_flag ∷ packet_order_flag
    ∷ segment_length_id ∷ first_header_pointer ∷ []) n version

name_back : (n : FrameItem) → name_of (frame_name_number n) ≡ n
unfolding name_of
name_back version = refl
name_back spacecraft = refl
name_back channel = refl
name_back control_word_flag = refl
name_back master_count = refl
name_back channel_count = refl
name_back secondary_header_flag = refl
name_back synchronisation_flag = refl
name_back packet_order_flag = refl
name_back segment_length_id = refl
name_back first_header_pointer = refl

pub header_tells : TellsApart frame_header
header_tells n m e = sym (name_back n) ∙ ap name_of e ∙ name_back m

pub header_fills : FillsOctets frame_header
unfolding bits_together octets_in
header_fills = refl

pub header_six : octets_in frame_header ≡ 6
unfolding bits_together octets_in
header_six = refl

pub header_apart : apart frame_header.told frame_header.items ≡ true
unfolding apart has
header_apart = refl

pub header_has : (n : FrameItem) → has frame_header.told frame_header.items n ≡ true
unfolding has
header_has version = refl
header_has spacecraft = refl
header_has channel = refl
header_has control_word_flag = refl
header_has master_count = refl
header_has channel_count = refl
header_has secondary_header_flag = refl
header_has synchronisation_flag = refl
header_has packet_order_flag = refl
header_has segment_length_id = refl
header_has first_header_pointer = refl

pub header_laid : HeaderLaid
header_laid = record { octets = header_six; filled = header_fills; every = header_has; once = header_apart; named = header_tells }

-- the octet of the secondary header, likewise
secondary_name : ℕ → SecondaryItem
secondary_name n = get_or (secondary_version_bits ∷ length_less_one ∷ []) n secondary_version_bits

secondary_back : (n : SecondaryItem) → secondary_name (secondary_name_number n) ≡ n
unfolding secondary_name
secondary_back secondary_version_bits = refl
secondary_back length_less_one = refl

secondary_has : (n : SecondaryItem) → has secondary_header.told secondary_header.items n ≡ true
unfolding has
secondary_has secondary_version_bits = refl
secondary_has length_less_one = refl

pub secondary_laid : SecondaryLaid
unfolding bits_together octets_in apart has
secondary_laid =
    record {
      octets = refl;
      filled = refl;
      every = secondary_has;
      once = refl;
      named = λ n m e. sym (secondary_back n) ∙ ap secondary_name e ∙ secondary_back m;
    }

pub version_is : (f : List ℕ) → Octets f → version_of f ≡ number_at f 0 2 / 16384
unfolding value_in first_among width_among bits_from bits_at
version_is f o = omega (arith, number_one f 0, number_two f 0, o 0, o 1)

pub header_is : (f : List ℕ) (a z o p : ℕ) → Octets f → a ≡ number_at f 0 2 → z ≡ number_at f 4 2 → o ≡ get_or f 2 0 → p ≡ get_or f 3 0
    → record {
      spacecraft = a / 16 % 1024;
      channel = a / 2 % 8;
      flagged = eqb (a % 2) 1;
      master = record { 0 = o };
      count = record { 0 = p };
      secondary = eqb (z / 32768) 1;
      synchronisation = eqb (z / 16384 % 2) 1;
      order = eqb (z / 8192 % 2) 1;
      segment = z / 2048 % 4;
      pointer = z % 2048;
    }
    ≡ header_of f
unfolding header_of value_in first_among width_among bits_from bits_at
header_is f a z o p g ea ez eo ep =
    let b₁ = number_one f 1 in
    let b₂ = number_one f 2 in
    let b₃ = number_one f 3 in
    let b₄ = number_one f 4 in
    let two : a ≡ get_or f 0 0 * 256 + number_at f 1 1 = omega (arith, number_two f 0) in
    let last : z ≡ number_at f 4 1 * 256 + get_or f 5 0 = omega (arith, number_two f 4) in
    let g₁ : number_at f 1 1 < 256 = omega (arith, g 1) in
    let g₄ : number_at f 4 1 < 256 = omega (arith, g 4) in
    let g₅ : get_or f 5 0 < 256 = g 5 in
    λ i. record {
      spacecraft = ap (λ (n : ℕ). n / 16 % 1024) ea i;
      channel = (let e : a / 2 % 8 ≡ number_at f 1 1 / 2 % 8 = omega arith in e) i;
      flagged = ap (λ (n : ℕ). eqb n 1) (let e : a % 2 ≡ number_at f 1 1 / 1 % 2 = omega arith in e) i;
      master = record { 0 = (let e : o ≡ number_at f 2 1 / 1 % 256 = omega (arith, g 2) in e) i };
      count = record { 0 = (let e : p ≡ number_at f 3 1 / 1 % 256 = omega (arith, g 3) in e) i };
      secondary = ap (λ (n : ℕ). eqb n 1) (let e : z / 32768 ≡ number_at f 4 1 / 128 % 2 = omega arith in e) i;
      synchronisation = ap (λ (n : ℕ). eqb n 1) (let e : z / 16384 % 2 ≡ number_at f 4 1 / 64 % 2 = omega arith in e) i;
      order = ap (λ (n : ℕ). eqb n 1) (let e : z / 8192 % 2 ≡ number_at f 4 1 / 32 % 2 = omega arith in e) i;
      segment = (let e : z / 2048 % 4 ≡ number_at f 4 1 / 8 % 4 = omega arith in e) i;
      pointer = (let e : z % 2048 ≡ number_at f 4 2 / 1 % 2048 = omega arith in e) i;
    }

-- the octet of the secondary header that says its version and its length
pub secondary_version_is : (f : List ℕ) → get_or f 6 0 < 256 → secondary_version f ≡ get_or f 6 0 / 64
unfolding value_in first_among width_among bits_from bits_at
secondary_version_is f h = omega (arith, number_one f 6)

pub secondary_length_is : (f : List ℕ) → value_in secondary_header f 6 length_less_one ≡ get_or f 6 0 % 64
unfolding value_in first_among width_among bits_from bits_at
secondary_length_is f = omega (arith, number_one f 6)
