-- A frame that closing makes around a data field passes every test of opening and gives back what it was made of, or is refused by test 12.
-- Assumes nothing.
use Rattle.std.proofs.Common.{◌≡◌, ℕ, ◌+◌, ◌/◌, ◌%◌, ◌^◌, ◌<◌, ◌≤◌, Bool, true, false, eqb, List, [], ◌∷◌, ◌++◌, length, take, drop, sym, refl, ap, ◌∙◌, inl, inr, append_assoc, mod-eq_of_lt, arith, length-append, take_at, drop_at, eq-eqb, Option, Some, None, Ok, Err}
use Rattle.crc.specs.Register.{syndrome_of}
use Rattle.crc.proofs.Laws.{own_field, in_16_bits}
use Rattle.octets.specs.Layout.{value_in, width_among}
use Rattle.octets.specs.Numbers.{octets_of}
use Rattle.octets.specs.Pick.{pick}
use Rattle.octets.proofs.Layouts.{reads_back}
use Rattle.octets.proofs.Runs.{length_octets, number_back}
use Rattle.frame.specs.declared.closing.ControlWord.{ControlWord}
use Rattle.frame.specs.declared.counts.ChannelCount.{ChannelCount}
use Rattle.frame.specs.declared.counts.MasterCount.{MasterCount}
use Rattle.frame.specs.declared.header.Header.{Header}
use Rattle.frame.specs.declared.opening.Refusal.TheVariants.{PointerPlace}
use Rattle.frame.specs.declared.set_up.SetUp.{SetUp}
use Rattle.frame.specs.Answers.{bit}
use Rattle.frame.specs.Closing.{flagged_by, word_octets, header_value, header_octets, close_size, with_check, frame_around}
use Rattle.frame.specs.Header.{FrameItem, version, spacecraft, channel, control_word_flag, master_count, channel_count, secondary_header_flag, synchronisation_flag, packet_order_flag, segment_length_id, first_header_pointer, frame_header, header_of}
use Rattle.frame.specs.Inside.{open_from}
use Rattle.frame.specs.Opening.{secondary_size, word_of, row6, row7, row9, row11, open_of}
use Rattle.frame.specs.SetUp.{fits_of}
use Rattle.frame.specs.Theorems.{Points, word_number}
use Rattle.frame.proofs.ClosingLaws.{bit_lt, length_header, word_length, sizes}
use Rattle.frame.proofs.HeaderLaws.{header_fills, header_tells, header_has}
use Rattle.frame.proofs.OpeningSteps.{checked, right_header, right_frame, wrong_pointer}
use Rattle.frame.proofs.RowLaws.{row12_exactly}
use Rattle.frame.proofs.SetUpLaws.{in_range}

-- the values of a header that closing writes
abbrev closed_header : ℕ → ℕ → Bool → MasterCount → ChannelCount → ℕ → Header
closed_header s c b m k p =
    record {
      spacecraft = s;
      channel = c;
      flagged = b;
      master = m;
      count = k;
      secondary = false;
      synchronisation = false;
      order = false;
      segment = 3;
      pointer = p;
    }

bit_is : (b : Bool) → eqb (bit b) 1 ≡ b
bit_is true = refl
bit_is false = refl

-- they are read back from the header's octets, and the version is 00
module _ (u : SetUp) (c : ℕ) (m : MasterCount) (k : ChannelCount) (b : Bool) (p : ℕ) (r : List ℕ) where
  value_back : (n : FrameItem) → value_in frame_header (header_octets u c m k b p ++ r) 0 n
      ≡ header_value u c m k b p n % 2 ^ width_among frame_header.told frame_header.items n
  unfolding header_octets
  value_back n = reads_back frame_header header_fills header_tells (header_value u c m k b p) [] r n (header_has n)

  header_back : u.spacecraft < 1024 → c < 8 → m.0 < 256 → k.0 < 256 → p < 2048
      → header_of (header_octets u c m k b p ++ r) ≡ closed_header u.spacecraft c b m k p
  unfolding header_of width_among
  header_back hs hc hm hk hp = λ i. record {
    spacecraft = (value_back spacecraft ∙ mod-eq_of_lt hs) i;
    channel = (value_back channel ∙ mod-eq_of_lt hc) i;
    flagged = (ap (λ (x : ℕ). eqb x 1) (value_back control_word_flag ∙ mod-eq_of_lt (bit_lt b)) ∙ bit_is b) i;
    master = record { 0 = (value_back master_count ∙ mod-eq_of_lt hm) i };
    count = record { 0 = (value_back channel_count ∙ mod-eq_of_lt hk) i };
    secondary = ap (λ (x : ℕ). eqb x 1) (value_back secondary_header_flag) i;
    synchronisation = ap (λ (x : ℕ). eqb x 1) (value_back synchronisation_flag) i;
    order = ap (λ (x : ℕ). eqb x 1) (value_back packet_order_flag) i;
    segment = value_back segment_length_id i;
    pointer = (value_back first_header_pointer ∙ mod-eq_of_lt hp) i;
  }

  version_back : row7 (header_octets u c m k b p ++ r) ≡ false
  unfolding row7 width_among
  version_back = rw (value_back version)

-- a run with its check behind it passes row 6
check_passes : (u : SetUp) (f : List ℕ) (b : Bool) → u.error_control ≡ b → row6 u (with_check u f) ≡ false
unfolding row6 with_check octets_of
check_passes u f true e =
    let h = in_16_bits f in
    let hi : ℕ = syndrome_of f / 256 % 256 in
    let lo : ℕ = syndrome_of f / 1 % 256 in
    rw (e, eq-eqb (syndrome_of (f ++ hi ∷ lo ∷ [])) 0 ((own_field f hi lo (omega arith) (omega arith)).1 (omega arith)))
check_passes u f false e = rw e

-- what the check adds
check_part : (u : SetUp) (f : List ℕ) (b : Bool) → u.error_control ≡ b → (c : List ℕ) × (with_check u f ≡ f ++ c) × (length c ≡ pick b 2 0)
unfolding with_check
check_part u f true e = (octets_of 2 (syndrome_of f), rw e, length_octets 2 (syndrome_of f))
check_part u f false e = ([], rw e, refl)

-- the control word is read back from its octets
word_back : (w : Option ControlWord) (h : Header) (f r : List ℕ) (end : ℕ) → h.flagged ≡ flagged_by w → word_number w < 2 ^ 32 → length f ≡ end
    → word_number w ≡ word_of h (f ++ word_octets w ++ r) end
unfolding word_of word_octets flagged_by
word_back None h f r end e b l = rw e
word_back (Some v) h f r end e b l = rw e (sym (number_back f r end 4 v.0 l b))

-- a pointer that a frame may carry has 11 bits
pub pointer_lt : (p D : ℕ) → D ≤ 2042 → Points p D → p < 2048
pointer_lt p D l (inl a) = omega arith
pointer_lt p D l (inr (inl a)) = omega arith
pointer_lt p D l (inr (inr a)) = omega arith

module _ (u : SetUp) (channel : ℕ) (m : MasterCount) (k : ChannelCount) (w : Option ControlWord) (p : ℕ) (field : List ℕ)
    (hf : length field ≡ close_size u w) where
  -- the parts of the frame
  parts : (c : List ℕ)
      × (frame_around u channel m k w p field ≡ header_octets u channel m k (flagged_by w) p ++ field ++ word_octets w ++ c)
      × (length c ≡ pick u.error_control 2 0)
  unfolding frame_around
  parts = check_part u (header_octets u channel m k (flagged_by w) p ++ field ++ word_octets w) u.error_control refl

  behind_header : (r : List ℕ) × (frame_around u channel m k w p field ≡ header_octets u channel m k (flagged_by w) p ++ (field ++ r))
  behind_header =
      let h = header_octets u channel m k (flagged_by w) p in (
        word_octets w ++ parts.0,
        parts.1 ∙ append_assoc (h ++ field) (word_octets w) parts.0 ∙ append_assoc h field (word_octets w ++ parts.0),
      )

  pub around_field : take (close_size u w) (drop 6 (frame_around u channel m k w p field)) ≡ field
  around_field =
      let x = behind_header in
      ap (λ (l : List ℕ). take (close_size u w) (drop 6 l)) x.1
      ∙ ap (take (close_size u w)) (drop_at (header_octets u channel m k (flagged_by w) p) (field ++ x.0) 6 (length_header u channel m k (flagged_by w) p))
      ∙ take_at field x.0 (close_size u w) hf

  module _ (fits : fits_of u ≡ true) (hc : channel < 8) (hm : m.0 < 256) (hk : k.0 < 256) (lp : p < 2048) where
    -- its header's values, and how far it passes
    around_header : closed_header u.spacecraft channel (flagged_by w) m k p ≡ header_of (frame_around u channel m k w p field)
    around_header =
        let t = behind_header in
        let n = (in_range u).0 fits in
        rw t.1 (sym (header_back u channel m k (flagged_by w) p (field ++ t.0) (omega arith) hc hm hk lp))

    around_six : open_from 6 u (frame_around u channel m k w p field) ≡ open_of u (frame_around u channel m k w p field)
    unfolding row9 frame_around
    around_six =
        let f = frame_around u channel m k w p field in
        let h = header_octets u channel m k (flagged_by w) p in
        let x = parts in
        let t = behind_header in
        let s = sizes u w fits in
        let lh = length_header u channel m k (flagged_by w) p in
        let lw = word_length w in
        let whole : length f ≡ u.length = ap length x.1 ∙ simp length-append (omega arith) in
        let ev : row7 f ≡ false = rw t.1 (version_back u channel m k (flagged_by w) p (field ++ t.0)) in
        right_header u f (closed_header u.spacecraft channel (flagged_by w) m k p) around_header ev refl refl
        ∙ checked u f fits whole (check_passes u (h ++ field ++ word_octets w) u.error_control refl)

    -- a pointer that test 12 lets pass, and one that it does not
    pub around_opens : word_number w < 2 ^ 32 → Points p (close_size u w)
        → open_of u (frame_around u channel m k w p field)
        ≡ Ok (record {
          header = closed_header u.spacecraft channel (flagged_by w) m k p;
          word = word_number w;
          place = 6;
          size = close_size u w;
        })
    unfolding row11 secondary_size close_size
    around_opens hw hp =
        let f = frame_around u channel m k w p field in
        let h = header_octets u channel m k (flagged_by w) p in
        let D = close_size u w in
        let g = closed_header u.spacecraft channel (flagged_by w) m k p in
        let x = parts in
        let s = sizes u w fits in
        let lh = length_header u channel m k (flagged_by w) p in
        let ew : word_number w ≡ word_of g f (6 + D) = rw x.1 (word_back w g (h ++ field) x.0 (6 + D) refl hw (simp length-append (omega arith))) in
        sym (
        right_frame u f g 0 D around_header refl refl s.least refl ((row12_exactly g D).1.1 (λ s. hp)) (word_number w) ew
        ∙ around_six)

    pub around_refused : (Points p (close_size u w) → ⊥) → open_of u (frame_around u channel m k w p field) ≡ Err PointerPlace
    unfolding row11 secondary_size close_size
    around_refused hp =
        let D = close_size u w in
        let g = closed_header u.spacecraft channel (flagged_by w) m k p in
        let s = sizes u w fits in
        sym (
        wrong_pointer u (frame_around u channel m k w p field) g 0 D around_header refl refl s.least refl ((row12_exactly g D).0.1 (refl, hp))
        ∙ around_six)
