-- A frame that opens, with no secondary header and synchronisation flag 0, is the frame that closing makes of what it gave.
-- Assumes nothing.
use Rattle.std.proofs.Common.{◌≡◌, ℕ, zero, suc, ◌+◌, ◌/◌, ◌%◌, ◌<◌, ◌≤◌, Bool, true, false, eqb, List, ◌++◌, length, take, drop, sym, refl, ap, ◌∙◌, append-nil, arith, length-drop, take-append-drop, take_all, take-add, Some, None}
use Rattle.crc.specs.Register.{syndrome_of}
use Rattle.crc.proofs.Laws.{own_field}
use Rattle.octets.specs.Layout.{width_among, value_in, laid_out}
use Rattle.octets.specs.Numbers.{number_at, octets_of}
use Rattle.octets.specs.Octets.{Octets}
use Rattle.octets.specs.Pick.{pick}
use Rattle.octets.proofs.Layouts.{value_lt, writes_back}
use Rattle.octets.proofs.Runs.{number_lt, octets_at}
use Rattle.frame.specs.declared.header.Header.{Header}
use Rattle.frame.specs.declared.set_up.SetUp.{SetUp}
use Rattle.frame.specs.Answers.{bit}
use Rattle.frame.specs.Closing.{word_octets, header_value, header_octets, with_check}
use Rattle.frame.specs.Header.{FrameItem, version, spacecraft, channel, control_word_flag, master_count, channel_count, secondary_header_flag, synchronisation_flag, packet_order_flag, segment_length_id, first_header_pointer, frame_header, header_of, version_of}
use Rattle.frame.specs.Opening.{word_of}
use Rattle.frame.proofs.HeaderLaws.{header_fills, header_apart, header_six}

-- a flag read and written again
flag_again : (v : ℕ) → v < 2 → bit (eqb v 1) ≡ v
flag_again zero h = refl
flag_again (suc zero) h = refl
flag_again (suc (suc v)) h = absurd (omega arith)

flag_off : (v : ℕ) → v < 2 → eqb v 1 ≡ false → 0 ≡ v
flag_off v h e = ap bit (sym e) ∙ flag_again v h

-- the header
module _ (u : SetUp) (f : List ℕ) (ver : version_of f ≡ 0) (craft : (header_of f).spacecraft ≡ u.spacecraft) (plain : (header_of f).secondary ≡ false)
    (packets : (header_of f).synchronisation ≡ false) (ordered : (header_of f).order ≡ false) (segment : (header_of f).segment ≡ 3) where
  value_again : (n : FrameItem)
      → header_value u (header_of f).channel (header_of f).master (header_of f).count (header_of f).flagged (header_of f).pointer n
      ≡ value_in frame_header f 0 n
  unfolding header_of width_among
  value_again version = sym ver
  value_again spacecraft = sym craft
  value_again channel = refl
  value_again control_word_flag = flag_again _ (value_lt frame_header f 0 control_word_flag)
  value_again master_count = refl
  value_again channel_count = refl
  value_again secondary_header_flag = flag_off _ (value_lt frame_header f 0 secondary_header_flag) plain
  value_again synchronisation_flag = flag_off _ (value_lt frame_header f 0 synchronisation_flag) packets
  value_again packet_order_flag = flag_off _ (value_lt frame_header f 0 packet_order_flag) ordered
  value_again segment_length_id = sym segment
  value_again first_header_pointer = refl

  pub header_again : Octets f → 6 ≤ length f
      → header_octets u (header_of f).channel (header_of f).master (header_of f).count (header_of f).flagged (header_of f).pointer ≡ take 6 f
  unfolding header_octets
  header_again o h =
      ap (laid_out frame_header) (λ i n. value_again n i)
      ∙ writes_back frame_header header_fills header_apart f 0 o (omega (arith, header_six))
      ∙ ap (λ (k : ℕ). take k f) header_six

-- the control word
pub word_again : (h : Header) (f : List ℕ) (end : ℕ) (b : Bool) → h.flagged ≡ b → Octets f → end + pick b 4 0 ≤ length f
    → word_octets (pick b (Some (record { 0 = word_of h f end })) None) ≡ take (pick b 4 0) (drop end f)
unfolding word_octets word_of
word_again h f end true e o l = rw e (octets_at 4 f end o l)
word_again h f end false e o l = refl

-- the check
pub check_again : (u : SetUp) (f : List ℕ) (k : ℕ) (b : Bool) → u.error_control ≡ b → Octets f → k + pick b 2 0 ≡ length f
    → (b ≡ true → syndrome_of f ≡ 0) → with_check u (take k f) ≡ f
unfolding with_check octets_of
check_again u f k true e o l good =
    let g = take k f in
    let v = number_at f k 2 in
    let lt = number_lt f k 2 o in
    let last : octets_of 2 v ≡ drop k f = octets_at 2 f k o (omega arith) ∙ take_all 2 (drop k f) (omega (arith, length-drop k f)) in
    let whole : g ++ octets_of 2 v ≡ f = ap (λ (t : List ℕ). g ++ t) last ∙ take-append-drop k f in
    let own = (own_field g (v / 256 % 256) (v / 1 % 256) (omega arith) (omega arith)).0 (ap syndrome_of whole ∙ good refl) in
    let same : syndrome_of g ≡ v = omega arith in
    rw e (ap (λ (n : ℕ). g ++ octets_of 2 n) same ∙ whole)
check_again u f k false e o l good = rw (e, append-nil) (take_all k f (omega arith))

-- header, data field and control word
pub parts_again : (f : List ℕ) (D n : ℕ) → take 6 f ++ take D (drop 6 f) ++ take n (drop (6 + D) f) ≡ take (6 + D + n) f
parts_again f D n = ap (λ (t : List ℕ). t ++ take n (drop (6 + D) f)) (sym (take-add 6 D f)) ∙ sym (take-add (6 + D) n f)
