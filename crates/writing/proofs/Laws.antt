-- The theorems of specs/Theorems.antt.
-- Assumes nothing.
use mathlib.Core.Path.{◌≡◌, refl, ◌∙◌, sym, ap, ap₂}
use mathlib.Core.Bool.{false}
use mathlib.Core.List.{List, [], ◌∷◌, ◌++◌}
use mathlib.Core.Logic.{◌⊎◌, inl, inr}
use Prim.Native.Nat.{ℕ, ◌+◌, ◌-◌, ◌%◌, ◌≤◌}
use native.Mathlib.Omega.{arith}
use lib.ListN.{length, take, drop, replicate}
use Rattle.std.specs.Prelude.{Option, Result, Ok, Err}
use Rattle.octets.specs.Layout.{bits_together, octets_in, numbered, laid_out}
use Rattle.octets.specs.Numbers.{octets_of}
use Rattle.octets.proofs.Runs.{octets_append}
use Rattle.frame.specs.Closing.{close_size}
use Rattle.frame.specs.Opening.{open_of}
use Rattle.frame.specs.declared.closing.ControlWord.{ControlWord}
use Rattle.frame.specs.declared.set_up.SetUp.{SetUp}
use Rattle.frame.proofs.ClosingLaws.{sizes}
use Rattle.frame.proofs.Laws.{closed_opens}
use Rattle.table.proofs.Laws.{first_exactly, first_gives, none_exactly, none_gives, made}
use Rattle.packet.specs.Chain.{distance_of}
use Rattle.packet.specs.Header.{packet_header}
use Rattle.writing.specs.declared.Place.{Place}
use Rattle.writing.specs.declared.Refusal.{Refusal}
use Rattle.writing.specs.Answers.{number_of, answer_number, values_of}
use Rattle.writing.specs.Laying.{idle_packet, left_over_after, nothing_of, run_part}
use Rattle.writing.specs.Theorems.{NumberExactly, WrittenExactly, RefusedUntouched, WrittenOpens, LaidWellLaw, idle_value, IdlePacketLaid, GoesOnLaw}
use Rattle.writing.specs.Inside.{Ready, WroteBy}
use Rattle.writing.specs.Writing.{row24, write_table, answer_of, next_of, output_of, next_place, frame_written, laid_field, laid_pointer, Wrote}
use Rattle.writing.proofs.FieldLaws.{points_well, nothing_exactly, left_then}
use Rattle.writing.proofs.FrameLaws.{around, closed_around}
use Rattle.writing.proofs.LayingLaws.{length_field_lem, length_run}
use Rattle.writing.proofs.NumberLaws.{case_back, number_one}
use Rattle.writing.proofs.WritingSteps.{at_border, none_left, border_passes, passed, passing}

pub number_exactly : NumberExactly
unfolding answer_of values_of
number_exactly u channel p w run out r =
    let t = write_table u channel p run out in
    rw (made answer_number Err (Ok tt) t) (first_exactly number_of 0 number_one (λ r e. omega (arith, (case_back r).1)) t r)

-- a frame is not refused
not_refused : (r : Refusal) → ◌≡◌ {A = Result (Unit {0}) Refusal} (Ok tt) (Err r) → ⊥
not_refused r q = let z : ◌≡◌ {A = ℕ} 0 1 = cc in omega arith

pub written_exactly : WrittenExactly
unfolding answer_of
written_exactly u channel p run out =
    let n = none_exactly Err (Ok tt) (Ok tt) (λ r q. not_refused r (sym q)) (write_table u channel p run out) in
    (λ e. (n.0 e).1, λ h. n.1 (refl, h))

pub refused_untouched : RefusedUntouched
unfolding answer_of next_of output_of
refused_untouched u channel p w run out r e =
    let t = write_table u channel p run out in
    let f = (first_exactly Err (Ok tt) (λ s r q. cc) not_refused t r).0 e in
    (first_gives (λ _. p) (next_place u p w run) t r f, first_gives (λ _. out) (frame_written u channel p w run) t r f)

module _ (u : SetUp) (channel : ℕ) (p : Place) (run out : List ℕ) (e : answer_of u channel p run out ≡ Ok tt) where
  tested : Ready u channel p run out × (row24 (length run) p.offset p.left_over ≡ false)
  tested = passing u channel p run out ((written_exactly u channel p run out).0 e)

-- what the tests answered decides what a call leaves, and what the frame's writing may rely on
module _ (u : SetUp) (channel : ℕ) (p : Place) (w : Option ControlWord) (run out : List ℕ) (a : Result (Unit {0}) Refusal) (t : a ≡ answer_of u channel p run out) where
  pub refuses : (r : Refusal) → a ≡ Err r → Wrote u channel p w run out a p out
  refuses r e =
      let k = refused_untouched u channel p w run out r (sym t ∙ e) in
      record { answers = t; goes_on = sym k.0; output_left = sym k.1 }

  module _ (e : a ≡ Ok tt) where
    pub ready : Ready u channel p run out
    ready = (tested u channel p run out (sym t ∙ e)).0

    pub writes : (next : Place) (out' : List ℕ) → WroteBy u channel p w run (Ok tt) next out' → Wrote u channel p w run out a next out'
    unfolding next_of output_of
    writes next out' b =
        let n = (written_exactly u channel p run out).0 (sym t ∙ e) in
        record {
          answers = t;
          goes_on = b.goes_on ∙ sym (none_gives (λ _. p) (next_place u p w run) (write_table u channel p run out) n);
          output_left = b.output_left ∙ sym (none_gives (λ _. out) (frame_written u channel p w run) (write_table u channel p run out) n);
        }

pub written_opens : WrittenOpens
unfolding frame_written
written_opens u channel p w run out e hm hk hw =
    let r = (tested u channel p run out e).0 in
    let D = close_size u w in
    let field = laid_field u w run p in
    let q = laid_pointer u w run p in
    let o = around D out field in
    let c = closed_around u channel p.master p.count w q out field r.fits r.channel_fits r.output_whole
    (length_field_lem D run p.offset p.left_over) in
    let t = closed_opens u channel p.master p.count w q o c.0 hm hk hw
    (points_well D (distance_of run p.offset) p.left_over (nothing_of run p.offset p.left_over)) in
    (ap (open_of u) (sym c.2) ∙ t.0, ap (λ (l : List ℕ). take D (drop 6 l)) (sym c.2) ∙ t.1 ∙ c.1)

pub laid_well : LaidWellLaw
laid_well u channel p w run out e =
    let r = (tested u channel p run out e).0 in
    let D = close_size u w in
    let some = (sizes u w r.fits).least in
    record {
      some = some;
      filled = length_field_lem D run p.offset p.left_over;
      points = points_well D (distance_of run p.offset) p.left_over (nothing_of run p.offset p.left_over);
      nothing = nothing_exactly D run p.offset p.left_over some r.left_fits r.inside;
    }

-- the left-over that is handed on stands at the start or the end of the run
handed_passes : (end offset left n left' : ℕ) → row24 end offset left ≡ false → left' ≤ 6
    → (left' ≡ 0) ⊎ (((left ≡ 0 → ⊥) × (n ≡ 0)) ⊎ (offset + n ≡ end)) → row24 end (offset + n) left' ≡ false
handed_passes end offset left n left' e h (inl z) = sym (none_left end (offset + n) left' h z)
handed_passes end offset left n left' e h (inr (inl k)) =
    let same : offset + n ≡ offset = omega (arith, k.1) in
    rw same (border_passes end offset left' h (at_border end offset left e k.0))
handed_passes end offset left n left' e h (inr (inr k)) = border_passes end (offset + n) left' h (inr k)

pub goes_on : GoesOnLaw
unfolding next_place answer_of
goes_on u channel p w run out e =
    let t = tested u channel p run out e in
    let r = t.0 in
    let D = close_size u w in
    let n : ℕ = length (run_part D run p.offset p.left_over) in
    let l = left_then D run p.offset p.left_over (sizes u w r.fits).least r.left_fits r.inside in
    let inside : p.offset + n ≤ length run = omega (arith, r.inside, length_run D run p.offset p.left_over) in
    record {
      next_passes = none_gives Err (Ok tt) (write_table u channel (next_place u p w run) run out)
          (passed u channel (next_place u p w run) run out r.fits r.channel_fits r.run_fits r.chain inside
          (handed_passes (length run) p.offset p.left_over n (left_over_after D run p.offset p.left_over) t.1 l.0 l.1)
          r.output_whole);
      not_back = omega arith;
      inside = inside;
      few_left = l.0;
    }

-- the low 16 bits of a number have its last two octets
low_two : (z : ℕ) → octets_of 2 (z % 65536) ≡ octets_of 2 z
unfolding octets_of
low_two z = ap₂ (λ (x y : ℕ). x ∷ y ∷ []) (omega arith) (omega arith)

idle_header : (n : ℕ) → laid_out packet_header (idle_value n) ≡ (0x07 ∷ 0xFF ∷ 0xC0 ∷ 0x00 ∷ []) ++ octets_of 2 (n - 7)
unfolding laid_out octets_in bits_together numbered
idle_header n =
    let z : ℕ = n - 7 in
    let four : octets_of 4 0x07FFC000 ≡ 0x07 ∷ 0xFF ∷ 0xC0 ∷ 0x00 ∷ [] = unfold octets_of in refl in
    sym (octets_append 4 2 0x07FFC000 (z % 65536) (omega arith))
    ∙ ap₂ (λ (x y : List ℕ). x ++ y) four (low_two z)

pub idle_packet_laid : IdlePacketLaid
unfolding idle_packet
idle_packet_laid n = ap (λ (h : List ℕ). h ++ replicate (n - 6) 0x55) (sym (idle_header n))
