-- The frame around a data field that was laid into its place in the output.
-- Assumes nothing.
use Rattle.std.specs.Prelude.{Option, Ok}
use mathlib.Core.Path.{◌≡◌, refl, ◌∙◌, ap, ap₂}
use mathlib.Core.Bool.{Bool, true}
use mathlib.Core.List.{List, ◌++◌}
use Prim.Native.Nat.{ℕ, ◌+◌, ◌-◌, ◌≤◌, ◌<◌}
use native.Mathlib.Omega.{arith}
use lib.ListN.{length, take, drop, length-append, length-take, length-drop}
use lib.Seq.{take_at, drop_at, length-take-le}
use Rattle.packet.specs.Chain.{distance_of}
use Rattle.frame.specs.Closing.{close_of, close_size, frame_around, field_in, output_of}
use Rattle.frame.specs.Counts.{after}
use Rattle.frame.specs.SetUp.{fits_of}
use Rattle.frame.specs.declared.closing.ControlWord.{ControlWord}
use Rattle.frame.specs.declared.counts.ChannelCount.{ChannelCount}
use Rattle.frame.specs.declared.counts.MasterCount.{MasterCount}
use Rattle.frame.specs.declared.set_up.SetUp.{SetUp}
use Rattle.frame.proofs.ClosingLaws.{sizes}
use Rattle.frame.proofs.Laws.{close_passes, close_around}
use Rattle.writing.specs.declared.Laid.{Laid}
use Rattle.writing.specs.declared.Place.{Place}
use Rattle.writing.specs.Laying.{field_of, left_over_after, nothing_of, pointer_of, run_part}
use Rattle.writing.specs.Inside.{Ready, WroteBy}
use Rattle.writing.specs.Writing.{frame_written, next_place}
use Rattle.writing.proofs.LayingLaws.{length_field_lem}

-- the data field's place in the output, and the field laid there
abbrev pub midst : ℕ → List ℕ → List ℕ
midst D out = take (6 + D - 6) (drop 6 out)

abbrev pub around : ℕ → List ℕ → List ℕ → List ℕ
around D out field = take 6 out ++ (field ++ drop (6 + D - 6) (drop 6 out))

module _ (D : ℕ) (out : List ℕ) (h : 6 + D ≤ length out) where
  pub length_midst : length (midst D out) ≡ D
  length_midst = simp (length-take, length-drop) (omega arith)

  module _ (field : List ℕ) (l : length field ≡ D) where
    length_around : length (around D out field) ≡ length out
    length_around = simp (length-append, length-take, length-drop) (omega arith)

    field_around : take D (drop 6 (around D out field)) ≡ field
    field_around =
        ap (take D) (drop_at (take 6 out) (field ++ drop (6 + D - 6) (drop 6 out)) 6 (length-take-le 6 out (omega arith)))
        ∙ take_at field (drop (6 + D - 6) (drop 6 out)) D l

-- such an output is closed, to the frame around the field
module _ (u : SetUp) (channel : ℕ) (m : MasterCount) (k : ChannelCount) (w : Option ControlWord) (pointer : ℕ) (out field : List ℕ) where
  pub closed_around : fits_of u ≡ true → channel < 8 → length out ≡ u.length → length field ≡ close_size u w
      → (close_of u channel (around (close_size u w) out field) ≡ Ok tt)
      × (field_in u w (around (close_size u w) out field) ≡ field)
      × (output_of u channel m k w pointer (around (close_size u w) out field) ≡ frame_around u channel m k w pointer field)
  unfolding field_in
  closed_around fits hc whole l =
      let s = sizes u w fits in
      let h : 6 + close_size u w ≤ length out = omega arith in
      let o = around (close_size u w) out field in
      let c = (close_passes u channel o).1 (fits, hc, length_around (close_size u w) out h field l ∙ whole) in
      let f = field_around (close_size u w) out h field l in
      (c, f, close_around u channel m k w pointer o c ∙ ap (frame_around u channel m k w pointer) f)

-- what one call writes and hands on
module _ (u : SetUp) (channel : ℕ) (p : Place) (w : Option ControlWord) (run out : List ℕ) (r : Ready u channel p run out) where
  pub fits_in : 6 + close_size u w ≤ length out
  fits_in = let s = sizes u w r.fits in omega (arith, r.output_whole)

  pub small : close_size u w ≤ 2042
  small = (sizes u w r.fits).most

  -- closing it finds no cause
  pub closes : (D : ℕ) (field : List ℕ) → D ≡ close_size u w → field ≡ field_of (length (midst D out)) run p.offset p.left_over
      → close_of u channel (around D out field) ≡ Ok tt
  closes D field e_d ef =
      let lm : length (midst D out) ≡ close_size u w = length_midst D out (omega (arith, fits_in)) ∙ e_d in
      let ef' : field ≡ field_of (close_size u w) run p.offset p.left_over =
      ef ∙ ap (λ (n : ℕ). field_of n run p.offset p.left_over) lm in
      ap (λ (n : ℕ). close_of u channel (around n out field)) e_d
      ∙ (closed_around u channel p.master p.count w 0 out field r.fits r.channel_fits r.output_whole
      (ap length ef' ∙ length_field_lem (close_size u w) run p.offset p.left_over)).0

  pub wrote_by : (D : ℕ) (field o : List ℕ) (laid : Laid) (distance pointer : ℕ) (nothing : Bool) (m : MasterCount) (k : ChannelCount)
      → D ≡ close_size u w
      → (laid.offset ≡ p.offset + length (run_part (length (midst D out)) run p.offset p.left_over))
      × (laid.left_over ≡ left_over_after (length (midst D out)) run p.offset p.left_over)
      → field ≡ field_of (length (midst D out)) run p.offset p.left_over
      → nothing ≡ nothing_of run p.offset p.left_over → distance ≡ distance_of run p.offset
      → pointer ≡ pointer_of D distance p.left_over nothing
      → o ≡ output_of u channel p.master p.count w pointer (around D out field)
      → m.0 ≡ after p.master.0 → k.0 ≡ after p.count.0
      → WroteBy u channel p w run (Ok tt) (record { offset = laid.offset; left_over = laid.left_over; master = m; count = k }) o
  unfolding next_place frame_written
  wrote_by D field o laid distance pointer nothing m k e_d el ef en ed ep eo em ek =
      let lm : length (midst D out) ≡ close_size u w = length_midst D out (omega (arith, fits_in)) ∙ e_d in
      let q : pointer ≡ pointer_of (close_size u w) (distance_of run p.offset) p.left_over (nothing_of run p.offset p.left_over) =
      rw (e_d, ed, en) at ep in
      let ef' : field ≡ field_of (close_size u w) run p.offset p.left_over =
      ef ∙ ap (λ (n : ℕ). field_of n run p.offset p.left_over) lm in
      record {
        answers = refl;
        goes_on = λ i. record {
          offset = (el.0 ∙ ap (λ (n : ℕ). p.offset + length (run_part n run p.offset p.left_over)) lm) i;
          left_over = (el.1 ∙ ap (λ (n : ℕ). left_over_after n run p.offset p.left_over) lm) i;
          master = record { 0 = em i };
          count = record { 0 = ek i };
        };
        output_left =
            eo
            ∙ ap (λ (n : ℕ). output_of u channel p.master p.count w pointer (around n out field)) e_d
            ∙ (closed_around u channel p.master p.count w pointer out field r.fits r.channel_fits r.output_whole
            (ap length ef' ∙ length_field_lem (close_size u w) run p.offset p.left_over)).2
            ∙ ap₂ (frame_around u channel p.master p.count w) q ef';
      }
