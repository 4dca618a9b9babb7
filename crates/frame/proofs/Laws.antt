-- The theorems of specs/Theorems.antt.
-- Assumes nothing.
use Rattle.std.proofs.Common.{◌≡◌, ℕ, ◌+◌, ◌%◌, ◌≤◌, Bool, true, false, List, ◌++◌, length, get_or, take, drop, sym, refl, ap, ◌∙◌, subst, ap₂, add-one, arith, length-drop, length-take, ltb-false, eqb-true, Option, Some, Result, Ok, Err}
use borrow.Author.Tests.{not-false}
use Rattle.octets.specs.Layout.{width_among}
use Rattle.octets.specs.Octets.{Octets}
use Rattle.octets.specs.Pick.{pick}
use Rattle.octets.proofs.Laws.{zeros_all}
use Rattle.octets.proofs.Layouts.{value_lt}
use Rattle.frame.specs.declared.closing.CloseRefusal.{CloseRefusal}
use Rattle.frame.specs.declared.closing.ControlWord.{ControlWord}
use Rattle.frame.specs.declared.opening.Frame.{Frame}
use Rattle.frame.specs.declared.opening.Refusal.{Refusal}
use Rattle.frame.specs.declared.opening.Refusal.TheVariants.{SetUpRange}
use Rattle.frame.specs.declared.set_up.SetUp.{SetUp}
use Rattle.frame.specs.Answers.{number_of, values_of, close_number_of, close_value_of}
use Rattle.frame.specs.Closing.{row20, row25, flagged_by, word_octets, close_table, close_of, close_size, field_in, with_check, frame_around, output_of}
use Rattle.frame.specs.Counts.{gap_of}
use Rattle.frame.specs.Header.{FrameItem, frame_header, header_of, version_of}
use Rattle.frame.specs.Opening.{row1, row5, row7, row8, row10, secondary_size, data_size, frame_of, frame_table, open_table, open_of}
use Rattle.frame.specs.SetUp.{fits_of}
use Rattle.table.specs.Table.{None, first_cause}
use Rattle.frame.specs.Theorems.{NumberExactly, AcceptedExactly, FrameRefused, FrameAccepted, ValuesFourteen, RefusedZero, FourteenValues, AcceptedValues, Sound, OpenedSound, CloseExactly, CloseWritten, CloseUntouched, ClosePasses, CloseAround, ClosedOpens, ClosedLow, ClosedRefused, own_word, OpenedCloses, GapExactly, RowsTested, OpenedInRange}
use Rattle.frame.proofs.ClosedOpens.{pointer_lt, around_opens, around_refused, around_field}
use Rattle.frame.proofs.ClosingLaws.{header_low, sizes}
use Rattle.frame.proofs.ClosingSteps.{passed, passing}
use Rattle.frame.proofs.NumberLaws.{number_one, number_some, close_number_one, close_number_some}
use Rattle.frame.proofs.OpenedCloses.{header_again, word_again, check_again, parts_again}
use Rattle.frame.proofs.OpeningSteps.{filled}
use Rattle.frame.proofs.RowLaws.{row6_zero, row9_zero, row11_whole, row12_points}
use Rattle.frame.proofs.SetUpLaws.{in_range}
pub use Rattle.frame.proofs.ClosingLaws.{around_octets}
pub use Rattle.frame.proofs.ClosingSteps.{row20_exactly, row25_exactly}
pub use Rattle.frame.proofs.RowLaws.{row12_exactly}
pub use Rattle.frame.proofs.SetUpLaws.{row1_exactly, row1_fits}
use Rattle.table.proofs.Laws.{next, first_gives, none_gives, first_exactly, none_exactly, made}

pub rows_tested : RowsTested
unfolding row1 row20 row25
rows_tested u channel out = (refl, refl, refl)

-- opening
pub opened_in_range : OpenedInRange
unfolding open_of open_table
opened_in_range u f a = next Err (Ok (frame_of u f)) SetUpRange (frame_table u f) ((row1_fits u).1.1 a)

abbrev first_value : Result Frame Refusal → ℕ
first_value o = get_or (values_of o) 0 0

pub number_exactly : NumberExactly
unfolding open_of values_of
number_exactly u f r =
    rw (made first_value Err (Ok (frame_of u f)) (open_table u f))
    (first_exactly number_of 0 number_one (λ r e. omega (arith, number_some r)) (open_table u f) r)

-- what is accepted is not refused
not_both : (x : Frame) (r : Refusal) → Ok x ≡ Err r → ⊥
not_both x r q = let z : ◌≡◌ {A = ℕ} 0 1 = cc in omega arith

pub accepted_exactly : AcceptedExactly
unfolding open_of
accepted_exactly u f x =
    let e = none_exactly Err (Ok (frame_of u f)) (Ok x) (λ r q. not_both x r (sym q)) (open_table u f) in
    (λ o. let h = e.0 o in (cc h.0, h.1), λ h. e.1 (ap Ok (sym h.0), h.1))

-- row 1 decides nothing where the set-up fits
pub frame_refused : FrameRefused
unfolding open_of open_table row1
frame_refused u f r a =
    rw (next Err (Ok (frame_of u f)) SetUpRange (frame_table u f) {b = row1 u} (rw a))
    (first_exactly Err (Ok (frame_of u f)) (λ s r q. cc) (not_both (frame_of u f)) (frame_table u f) r)

pub frame_accepted : FrameAccepted
unfolding open_table row1
frame_accepted u f x =
    let e = accepted_exactly u f x in
    (λ o. let h = e.0 o in (h.0, not-false _ h.1.0, h.1.1), λ h. e.1 (h.0, (rw h.1, h.2)))

pub values_fourteen : ValuesFourteen
unfolding values_of
values_fourteen (Err r) = refl
values_fourteen (Ok x) = refl

pub refused_zero : RefusedZero
unfolding values_of
refused_zero u f r i e = rw (e, add-one) (zeros_all 13 i)

values_of_lem : (x : Frame) → FourteenValues (Ok x) x
unfolding values_of
values_of_lem x =
    record {
      number = refl;
      spacecraft = refl;
      channel = refl;
      flagged = refl;
      master = refl;
      count = refl;
      secondary = refl;
      synchronisation = refl;
      order = refl;
      segment = refl;
      pointer = refl;
      word = refl;
      place = refl;
      size = refl;
    }

pub accepted_values : AcceptedValues
accepted_values u f x e = rw e (values_of_lem x)

pub close_exactly : CloseExactly
unfolding close_of close_value_of
close_exactly u channel out r =
    rw (made close_value_of Err (Ok tt) (close_table u channel out))
    (first_exactly close_number_of 0 close_number_one (λ r e. omega (arith, close_number_some r)) (close_table u channel out) r)

pub close_written : CloseWritten
unfolding close_of close_value_of
close_written u channel out =
    let e = none_exactly close_number_of 0 0 (λ r q. omega (arith, close_number_some r)) (close_table u channel out) in
    rw (made close_value_of Err (Ok tt) (close_table u channel out)) (λ v. (e.0 v).1, λ n. e.1 (refl, n))

-- what is written is not refused
not_refused : (r : CloseRefusal) → Ok (tt {0}) ≡ Err r → ⊥
not_refused r q = let z : ◌≡◌ {A = ℕ} 0 1 = cc in omega arith

pub close_untouched : CloseUntouched
unfolding close_of output_of
close_untouched u channel m k w p out r e =
    let f = (first_exactly Err (Ok tt) (λ s r q. cc) not_refused (close_table u channel out) r).0 e in
    first_gives (λ _. out) _ (close_table u channel out) r f

-- what passes all rows
sound : (u : SetUp) (f : List ℕ) → None (open_table u f) → Sound u f (frame_of u f)
unfolding open_table frame_table frame_of header_of width_among row1 row5 row7 row8 row10
sound u f n =
    let h = header_of f in
    let s = secondary_size h f in
    let D = data_size u s h.flagged in
    let fits = not-false _ n.0 in
    let whole = eqb-true (length f) u.length (not-false _ n.1.0) in
    let t = n.1.1 in
    let v = t.1.1.1.1 in
    let least = ltb-false D 1 v.0 in
    let full = filled u s D h.flagged refl least in
    let range = (in_range u).0 fits in
    record {
      fits = fits;
      octets = whole;
      undamaged = row6_zero u f t.0;
      version = eqb-true (version_of f) 0 (not-false _ t.1.0);
      spacecraft = eqb-true h.spacecraft u.spacecraft (not-false _ t.1.1.0);
      secondary = row9_zero h f t.1.1.1.0;
      inside = omega arith;
      least = least;
      most = omega arith;
      field = simp (length-take, length-drop) (omega arith);
      order = λ a. (row11_whole h v.1.0 a).0;
      segment = λ a. (row11_whole h v.1.0 a).1;
      pointer = row12_points h D v.1.1.0;
      channel = value_lt frame_header f 0 FrameItem.channel;
      master_bits = value_lt frame_header f 0 FrameItem.master_count;
      count_bits = value_lt frame_header f 0 FrameItem.channel_count;
      segment_bits = value_lt frame_header f 0 FrameItem.segment_length_id;
      pointer_bits = value_lt frame_header f 0 FrameItem.first_header_pointer;
    }

pub opened_sound : OpenedSound
opened_sound u f x e =
    let a = (accepted_exactly u f x).0 e in
    subst (Sound u f) (sym a.0) (sound u f a.1)

-- what is written found no cause
none_found : (u : SetUp) (channel : ℕ) (out : List ℕ) → close_of u channel out ≡ Ok tt → None (close_table u channel out)
unfolding close_of
none_found u channel out e = ((none_exactly Err (Ok tt) (Ok tt) (λ r q. not_refused r (sym q)) (close_table u channel out)).0 e).1

pub close_passes : ClosePasses
unfolding close_of
close_passes u channel out = (
  λ e. passing u channel out (none_found u channel out e),
  λ h. none_gives Err (Ok tt) (close_table u channel out) (passed u channel out h.0 h.1 h.2),
)

pub close_around : CloseAround
unfolding output_of
close_around u channel m k w p out e = none_gives (λ _. out) _ (close_table u channel out) (none_found u channel out e)

-- the data field has D octets
field_size : (u : SetUp) (w : Option ControlWord) (out : List ℕ) → fits_of u ≡ true → length out ≡ u.length → length (field_in u w out) ≡ close_size u w
unfolding field_in
field_size u w out fits whole = let s = sizes u w fits in simp (length-take, length-drop) (omega arith)

pub closed_opens : ClosedOpens
closed_opens u channel m k w p out e hm hk hw hp =
    let t = (close_passes u channel out).0 e in
    let s = sizes u w t.0 in
    let field = field_in u w out in
    let lf = field_size u w out t.0 t.2 in
    rw (close_around u channel m k w p out e) (
      around_opens u channel m k w p field lf t.0 t.1 hm hk (pointer_lt p (close_size u w) s.most hp) hw hp,
      around_field u channel m k w p field lf,
    )

pub closed_low : ClosedLow
unfolding output_of frame_around
closed_low u channel m k w p out =
    ap (λ (h : List ℕ). first_cause (close_table u channel out) (λ _. out) (with_check u (h ++ field_in u w out ++ word_octets w)))
    (header_low u channel m k (flagged_by w) p)

pub closed_refused : ClosedRefused
closed_refused u channel m k w p out e hm hk hp =
    let t = (close_passes u channel out).0 e in
    let lf = field_size u w out t.0 t.2 in
    let q : ℕ = p % 2048 in
    rw (closed_low u channel m k w p out, close_around u channel m k w q out e)
    (around_refused u channel m k w q (field_in u w out) lf t.0 t.1 hm hk (omega arith) hp)

-- the frame around what an opened frame gave
own_flagged : (b : Bool) (w : ControlWord) → flagged_by (pick b (Some w) Option.None) ≡ b
unfolding flagged_by
own_flagged true w = refl
own_flagged false w = refl

around_again : (u : SetUp) (f : List ℕ) → Octets f → Sound u f (frame_of u f) → (header_of f).secondary ≡ false → (header_of f).synchronisation ≡ false
    → frame_around u (header_of f).channel (header_of f).master (header_of f).count (own_word (frame_of u f)) (header_of f).pointer
    (field_in u (own_word (frame_of u f)) f)
    ≡ f
unfolding frame_around field_in frame_of close_size
around_again u f o s plain packets =
    let h = header_of f in
    let b = h.flagged in
    let D = data_size u 0 b in
    let n : ℕ = pick b 4 0 in
    let es : secondary_size h f ≡ 0 = unfold secondary_size in (rw plain) in
    let least : 1 ≤ D = rw es at s.least in
    let full = filled u 0 D b refl least in
    let header = header_again u f s.version s.spacecraft plain packets (s.order packets) (s.segment packets) o (omega arith) in
    let word = word_again h f (6 + D) b refl o (omega (arith, s.octets)) in
    rw (es, own_flagged)
    (ap (with_check u) (ap₂ (λ (x y : List ℕ). x ++ take D (drop 6 f) ++ y) header word ∙ parts_again f D n)
    ∙ check_again u f (6 + D + n) u.error_control refl o (omega (arith, s.octets)) s.undamaged)

pub opened_closes : OpenedCloses
unfolding frame_of
opened_closes u f x o e plain packets =
    let a = (accepted_exactly u f x).0 e in
    let s = sound u f a.1 in
    let w = (close_passes u (header_of f).channel f).1 (s.fits, s.channel, s.octets) in
    rw a.0 (
      w,
      close_around u (header_of f).channel (header_of f).master (header_of f).count (own_word (frame_of u f)) (header_of f).pointer f w
          ∙ around_again u f o s (rw a.0 at plain) (rw a.0 at packets),
    )

pub gap_exactly : GapExactly
unfolding gap_of
gap_exactly count last gap hc hl hg = (λ e. omega arith, λ e. omega arith)
