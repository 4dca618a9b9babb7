-- The theorems of specs/Theorems.antt.
-- Assumes nothing.
use mathlib.Core.Path.{◌≡◌, refl, ◌∙◌, sym, ap}
use mathlib.Core.Bool.{true}
use mathlib.Core.List.{List}
use Prim.Native.Nat.{ℕ, ◌<◌}
use native.Mathlib.Numerals.{add-one}
use native.Mathlib.Omega.{arith}
use lib.Dec.{eqb}
use lib.ListN.{length, get_or}
use lib.Seq.{get_or-set_same, get_or-set_other}
use Rattle.std.specs.Prelude.{Result, Ok, Err}
use Rattle.octets.specs.Pick.{pick}
use Rattle.octets.proofs.Laws.{zeros_all}
use Rattle.octets.specs.Octets.{Octets}
use Rattle.packet.specs.Family.{Family}
use Rattle.frame.specs.Opening.{frame_of}
use Rattle.frame.specs.declared.opening.Refusal.TheVariants.{SetUpRange, FrameLength, FrameCheck, FrameVersion, OtherSpacecraft, SecondaryHeader, NoData, OrderOrSegment, PointerPlace}
use Rattle.frame.specs.declared.opening.Frame.{Frame}
use Rattle.frame.specs.declared.set_up.SetUp.{SetUp}
use Rattle.frame.proofs.NumberLaws.{number_one as frame_number_one}
use Rattle.table.proofs.Laws.{first_exactly, made}
use Rattle.channel.specs.State.{fresh_channel}
use Rattle.channel.specs.declared.state.Channel.{Channel}
use Rattle.channel.specs.declared.state.Record.{Record}
use Rattle.reading.specs.declared.Refusal.{Refusal}
use Rattle.reading.specs.declared.Refusal.TheVariants.{OfFrame, StoreLength, OutputLength, BrokenRecord}
use Rattle.reading.specs.declared.Report.{Report}
use Rattle.reading.specs.Answers.{number_of, values_of}
use Rattle.reading.specs.Inside.{Ready}
use Rattle.reading.specs.Reading.{read_table_over, channel_of, done_by, report_of, record_after, answer_over, store_over}
use Rattle.reading.specs.Theorems.{NumberExactly, RefusedZero, AcceptedValues, ValuesTwenty, AcceptedExactly, RefusedUntouched, AcceptedKeeps, OthersApart, HeardInWordsLaw, HeardInWords, FewEnoughLaw}
use Rattle.walk.specs.Theorems.{Roomy}
use Rattle.walk.specs.Walk.{Done}
use Rattle.reading.proofs.AfterLaws.{store_kept, output_kept, channels_kept, octets_kept, other_part, other_channel, record_kept, done_few}
use Rattle.reading.proofs.ReadLaws.{LeftBy, found_none, found_cause, leaves, ready, refuses}

-- a number tells its refusal: the reader's own numbers are none of the frame part's
abbrev own : ℕ → Refusal → Refusal
own n other = pick (eqb n 2) StoreLength (pick (eqb n 3) OutputLength (pick (eqb n 4) BrokenRecord other))

case_own : (r : Refusal) → (own (number_of r) r ≡ r) × (0 < number_of r)
case_own StoreLength = (refl, omega arith)
case_own OutputLength = (refl, omega arith)
case_own BrokenRecord = (refl, omega arith)
case_own (OfFrame SetUpRange) = (refl, omega arith)
case_own (OfFrame FrameLength) = (refl, omega arith)
case_own (OfFrame FrameCheck) = (refl, omega arith)
case_own (OfFrame FrameVersion) = (refl, omega arith)
case_own (OfFrame OtherSpacecraft) = (refl, omega arith)
case_own (OfFrame SecondaryHeader) = (refl, omega arith)
case_own (OfFrame NoData) = (refl, omega arith)
case_own (OfFrame OrderOrSegment) = (refl, omega arith)
case_own (OfFrame PointerPlace) = (refl, omega arith)

of_number : (s : Refusal) (n : ℕ) → number_of s ≡ n → own n s ≡ s
of_number s n e = rw (← e) (case_own s).0

number_one : (s r : Refusal) → number_of s ≡ number_of r → s ≡ r
number_one s StoreLength e = sym (of_number s 2 e)
number_one s OutputLength e = sym (of_number s 3 e)
number_one s BrokenRecord e = sym (of_number s 4 e)
number_one StoreLength (OfFrame r) e = of_number (OfFrame r) 2 (sym e)
number_one OutputLength (OfFrame r) e = of_number (OfFrame r) 3 (sym e)
number_one BrokenRecord (OfFrame r) e = of_number (OfFrame r) 4 (sym e)
number_one (OfFrame s) (OfFrame r) e = ap OfFrame (frame_number_one s r e)

abbrev first_value : Result Report Refusal → ℕ
first_value a = get_or (values_of a) 0 0

pub number_exactly : (F : Family) (limit : ℕ) → NumberExactly F limit
unfolding answer_over values_of
number_exactly F limit u rec store out f r =
    rw (made first_value Err _ (read_table_over F limit u rec store out f))
    (first_exactly number_of 0 number_one (λ r e. omega (arith, (case_own r).1)) (read_table_over F limit u rec store out f) r)

pub accepted_exactly : (F : Family) (limit : ℕ) → AcceptedExactly F limit
accepted_exactly F limit u rec store out f =
    (λ h. found_none F limit u rec store out f h.0 h.1, λ n. (_, sym (leaves F limit u rec store out f n).answers))

pub refused_untouched : (F : Family) (limit : ℕ) → RefusedUntouched F limit
refused_untouched F limit u rec store out f r e =
    let l = refuses F limit u rec store out f r (found_cause F limit u rec store out f r e) in
    record { same_record = sym l.record_left; same_store = sym l.store_left; same_output = sym l.output_left }

-- a call that was accepted: what its steps could rely on, what they left, and its answer
module _ (F : Family) (limit : ℕ) (u : SetUp) (rec : Record) (store out f : List ℕ) (a : Report) (e : answer_over F limit u rec store out f ≡ Ok a) where
  relied : Ready F limit rec (frame_of u f) f store out
  relied = ready F limit u rec store out f (frame_of u f) (refl, found_none F limit u rec store out f a e)

  left : LeftBy F limit u rec store out f
  left = leaves F limit u rec store out f (found_none F limit u rec store out f a e)

  told : report_of F (frame_of u f) (channel_of (frame_of u f) rec) (done_by F limit (frame_of u f) rec store f) ≡ a
  told = cc left.answers

pub accepted_keeps : (F : Family) (limit : ℕ) → AcceptedKeeps F limit
accepted_keeps F limit sound u rec store out f a os of eight e =
    let x = frame_of u f in
    let r = relied F limit u rec store out f a e in
    let l = left F limit u rec store out f a e in
    record {
      follows = rw (← l.store_left, ← l.record_left) (record_kept F sound.laws limit sound.wide rec x f store out r os of eight);
      eight = rw (← l.record_left) (channels_kept F sound.laws limit sound.wide rec x f store out r ∙ eight);
      store_length = rw (← l.store_left) (store_kept F sound.laws limit sound.wide rec x f store out r);
      output_length = rw (← l.output_left) (output_kept F sound.laws limit sound.wide rec x f store out r);
    }

-- and the store stays a store of octets, whatever the answer
pub store_octets : (F : Family) (limit : ℕ) → Roomy F limit → (u : SetUp) (rec : Record) (store out f : List ℕ) → Octets store → Octets f
    → Octets (store_over F limit u rec store out f)
store_octets F limit sound u rec store out f os of = go (answer_over F limit u rec store out f) refl
  where
    go : (a : Result Report Refusal) → answer_over F limit u rec store out f ≡ a → Octets (store_over F limit u rec store out f)
    go (Err r) e = rw (refused_untouched F limit u rec store out f r e).same_store os
    go (Ok a) e =
        rw (← (left F limit u rec store out f a e).store_left) (octets_kept F sound.laws limit sound.wide rec (frame_of u f) f store out (relied F limit u rec store out f a e) os of)

pub others_apart : (F : Family) (limit : ℕ) → OthersApart F limit
unfolding report_of
others_apart F limit sound u rec store out f a w e h n =
    let x = frame_of u f in
    let r = relied F limit u rec store out f a e in
    let l = left F limit u rec store out f a e in
    let other : w ≡ x.header.channel → ⊥ = λ q. n (q ∙ ap (λ (b : Report). b.header.channel) (told F limit u rec store out f a e)) in
    record {
      channel_kept = rw (← l.record_left) (other_channel F sound.laws limit sound.wide rec x f store out r w other);
      part_kept = rw (← l.store_left) (other_part F sound.laws limit sound.wide rec x f store out r w h other);
    }

-- the frame's channel is made anew, and no other
heard_after : (x : Frame) (rec : Record) (d : Done) → x.header.channel < length rec.channels
    → HeardInWords x.header d.state rec (record_after x rec d)
unfolding record_after
heard_after x rec d there =
    let own = get_or-set_same rec.channels x.header.channel (record { heard = true; last = x.header.count; state = d.state }) fresh_channel there in
    record {
      heard = ap (λ (c : Channel). c.heard) own;
      last = ap (λ (c : Channel). c.last) own;
      state_left = ap (λ (c : Channel). c.state) own;
      others = λ w n. get_or-set_other rec.channels x.header.channel w _ fresh_channel n;
    }

pub heard_in_words : (F : Family) (limit : ℕ) → HeardInWordsLaw F limit
unfolding report_of
heard_in_words F limit u rec store out f a eight e =
    let x = frame_of u f in
    let h : x.header ≡ a.header = ap (λ (b : Report). b.header) (told F limit u rec store out f a e) in
    let there : x.header.channel < length rec.channels = omega (arith, (relied F limit u rec store out f a e).channel) in
    rw (← h, ← (left F limit u rec store out f a e).record_left) (heard_after x rec (done_by F limit x rec store f) there)

pub few_enough : (F : Family) (limit : ℕ) → FewEnoughLaw F limit
few_enough F limit laws u rec store out f a e =
    rw (told F limit u rec store out f a e) at (done_few F laws limit rec (frame_of u f) f store out (relied F limit u rec store out f a e))

pub refused_zero : (F : Family) (limit : ℕ) → RefusedZero F limit
unfolding values_of
refused_zero F limit u rec store out f r i e = rw (e, add-one) (zeros_all 19 i)

pub accepted_values : AcceptedValues
unfolding values_of
accepted_values a =
    record {
      number = refl;
      kind = refl;
      spacecraft = refl;
      channel = refl;
      flagged = refl;
      master = refl;
      count = refl;
      secondary = refl;
      synchronisation = refl;
      order = refl;
      segment = refl;
      pointer = refl;
      word = refl;
      gap = refl;
      delivered = refl;
      idle = refl;
      broken = refl;
      disagreement = refl;
      foreign = refl;
      oversize = refl;
    }

pub values_twenty : ValuesTwenty
unfolding values_of
values_twenty (Err r) = refl
values_twenty (Ok a) = refl
