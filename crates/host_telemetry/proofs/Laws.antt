-- The theorems of specs/Theorems.antt.
-- Assumes nothing.
use mathlib.Core.Path.{◌≡◌, refl, ◌∙◌, sym, ap}
use mathlib.Core.Bool.{Bool, true, false}
use mathlib.Core.List.{List}
use Prim.Native.Nat.{ℕ, ◌*◌, ◌<◌}
use native.Mathlib.Omega.{arith}
use borrow.Author.Tests.{not-false, eqb-true, eqb-false}
use lib.Dec.{eqb}
use lib.ListN.{length, get_or, set, take, drop}
use lib.Seq.{get_or-set_same, get_or-set_other}
use Rattle.std.specs.Prelude.{Result, Ok, Err}
use Rattle.octets.specs.Pick.{pick}
use Rattle.packet.specs.Size.{most, source}
use Rattle.walk.proofs.SourceLaws.{source_roomy}
use Rattle.frame.proofs.Laws.{opened_sound}
use Rattle.frame.proofs.NumberLaws.{number_some}
use Rattle.frame.specs.Opening.{frame_of, row1}
use Rattle.frame.specs.SetUp.{fits_of}
use Rattle.frame.specs.declared.set_up.SetUp.{SetUp}
use Rattle.channel.specs.Rules.{record_follows}
use Rattle.channel.specs.State.{fresh_channel}
use Rattle.channel.specs.Store.{output_fits, store_fits}
use Rattle.channel.specs.declared.state.Channel.{Channel}
use Rattle.channel.specs.declared.state.Record.{Record}
use Rattle.reading.proofs.AfterLaws.{channels_kept}
use Rattle.reading.proofs.Laws.{accepted_keeps, others_apart, refused_untouched}
use Rattle.reading.proofs.ReadLaws.{at_record, found_none, leaves, opened, ready, refuses}
use Rattle.reading.specs.Answers.{number_of, values_of as read_values}
use Rattle.reading.specs.Reading.{answer_of as read_answer, done_by, record_after, record_of}
use Rattle.reading.specs.declared.Refusal.{Refusal}
use Rattle.reading.specs.declared.Refusal.TheVariants.{OfFrame, StoreLength, OutputLength, BrokenRecord}
use Rattle.reading.specs.declared.Report.{Report}
use Rattle.writing.proofs.Laws.{refused_untouched as write_untouched}
use Rattle.writing.specs.Answers.{values_of as write_values}
use Rattle.writing.specs.Writing.{answer_of as write_answer}
use Rattle.writing.specs.declared.Refusal.{Refusal as WriteRefusal}
use Rattle.writing.specs.declared.Place.{Place}
use Rattle.host.specs.Answer.{laid_words}
use Rattle.host_answers.specs.Answer.{read_number}
use Rattle.host_telemetry.specs.Theorems.{BusyPacked, OddRefused, SavedFollows, SavedUnpacks, OthersKeep, ReadRefused, WriteRefused, AnswerSizes, NumberFirst}
use Rattle.host_words.specs.Words.{broken_channel, channel_at, each_channel, packed_channel, unpacked}
use Rattle.host_words.proofs.NumberLaws.{eight_channels, whole_words}
use Rattle.host_telemetry.proofs.FitLaws.{followed}
use Rattle.host_words.proofs.BusyLaws.{packed_busy}
use Rattle.host_words.proofs.OwnLaws.{back, drop_packed, each_at, unpacked_is, words_at}
use Rattle.host_words.proofs.Laws.{odd_breaks, at_small}

pub odd_refused : OddRefused
unfolding row1
odd_refused u words store out f a b c o = go (record_follows source most store (unpacked words)) refl
  where
    go : (t : Bool) → record_follows source most store (unpacked words) ≡ t → read_answer u (unpacked words) store out f ≡ Err BrokenRecord
    go true e = absurd (odd_breaks words store e o)
    go false e =
        sym (refuses source most u (unpacked words) store out f BrokenRecord
        (at_record source most u (unpacked words) store out f (not-false (fits_of u) a) (not-false (store_fits most (length store)) b)
        (not-false (output_fits most (length out)) c) e)).answers

-- every count in a record that words are, and in one that a reading leaves of it, is an octet
counts_small : (words : List ℕ) (v : ℕ) → v < 8 → (get_or (unpacked words).channels v fresh_channel).last.0 < 256
unfolding unpacked
counts_small words v h = go (eqb (length words) 32)
  where
    go : (b : Bool) → (get_or (pick b (each_channel (channel_at words)) (each_channel (λ _. broken_channel))) v fresh_channel).last.0 < 256
    go true = rw (each_at (channel_at words) v h) (at_small words v)
    go false = rw (each_at (λ _. broken_channel) v h) (omega arith)

set_small : (cs : List Channel) (i v : ℕ) (c : Channel) → c.last.0 < 256 → v < length cs → (get_or cs v fresh_channel).last.0 < 256
    → (get_or (set cs i c) v fresh_channel).last.0 < 256
set_small cs i v c k l h = go (eqb v i) refl
  where
    go : (b : Bool) → eqb v i ≡ b → (get_or (set cs i c) v fresh_channel).last.0 < 256
    go true e = let q = eqb-true v i e in rw (q, get_or-set_same cs i c fresh_channel (rw q at l)) k
    go false e = rw (get_or-set_other cs i v c fresh_channel (eqb-false v i e)) h

module _ (u : SetUp) (rec : Record) (store out f : List ℕ) (a : Report) (e : read_answer u rec store out f ≡ Ok a) where
  left_as : record_after (frame_of u f) rec (done_by source most (frame_of u f) rec store f) ≡ record_of u rec store out f
  left_as = (leaves source most u rec store out f (found_none source most u rec store out f a e)).record_left

  left_eight : length rec.channels ≡ 8 → length (record_of u rec store out f).channels ≡ 8
  left_eight n =
      rw (← left_as)
      (channels_kept source source_roomy.laws most source_roomy.wide rec (frame_of u f) f store out (ready source most u rec store out f (frame_of u f) (refl, found_none source most u rec store out f a e)) ∙ n)

  frame_count : (frame_of u f).header.count.0 < 256
  frame_count = (opened_sound u f (frame_of u f) (opened source most u rec store out f (found_none source most u rec store out f a e))).count_bits

  left_small : length rec.channels ≡ 8 → ((v : ℕ) → v < 8 → (get_or rec.channels v fresh_channel).last.0 < 256)
      → (v : ℕ) → v < 8 → (get_or (record_of u rec store out f).channels v fresh_channel).last.0 < 256
  unfolding record_after
  left_small n h v l = rw (← left_as) (set_small rec.channels (frame_of u f).header.channel v _ frame_count (omega arith) (h v l))

pub saved_unpacks : SavedUnpacks
saved_unpacks u words store out f answer r words' store' out' answer' c = go (read_answer u (unpacked words) store out f) refl
  where
    go : (a : Result Report Refusal) → read_answer u (unpacked words) store out f ≡ a → unpacked words' ≡ record_of u (unpacked words) store out f
    go (Err x) e =
        ap unpacked (rw e at c.record_left) ∙ sym (refused_untouched source most u (unpacked words) store out f x e).same_record
    go (Ok a) e =
        let n = eight_channels words in
        ap unpacked (rw e at c.record_left)
        ∙ back (record_of u (unpacked words) store out f) (left_eight u (unpacked words) store out f a e n)
        (left_small u (unpacked words) store out f a e n (counts_small words))

-- a refusal's number is not 0
refused_not : (r : Refusal) → number_of r ≡ 0 → ⊥
refused_not (OfFrame r) e = omega (arith, number_some r)
refused_not StoreLength e = omega arith
refused_not OutputLength e = omega arith
refused_not BrokenRecord e = omega arith

pub saved_follows : SavedFollows
saved_follows u words store out f answer r words' store' out' answer' os of c z = go (read_answer u (unpacked words) store out f) refl
  where
    go : (a : Result Report Refusal) → read_answer u (unpacked words) store out f ≡ a → record_follows source most store' (unpacked words') ≡ true
    go (Err x) e = absurd (refused_not x (sym (rw e at c.number) ∙ z))
    go (Ok a) e =
        rw (saved_unpacks u words store out f answer r words' store' out' answer' c, c.store_left)
        (accepted_keeps source most source_roomy u (unpacked words) store out f a os of (eight_channels words) e).follows

pub others_keep : OthersKeep
others_keep u words store out f answer r words' store' out' answer' a w c e h n =
    let rec = unpacked words in
    let after = record_of u rec store out f in
    let follows = followed u rec store out f a e in
    let k : w < length after.channels = omega (arith, left_eight u rec store out f a e (eight_channels words)) in
    ap (λ (l : List ℕ). take 4 (drop (4 * w) l)) (rw e at c.record_left)
    ∙ ap (take 4) (drop_packed after.channels w k)
    ∙ ap packed_channel ((others_apart source most source_roomy u rec store out f a w e h n).channel_kept
    ∙ ap (λ (l : List Channel). get_or l w fresh_channel) (unpacked_is words (whole_words words store follows))
    ∙ each_at (channel_at words) w h)
    ∙ words_at words store follows w h

pub read_refused : ReadRefused
read_refused u words store out f answer r words' store' out' answer' c n = go (read_answer u (unpacked words) store out f) refl
  where
    go : (a : Result Report Refusal) → read_answer u (unpacked words) store out f ≡ a → (words' ≡ words) × (store' ≡ store) × (out' ≡ out)
    go (Err x) e =
        let t = refused_untouched source most u (unpacked words) store out f x e in
        (rw e at c.record_left, c.store_left ∙ t.same_store, c.output_left ∙ t.same_output)
    go (Ok a) e = absurd (n (rw e at c.number))

pub write_refused : WriteRefused
write_refused u channel p w run out answer r out' answer' c n = go (write_answer u channel p run out) refl
  where
    go : (a : Result (Unit {0}) WriteRefusal) → write_answer u channel p run out ≡ a
        → (out' ≡ out) × (answer' ≡ laid_words answer (write_values (write_answer u channel p run out) p))
    go (Err x) e =
        let t = write_untouched u channel p w run out x e in
        (c.output_left ∙ t.1, c.answer_left ∙ ap (λ (q : Place). laid_words answer (write_values (write_answer u channel p run out) q)) t.0)
    go (Ok _) e = absurd (n (rw e at c.number))

read_size : (a : Result Report Refusal) → length (read_values a) ≡ 20
unfolding read_values
read_size (Err r) = refl
read_size (Ok a) = refl

pub answer_sizes : AnswerSizes
unfolding write_values
answer_sizes = (read_size, λ a p. refl, λ cs. refl)

read_first : (a : Result Report Refusal) → get_or (read_values a) 0 0 ≡ read_number a
unfolding read_values
read_first (Err r) = refl
read_first (Ok a) = refl

pub number_first : NumberFirst
unfolding write_values
number_first = (read_first, λ a p. refl, λ cs. refl)

pub busy_packed : BusyPacked
busy_packed rec n = let r = packed_busy rec n in rw (r.0, r.1, r.2)
