-- Opening and closing over the boundary, from what the frame part promises.
-- Assumes nothing.
use Rattle.std.specs.Prelude.{Option, Some, Result, Ok, Err}
use mathlib.Core.Path.{◌≡◌, refl, ◌∙◌, sym, ap}
use mathlib.Core.Bool.{Bool, true, false}
use mathlib.Core.List.{List, ◌∷◌}
use Prim.Native.Nat.{ℕ, ◌^◌, ◌<◌}
use native.Mathlib.Omega.{arith}
use lib.Dec.{eqb}
use lib.ListN.{get_or, replicate}
use Rattle.octets.specs.Pick.{pick}
use Rattle.frame.proofs.Laws.{accepted_exactly, close_exactly, close_untouched, close_written, closed_opens, number_exactly, opened_sound, values_fourteen}
use Rattle.frame.proofs.NumberLaws.{close_number_some, number_some}
use Rattle.frame.proofs.SetUpLaws.{in_range}
use Rattle.frame.specs.Answers.{bit, close_value_of, number_of, values_of}
use Rattle.frame.specs.Closing.{close_of, flagged_by, output_of}
use Rattle.frame.specs.Opening.{frame_of, open_of}
use Rattle.frame.specs.Theorems.{word_number}
use Rattle.frame.specs.declared.closing.CloseRefusal.{CloseRefusal}
use Rattle.frame.specs.declared.closing.ControlWord.{ControlWord}
use Rattle.frame.specs.declared.counts.ChannelCount.{ChannelCount}
use Rattle.frame.specs.declared.counts.MasterCount.{MasterCount}
use Rattle.frame.specs.declared.opening.Frame.{Frame}
use Rattle.frame.specs.declared.opening.Refusal.{Refusal}
use Rattle.frame.specs.declared.set_up.SetUp.{SetUp}
use Rattle.host_frame.specs.Answer.{OpenFits, open_number}
use Rattle.host.specs.Answer.{given_word, laid_words}
use Rattle.host_frame.specs.Calls.{CloseCall, OpenCall}
use Rattle.host_frame.specs.Theorems.{OpenWords, OpenReturns, OpenAccepted, OpenRefused, CloseReturns, CloseRefused, CloseOpens}

-- what an opening answers fits its words
open_fits : (u : SetUp) (f : List ℕ) → OpenFits (open_of u f)
open_fits u f = go (open_of u f) refl
  where
    go : (o : Result Frame Refusal) → open_of u f ≡ o → OpenFits o
    go (Err r) e = tt
    go (Ok x) e =
        let s = opened_sound u f x e in
        let most = ((in_range u).0 s.fits).most in
        record {
          channel = omega (arith, s.channel);
          pointer = omega (arith, s.pointer_bits);
          place = omega (arith, s.inside, s.octets);
          size = omega (arith, s.most);
        }

pub opened_fits : (u : SetUp) (f : List ℕ) (o : Result Frame Refusal) → o ≡ open_of u f → OpenFits o
opened_fits u f o e = rw e (open_fits u f)

-- the number that is returned is the first value
pub open_first : (o : Result Frame Refusal) → get_or (values_of o) 0 0 ≡ open_number o
unfolding values_of
open_first (Err r) = refl
open_first (Ok x) = refl

pub open_words : OpenWords
open_words o = (values_fourteen o, open_first o)

pub open_call : (u set : SetUp) (f answer answer' : List ℕ) (o : Result Frame Refusal) (vs : List ℕ) → set ≡ u → o ≡ open_of set f → vs ≡ values_of o
    → answer' ≡ laid_words answer vs → OpenCall u f answer (get_or vs 0 0) answer'
open_call u set f answer answer' o vs us e v l =
    let told : o ≡ open_of u f = rw us at e in
    let values : vs ≡ values_of (open_of u f) = v ∙ ap values_of told in
    record { number = ap (λ (w : List ℕ). get_or w 0 0) values ∙ open_first (open_of u f); answer_left = l ∙ ap (laid_words answer) values }

pub close_call : (u set : SetUp) (channel : ℕ) (m : MasterCount) (c : ChannelCount) (w control : Option ControlWord) (p : ℕ) (out out' : List ℕ) (given : Result (Unit {0}) CloseRefusal)
    (n : ℕ) → set ≡ u → control ≡ w → given ≡ close_of set channel out → out' ≡ output_of set channel m c control p out → n ≡ close_value_of given
    → CloseCall u channel m c w p out n out'
close_call u set channel m c w control p out out' given n us uw e o q =
    let told : given ≡ close_of u channel out = rw us at e in
    record { number = q ∙ ap close_value_of told; output_left = rw (us, uw) at o }

-- the theorems
open_zero : (o : Result Frame Refusal) → open_number o ≡ 0 → (x : Frame) × (o ≡ Ok x)
open_zero (Err r) e = absurd (omega (arith, number_some r))
open_zero (Ok x) e = (x, refl)

pub open_returns : OpenReturns
open_returns u f answer r answer' c =
    let told = c.number ∙ sym (open_first (open_of u f)) in (
      λ x. rw told (number_exactly u f x),
      (λ z. let o = open_zero (open_of u f) (sym c.number ∙ z) in ((accepted_exactly u f o.0).0 o.1).1, λ n. c.number ∙ ap open_number ((accepted_exactly u f (frame_of u f)).1 (refl, n))),
    )

pub open_accepted : OpenAccepted
open_accepted u f answer r answer' c z =
    let o = open_zero (open_of u f) (sym c.number ∙ z) in
    c.answer_left ∙ ap (λ (v : Result Frame Refusal). laid_words answer (values_of v)) (o.1 ∙ ap Ok ((accepted_exactly u f o.0).0 o.1).0)

pub open_refused : OpenRefused
unfolding values_of
open_refused u f answer r answer' c n = go (open_of u f) refl
  where
    go : (o : Result Frame Refusal) → open_of u f ≡ o → answer' ≡ laid_words answer (r ∷ replicate 13 0)
    go (Err x) e = let q : r ≡ number_of x = rw e at c.number in rw q (rw e at c.answer_left)
    go (Ok x) e = absurd (n (rw e at c.number))

pub close_returns : CloseReturns
close_returns u channel m k w p out r out' c = (
  λ x. rw c.number (close_exactly u channel out x),
  rw c.number (close_written u channel out),
)

pub close_refused : CloseRefused
unfolding close_value_of
close_refused u channel m k w p out r out' c n = go (close_of u channel out) refl
  where
    go : (a : Result (Unit {0}) CloseRefusal) → close_of u channel out ≡ a → out' ≡ out
    go (Err x) e = c.output_left ∙ close_untouched u channel m k w p out x e
    go (Ok written) e = absurd (n (rw e at c.number))

written_zero : (a : Result (Unit {0}) CloseRefusal) → close_value_of a ≡ 0 → a ≡ Ok tt
unfolding close_value_of
written_zero (Err r) e = absurd (omega (arith, close_number_some r))
written_zero (Ok written) e = refl

-- the control word given, as words
word_flag : (has word : ℕ) → bit (flagged_by (given_word has word)) ≡ pick (eqb has 0) 0 1
unfolding flagged_by
word_flag has word = go (eqb has 0)
  where
    go : (b : Bool) → bit (flagged_by (pick b Option.None (Some (record { 0 = word })))) ≡ pick b 0 1
    go true = refl
    go false = refl

word_number_lem : (has word : ℕ) → word_number (given_word has word) ≡ pick (eqb has 0) 0 word
word_number_lem has word = go (eqb has 0)
  where
    go : (b : Bool) → word_number (pick b Option.None (Some (record { 0 = word }))) ≡ pick b 0 word
    go true = refl
    go false = refl

pick_below : (b : Bool) (n k : ℕ) → n < k → pick b 0 n < k
pick_below true n k h = omega arith
pick_below false n k h = h

pub close_opens : CloseOpens
unfolding values_of
close_opens u channel m c has word p out out' answer r answer' hm hc hw points closed opened =
    let w = given_word has word in
    let below : word_number w < 2 ^ 32 = rw (word_number_lem has word) (pick_below (eqb has 0) word (2 ^ 32) hw) in
    let given = closed_opens u channel (record { 0 = m }) (record { 0 = c }) w p out (written_zero (close_of u channel out) (sym closed.number)) hm hc below points in
    let told = rw (← closed.output_left) at given.0 in (
      opened.number ∙ ap open_number told,
      opened.answer_left ∙ ap (λ (o : Result Frame Refusal). laid_words answer (values_of o)) told ∙ rw (word_flag has word, word_number_lem has word),
      rw (← closed.output_left) at given.1,
    )
