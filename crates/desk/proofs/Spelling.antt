-- Laws of a word read as a number, in the form that the loop over its digits uses.
use mathlib.Core.Bool.{true, false}
use Rattle.std.proofs.lemmas.Bool.{false≢true, eqb-true}
use mathlib.Core.List.{List, [], ◌∷◌}
use mathlib.Core.Path.{◌≡◌, refl, sym, ◌∙◌}
use Prim.Native.Nat.{ℕ, ◌+◌, ◌*◌, ◌≤◌, ◌<◌}
use native.Mathlib.Numerals.{add-one}
use native.Mathlib.Omega.{arith}
use borrow.Author.Tests.{lt-ltb, le-ltb}
use lib.Dec.{ltb, eqb}
use lib.ListN.{length, get_or, drop, drop_of_length-le}
use lib.Seq.{drop-cons}
use Rattle.std.proofs.Common.{Some, None}
use Rattle.octets.specs.Pick.{pick}
use Rattle.desk.specs.Numbers.{digit_of, digits_from, largest, decimal_of}

pub no_word : (w : List ℕ) → eqb (length w) 0 ≡ true → None ≡ decimal_of w
unfolding decimal_of
no_word [] e = refl
no_word (x ∷ w) e = absurd (omega (arith, eqb-true (length (x ∷ w)) 0 e))

pub from_start : (w : List ℕ) → eqb (length w) 0 ≡ false → digits_from 0 w ≡ decimal_of w
unfolding decimal_of
from_start [] e = absurd (false≢true (sym e))
from_start (x ∷ w) e = refl

-- one digit more
one_digit : (w : List ℕ) (n i d : ℕ) → i < length w → d ≡ digit_of (get_or w i 0)
    → digits_from n (drop i w) ≡ pick (ltb 9 d) None (pick (ltb largest (n * 10 + d)) None (digits_from (n * 10 + d) (drop (i + 1) w)))
unfolding digits_from
one_digit w n i d h e = rw (drop-cons w i 0 h, add-one, e)

module _ (w : List ℕ) (n i : ℕ) (h : i < length w) (inv : digits_from n (drop i w) ≡ decimal_of w) where
  pub not_a_digit : (digit_of (get_or w i 0) < 10 → ⊥) → None ≡ decimal_of w
  not_a_digit k = sym (one_digit w n i _ h refl ∙ rw (lt-ltb 9 (digit_of (get_or w i 0)) (omega arith))) ∙ inv

  module _ (d : ℕ) (e : (digit_of (get_or w i 0) < 10) × (d ≡ digit_of (get_or w i 0))) where
    pub too_large : largest < n * 10 + d → None ≡ decimal_of w
    too_large l = sym (one_digit w n i d h e.1 ∙ rw (le-ltb 9 d (omega arith), lt-ltb largest (n * 10 + d) l)) ∙ inv

    pub digit_more : n * 10 + d ≤ largest → digits_from (n * 10 + d) (drop (i + 1) w) ≡ decimal_of w
    digit_more l = sym (one_digit w n i d h e.1 ∙ rw (le-ltb 9 d (omega arith), le-ltb largest (n * 10 + d) l)) ∙ inv

pub no_more : (w : List ℕ) (n i : ℕ) → length w ≤ i → digits_from n (drop i w) ≡ decimal_of w → Some n ≡ decimal_of w
unfolding digits_from
no_more w n i h inv = sym (rw (drop_of_length-le w h)) ∙ inv
