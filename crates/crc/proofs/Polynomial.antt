-- Sums of polynomials over two elements, as lists of coefficients with the highest power first.
use mathlib.Core.Path.{◌≡◌, refl, sym, ap, ap₂, ◌∙◌}
use mathlib.Core.List.{List, [], ◌∷◌, ◌++◌}
use Prim.Native.Nat.{ℕ, suc, ◌+◌, ◌*◌, ◌%◌, ◌≤◌, ◌<◌}
use native.Mathlib.Nat.{mod-lt, add_assoc, mod-add-mod, add-mod-mod, suc_inj, le_of_eq, le_of_suc-le-suc}
use native.Mathlib.Omega.{arith}
use lib.Arith.{le-zero}
use lib.ListN.{length}
use lib.Pow.{pow_pos}
use lib.Bits.{bit_xor, xor_block}
use Rattle.crc.specs.Book.{plus, scale, number}
use Rattle.crc.proofs.Xor.{by_digit}
use Rattle.crc.proofs.Digits.{Digits, number_lt}

pub plus_assoc : (p q r : List ℕ) → plus (plus p q) r ≡ plus p (plus q r)
unfolding plus
plus_assoc [] q r = refl
plus_assoc (a ∷ p) [] r = refl
plus_assoc (a ∷ p) (b ∷ q) [] = refl
plus_assoc (a ∷ p) (b ∷ q) (c ∷ r) =
    ap₂ (λ x l. x ∷ l) (mod-add-mod (a + b) 2 c ∙ ap (λ (x : ℕ). x % 2) (add_assoc a b c) ∙ sym (add-mod-mod a (b + c) 2)) (plus_assoc p q r)

pub length_plus : (p q : List ℕ) → length q ≤ length p → length (plus p q) ≡ length p
unfolding plus
length_plus [] q h = le-zero h
length_plus (a ∷ p) [] h = refl
length_plus (a ∷ p) (b ∷ q) h = ap suc (length_plus p q (le_of_suc-le-suc h))

pub plus_append : (p q r : List ℕ) → length p ≡ length q → plus (p ++ r) q ≡ plus p q ++ r
unfolding plus
plus_append [] [] [] e = refl
plus_append [] [] (c ∷ r) e = refl
plus_append [] (b ∷ q) r e = absurd (omega arith)
plus_append (a ∷ p) [] r e = absurd (omega arith)
plus_append (a ∷ p) (b ∷ q) r e = ap (λ l. (a + b) % 2 ∷ l) (plus_append p q r (suc_inj e))

-- what is added twice is taken away again
pub plus_twice : (q p : List ℕ) → length q ≤ length p → Digits p → plus q (plus p q) ≡ p
unfolding plus
plus_twice [] [] h d = refl
plus_twice [] (a ∷ p) h d = refl
plus_twice (b ∷ q) [] h d = absurd (omega arith)
plus_twice (b ∷ q) (a ∷ p) h d =
    let e : (b + (a + b) % 2) % 2 ≡ a = omega arith in
    ap₂ (λ x l. x ∷ l) e (plus_twice q p (le_of_suc-le-suc h) d.1)

pub digits_plus : (p q : List ℕ) → Digits p → Digits q → Digits (plus p q)
unfolding plus
digits_plus [] q d e = e
digits_plus (a ∷ p) [] d e = d
digits_plus (a ∷ p) (b ∷ q) d e = (mod-lt (a + b) (pow_pos 1), digits_plus p q d.1 e.1)

pub digits_scale : (c : ℕ) (p : List ℕ) → Digits (scale c p)
unfolding scale
digits_scale c [] = tt
digits_scale c (a ∷ p) = (mod-lt (c * a) (pow_pos 1), digits_scale c p)

pub digit_sum : (a b : ℕ) → a < 2 → b < 2 → (a + b) % 2 ≡ bit_xor a b
digit_sum a b ha hb =
    by_digit (λ a. (a + b) % 2 ≡ bit_xor a b) (by_digit (λ b. (0 + b) % 2 ≡ b) refl refl b hb)
    (by_digit (λ b. (1 + b) % 2 ≡ bit_xor 1 b) refl refl b hb) a ha

pub number_plus : (p q : List ℕ) → length p ≡ length q → Digits p → Digits q → number (plus p q) ≡ bit_xor (number p) (number q)
unfolding plus number
number_plus [] q e dp dq = refl
number_plus (a ∷ p) [] e dp dq = absurd (omega arith)
number_plus (a ∷ p) (b ∷ q) e dp dq =
    let l : length q ≡ length p = sym (suc_inj e) in
    rw (length_plus p q (le_of_eq l), number_plus p q (suc_inj e) dp.1 dq.1, digit_sum a b dp.0 dq.0, l)
    (sym (xor_block (length p) a b (number p) (number q) (number_lt p dp.1) (rw l at (number_lt q dq.1))))
