-- The book's division, a digit of the quotient at a time, is the register: after each digit what is left of the dividend is the register's
-- coefficients plus the message's that are still to come. What is left at the end is a remainder.
use mathlib.Core.Path.{◌≡◌, refl, sym, ap, ap₂, ◌∙◌}
use mathlib.Core.List.{List, [], ◌∷◌, ◌++◌, append-nil, append_assoc}
use Prim.Native.Nat.{ℕ, zero, suc, ◌+◌, ◌*◌, ◌%◌, ◌^◌, ◌≤◌, ◌<◌}
use native.Mathlib.Nat.{mod-lt, add-zero, le_of_eq}
use native.Mathlib.Omega.{arith}
use lib.ListN.{length, length-append, drop, replicate}
use lib.Pow.{pow_pos}
use lib.Bits.{bit_xor, xor_block, xor_comm, xor_zero_r}
use Rattle.crc.specs.Register.{times_x, step, over}
use Rattle.crc.specs.Book.{plus, scale, G, modulo, shifted, number, product}
use Rattle.crc.proofs.Xor.{by_digit}
use Rattle.crc.proofs.Digits.{Digits, digits_append, number_lt, number_append}
use Rattle.crc.proofs.Linear.{turn}
use Rattle.crc.proofs.Polynomial.{plus_assoc, length_plus, plus_append, plus_twice, digits_plus, digits_scale, digit_sum, number_plus}

-- the generator below its leading term, times a digit
tail : ℕ → List ℕ
tail d = scale d (drop 1 G)

number_tail : (d : ℕ) → d < 2 → number (tail d) ≡ d * 0x1021
unfolding tail scale number
number_tail = by_digit (λ d. number (tail d) ≡ d * 0x1021) refl refl

-- the register's lower terms R after a digit d of the quotient
next : ℕ → List ℕ → List ℕ
next d R = plus (R ++ (0 ∷ [])) (tail d)

module _ (d : ℕ) (R : List ℕ) (l : length R ≡ 15) where
  as_many : length (R ++ (0 ∷ [])) ≡ length (tail d)
  unfolding tail scale
  as_many = length-append R (0 ∷ []) ∙ ap (λ (n : ℕ). n + 1) l

  length_next : length (next d R) ≡ 16
  unfolding next tail scale
  length_next = length_plus (R ++ (0 ∷ [])) (tail d) (le_of_eq (sym as_many)) ∙ as_many

  module _ (d_r : Digits R) where
    digits_shifted : Digits (R ++ (0 ∷ []))
    digits_shifted = digits_append R (0 ∷ []) d_r (omega arith)

    digits_next : Digits (next d R)
    unfolding next tail
    digits_next = digits_plus (R ++ (0 ∷ [])) (tail d) digits_shifted (digits_scale d (drop 1 G))

    number_next : d < 2 → number (next d R) ≡ times_x (d * 2 ^ 15 + number R)
    unfolding next tail number
    number_next hd =
        number_plus (R ++ (0 ∷ [])) (tail d) as_many digits_shifted (digits_scale d (drop 1 G))
        ∙ ap₂ bit_xor (number_append R (0 ∷ []) ∙ add-zero (number R * 2)) (number_tail d hd)
        ∙ sym (turn d (number R) hd (rw l at (number_lt R d_r)))

add_top : (b r x : ℕ) → b < 2 → r < 2 → x < 2 ^ 15 → bit_xor (r * 2 ^ 15 + x) (b * 2 ^ 15) ≡ (b + r) % 2 * 2 ^ 15 + x
add_top b r x hb hr hx =
    ap (bit_xor (r * 2 ^ 15 + x)) (sym (add-zero (b * 2 ^ 15))) ∙ xor_block 15 r b x 0 hx (pow_pos 15)
    ∙ ap₂ (λ (y z : ℕ). y * 2 ^ 15 + z) (xor_comm r b ∙ sym (digit_sum b r hb hr)) (xor_zero_r x)

number_step : (b r : ℕ) (R : List ℕ) → length R ≡ 15 → b < 2 → Digits (r ∷ R) → number (next ((b + r) % 2) R) ≡ step (number (r ∷ R)) b
unfolding step number
number_step b r R l hb d_r =
    number_next ((b + r) % 2) R l d_r.1 (mod-lt (b + r) (pow_pos 1))
    ∙ ap times_x (rw l (sym (add_top b r (number R) hb d_r.0 (rw l at (number_lt R d_r.1)))))

-- a digit of the quotient
left_step : (b r : ℕ) (c R : List ℕ) → length R ≡ 15
    → modulo (suc (length c)) (plus (shifted (b ∷ c)) ((r ∷ R) ++ replicate (suc (length c)) 0))
    ≡ modulo (length c) (plus (shifted c) (next ((b + r) % 2) R ++ replicate (length c) 0))
unfolding plus scale modulo next tail
left_step b r c R l =
    let d = (b + r) % 2 in
    let z : List ℕ = replicate (length c) 0 in
    ap (modulo (length c))
    (plus_assoc (shifted c) (R ++ 0 ∷ z) (tail d)
    ∙ ap (plus (shifted c)) (ap (λ p. plus p (tail d)) (sym (append_assoc R (0 ∷ []) z)) ∙ plus_append (R ++ (0 ∷ [])) (tail d) z (as_many d R l)))

pub division : (c R : List ℕ) → Digits c → Digits R → length R ≡ 16
    → number (modulo (length c) (plus (shifted c) (R ++ replicate (length c) 0))) ≡ over c (number R)
unfolding over modulo number
division [] R dc d_r l = rw append-nil (number_plus (shifted []) R (sym l) (omega arith) d_r)
division (b ∷ c) [] dc d_r l = absurd (omega arith)
division (b ∷ c) (r ∷ R) dc d_r l =
    let d = (b + r) % 2 in
    let l : length R ≡ 15 = omega arith in
    ap number (left_step b r c R l)
    ∙ division c (next d R) dc.1 (digits_next d R l d_r.1) (length_next d R l)
    ∙ ap (over c) (number_step b r R l dc.0 d_r)

-- the dividend a ∷ p from what is left after the digit a
one_digit : (a : ℕ) (p q t : List ℕ) → Digits (a ∷ p) → 16 ≤ length p → plus p (tail a) ≡ plus (product q G) t
    → a ∷ p ≡ plus (product (a ∷ q) G) (0 ∷ t)
unfolding plus product scale tail
one_digit a p q t d h e =
    ap₂ (λ x l. x ∷ l) (omega arith)
    (sym (plus_assoc (tail a) (product q G) t ∙ ap (plus (tail a)) (sym e) ∙ plus_twice (tail a) p h d.1))

pub remainder : (n : ℕ) (p : List ℕ) → length p ≡ n + 16 → Digits p
    → (q : List ℕ) × (length q ≡ n) × (p ≡ plus (product q G) (replicate n 0 ++ modulo n p)) × (length (modulo n p) ≡ 16)
    × Digits (modulo n p)
unfolding plus product modulo scale tail
remainder zero p l d = ([], refl, refl, l, d)
remainder (suc n) [] l d = absurd (omega arith)
remainder (suc n) (a ∷ p) l d =
    let h : 16 ≤ length p = omega arith in
    let m = remainder n (plus p (tail a)) (length_plus p (tail a) h ∙ omega arith) (digits_plus p (tail a) d.1 (digits_scale a (drop 1 G))) in
    (a ∷ m.0, ap suc m.1, one_digit a p m.0 _ d h m.2, m.3, m.4)
