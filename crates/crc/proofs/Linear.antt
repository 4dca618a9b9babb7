-- The register: a turn of it, `times_x`, is linear, stays below 2^16 and takes only zero to zero. So digits in a row, sixteen at most, are
-- their number at the register's top and then as many turns.
use mathlib.Core.Path.{◌≡◌, refl, sym, ap, ap₂, ◌∙◌}
use mathlib.Core.List.{List, [], ◌∷◌, ◌++◌, append-nil}
use Prim.Native.Nat.{ℕ, zero, suc, ◌+◌, ◌*◌, ◌/◌, ◌%◌, ◌^◌, ◌<◌}
use native.Mathlib.Nat.{zero-mul, mul-one, mod-eq_of_lt, div-eq_of_lt, add-mul, mul_assoc, pow-suc, pow-succ', lt_of_lt_of_le}
use native.Mathlib.Numerals.{add-one}
use native.Mathlib.Omega.{arith}
use lib.ListN.{length}
use lib.Pow.{pow-add, pow_mono, split, high, shl_lt}
use lib.Bits.{bit_xor, xor_assoc, xor_block, xor_shr, xor_self, xor_zero_r, xor_shifted, xor_lt}
use Rattle.crc.specs.Register.{generator, times_x, step, over, bits, bits_of, preset, syndrome_of}
use Rattle.crc.specs.Book.{number}
use Rattle.crc.proofs.Xor.{by_digit, xor_swap, xor_double, eq_of_xor}
use Rattle.crc.proofs.Digits.{Digits, digits_bits, length_bits, number_bits, number_lt, bits_of_append}

-- a number below 2^16 by its top digit and the rest
pub by_top : (P : ℕ → Type 0) → ((d n : ℕ) → d < 2 → n < 2 ^ 15 → P (d * 2 ^ 15 + n)) → (x : ℕ) → x < 2 ^ 16 → P x
by_top P f x h = rw (split x 15) at (f (x / 2 ^ 15) (x % 2 ^ 15) (omega arith) (omega arith))

-- the top digit leaves the register, and falls back on it as the generator's terms below X^16
pub turn : (d n : ℕ) → d < 2 → n < 2 ^ 15 → times_x (d * 2 ^ 15 + n) ≡ bit_xor (n * 2) (d * 0x1021)
unfolding times_x
turn d n hd hn =
    ap (λ (x : ℕ). bit_xor ((d * 2 ^ 15 + n) * 2) (x * generator)) (high d 15 hn)
    ∙ ap₂ bit_xor {x = (d * 2 ^ 15 + n) * 2} {y = d * 2 ^ 16 + n * 2} {u = d * generator} {v = d * 2 ^ 16 + d * 0x1021} (omega arith) (omega arith)
    ∙ xor_block 16 d d (n * 2) (d * 0x1021) (omega arith) (omega arith)
    ∙ ap (λ (x : ℕ). x * 2 ^ 16 + bit_xor (n * 2) (d * 0x1021)) (xor_self d)
    ∙ omega arith

pub times_x_lt : (r : ℕ) → r < 2 ^ 16 → times_x r < 2 ^ 16
times_x_lt =
    by_top (λ r. times_x r < 2 ^ 16) (λ d n hd hn. rw (turn d n hd hn) (xor_lt 16 (n * 2) (d * 0x1021) (omega arith) (omega arith)))

-- the generator's last term is 1, so what falls back is odd
pub times_x_zero : (r : ℕ) → r < 2 ^ 16 → times_x r ≡ 0 → r ≡ 0
times_x_zero =
    by_top (λ r. times_x r ≡ 0 → r ≡ 0)
    (λ d n hd hn e. by_digit (λ d. n * 2 ≡ d * 0x1021 → d * 2 ^ 15 + n ≡ 0) (λ q. omega arith) (λ q. omega arith) d hd
    (eq_of_xor (n * 2) (d * 0x1021) (sym (turn d n hd hn) ∙ e)))

pub times_x_low : (r : ℕ) → r < 2 ^ 15 → times_x r ≡ r * 2
unfolding times_x
times_x_low r h = ap (λ (d : ℕ). bit_xor (r * 2) (d * generator)) (div-eq_of_lt h) ∙ xor_zero_r (r * 2)

digit_times : (d e : ℕ) → d < 2 → e < 2 → bit_xor d e * generator ≡ bit_xor (d * generator) (e * generator)
digit_times d e hd he =
    by_digit (λ d. bit_xor d e * generator ≡ bit_xor (d * generator) (e * generator)) refl
    (by_digit (λ e. bit_xor 1 e * generator ≡ bit_xor (1 * generator) (e * generator)) refl refl e he) d hd

pub times_x_xor : (a b : ℕ) → a < 2 ^ 16 → b < 2 ^ 16 → times_x (bit_xor a b) ≡ bit_xor (times_x a) (times_x b)
unfolding times_x
times_x_xor a b ha hb =
    ap₂ bit_xor (xor_double a b)
    (ap (λ (d : ℕ). d * generator) (xor_shr a b 15) ∙ digit_times (a / 2 ^ 15) (b / 2 ^ 15) (omega arith) (omega arith))
    ∙ xor_swap (a * 2) (b * 2) (a / 2 ^ 15 * generator) (b / 2 ^ 15 * generator)

-- k turns
unfoldable pub turns : ℕ → ℕ → ℕ
turns zero r = r
turns (suc k) r = turns k (times_x r)

pub turns_of_zero : (k : ℕ) → turns k 0 ≡ 0
unfolding turns times_x
turns_of_zero zero = refl
turns_of_zero (suc k) = turns_of_zero k

pub turns_zero : (k r : ℕ) → r < 2 ^ 16 → turns k r ≡ 0 → r ≡ 0
unfolding turns
turns_zero zero r h e = e
turns_zero (suc k) r h e = times_x_zero r h (turns_zero k (times_x r) (times_x_lt r h) e)

pub turns_xor : (k a b : ℕ) → a < 2 ^ 16 → b < 2 ^ 16 → turns k (bit_xor a b) ≡ bit_xor (turns k a) (turns k b)
unfolding turns
turns_xor zero a b ha hb = refl
turns_xor (suc k) a b ha hb = ap (turns k) (times_x_xor a b ha hb) ∙ turns_xor k (times_x a) (times_x b) (times_x_lt a ha) (times_x_lt b hb)

-- k turns of a number that has k places above it in the register
pub turns_low : (k j r : ℕ) → k + j ≡ 16 → r < 2 ^ j → turns k r ≡ r * 2 ^ k
unfolding turns
turns_low zero j r e h = sym (mul-one r)
turns_low (suc k) j r e h =
    ap (turns k) (times_x_low r (lt_of_lt_of_le h (pow_mono {i = j} {j = 15} (omega arith))))
    ∙ turns_low k (suc j) (r * 2) (omega arith) (rw add-one at (shl_lt {a = r} j 1 h))
    ∙ mul_assoc r 2 (2 ^ k) ∙ ap (λ (x : ℕ). r * x) (sym (pow-succ' 2 k))

-- a bit comes in at the top
top_lt : (r b : ℕ) → b < 2 → r < 2 ^ 16 → bit_xor r (b * 2 ^ 15) < 2 ^ 16
top_lt r b hb h = xor_lt 16 r (b * 2 ^ 15) h (omega arith)

pub step_lt : (r b : ℕ) → b < 2 → r < 2 ^ 16 → step r b < 2 ^ 16
unfolding step
step_lt r b hb h = times_x_lt (bit_xor r (b * 2 ^ 15)) (top_lt r b hb h)

pub over_lt : (bs : List ℕ) (r : ℕ) → Digits bs → r < 2 ^ 16 → over bs r < 2 ^ 16
unfolding over
over_lt [] r d h = h
over_lt (b ∷ bs) r d h = over_lt bs (step r b) d.1 (step_lt r b d.0 h)

pub over_append : (a b : List ℕ) (r : ℕ) → over (a ++ b) r ≡ over b (over a r)
unfolding over
over_append [] b r = refl
over_append (x ∷ a) b r = over_append a b (step r x)

-- a digit b at the top, and a number n of N digits below it, with j places under it
place_lt : (n N j : ℕ) → n < 2 ^ N → N + j ≡ 15 → n * 2 ^ j < 2 ^ 15
place_lt n N j h e = rw e at (shl_lt {a = n} N j h)

at_place : (b n N j : ℕ) → n < 2 ^ N → N + j ≡ 15 → bit_xor (b * 2 ^ 15) (n * 2 ^ j) ≡ (b * 2 ^ N + n) * 2 ^ j
at_place b n N j h e = xor_shifted b 15 (n * 2 ^ j) (place_lt n N j h e) ∙ rw (add-mul, mul_assoc, ← pow-add 2 N j, e)

in_turn : (r b x : ℕ) → r < 2 ^ 16 → b < 2 → x < 2 ^ 15 → bit_xor (step r b) (x * 2) ≡ times_x (bit_xor r (bit_xor (b * 2 ^ 15) x))
unfolding step
in_turn r b x h hb hx =
    ap (bit_xor (times_x (bit_xor r (b * 2 ^ 15)))) (sym (times_x_low x hx))
    ∙ sym (times_x_xor (bit_xor r (b * 2 ^ 15)) x (top_lt r b hb h) (omega arith)) ∙ ap times_x (xor_assoc r (b * 2 ^ 15) x)

-- digits bs, 16 less j of them, are their number at the register's top, and then as many turns
pub over_top : (bs : List ℕ) (j r : ℕ) → Digits bs → length bs + j ≡ 16 → r < 2 ^ 16 → over bs r ≡ turns (length bs) (bit_xor r (number bs * 2 ^ j))
unfolding over number turns
over_top [] j r d e h = sym (ap (bit_xor r) (zero-mul (2 ^ j)) ∙ xor_zero_r r)
over_top (b ∷ bs) j r d e h =
    let n = length bs in
    let x = number bs in
    let hx = number_lt bs d.1 in
    over_top bs (suc j) (step r b) d.1 (omega arith) (step_lt r b d.0 h)
    ∙ ap (turns n)
    (rw (pow-suc 2 j, ← mul_assoc x (2 ^ j) 2) (in_turn r b (x * 2 ^ j) h d.0 (place_lt x n j hx (omega arith)))
    ∙ ap (λ (y : ℕ). times_x (bit_xor r y)) (at_place b x n j hx (omega arith)))

-- so is a number of k digits
pub over_bits : (k j v r : ℕ) → k + j ≡ 16 → v < 2 ^ k → r < 2 ^ 16 → over (bits k v) r ≡ turns k (bit_xor r (v * 2 ^ j))
over_bits k j v r e hv h =
    over_top (bits k v) j r (digits_bits k v) (ap (λ (n : ℕ). n + j) (length_bits k v) ∙ e) h
    ∙ ap₂ (λ (n x : ℕ). turns n (bit_xor r (x * 2 ^ j))) (length_bits k v) (number_bits k v ∙ mod-eq_of_lt hv)

pub syndrome_more : (m n : List ℕ) → syndrome_of (m ++ n) ≡ over (bits_of n) (syndrome_of m)
unfolding syndrome_of
syndrome_more m n = ap (λ l. over l preset) (bits_of_append m n) ∙ over_append (bits_of m) (bits_of n) preset

pub syndrome_octet : (m : List ℕ) (o : ℕ) → syndrome_of (m ++ (o ∷ [])) ≡ over (bits 8 o) (syndrome_of m)
unfolding bits_of
syndrome_octet m o = syndrome_more m (o ∷ []) ∙ ap (λ l. over l (syndrome_of m)) (append-nil (bits 8 o))
