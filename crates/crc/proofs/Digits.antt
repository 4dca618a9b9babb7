-- Lists of binary digits, the highest first: the numbers that they write, and the digits of a number and of octets.
use mathlib.Core.Path.{◌≡◌, refl, sym, ap, ◌∙◌}
use mathlib.Core.List.{List, [], ◌∷◌, ◌++◌, append_assoc}
use Prim.Native.Nat.{ℕ, zero, suc, ◌+◌, ◌*◌, ◌/◌, ◌%◌, ◌^◌, ◌<◌}
use native.Mathlib.Nat.{mod-lt, mod-one, zero-mul, zero-add, add-mul, add_assoc, mul_assoc, pow-succ'}
use native.Mathlib.Numerals.{one-add}
use native.Mathlib.Omega.{arith}
use lib.Arith.{digits_lt}
use lib.ListN.{length, get_or, length-append}
use lib.Pow.{pow_pos, pow-add, mod-pow-add}
use Rattle.crc.specs.Register.{bits, bits_of}
use Rattle.crc.specs.Book.{number}

-- each is 0 or 1
abbrev pub Digits : List ℕ → Type 0
Digits [] = Unit {0}
Digits (b ∷ bs) = (b < 2) × Digits bs

pub digits_from_lem : (bs : List ℕ) → ((i : ℕ) → get_or bs i 0 < 2) → Digits bs
digits_from_lem [] f = tt
digits_from_lem (b ∷ bs) f = (f 0, digits_from_lem bs (λ i. f (suc i)))

pub digits_at : (bs : List ℕ) → Digits bs → (i : ℕ) → get_or bs i 0 < 2
digits_at [] d i = omega arith
digits_at (b ∷ bs) d zero = d.0
digits_at (b ∷ bs) d (suc i) = digits_at bs d.1 i

pub digits_append : (a b : List ℕ) → Digits a → Digits b → Digits (a ++ b)
digits_append [] b p q = q
digits_append (x ∷ a) b p q = (p.0, digits_append a b p.1 q)

pub number_lt : (bs : List ℕ) → Digits bs → number bs < 2 ^ length bs
unfolding number
number_lt [] d = omega arith
number_lt (b ∷ bs) d = rw (pow-succ' 2 (length bs)) (digits_lt d.0 (number_lt bs d.1))

pub number_append : (a b : List ℕ) → number (a ++ b) ≡ number a * 2 ^ length b + number b
unfolding number
number_append [] b = simp (zero-mul, zero-add)
number_append (x ∷ a) b = simp (number_append a b, length-append a b, pow-add, add-mul, mul_assoc, add_assoc)

pub length_bits : (k v : ℕ) → length (bits k v) ≡ k
unfolding bits
length_bits zero v = refl
length_bits (suc k) v = ap suc (length_bits k v)

pub digits_bits : (k v : ℕ) → Digits (bits k v)
unfolding bits
digits_bits zero v = tt
digits_bits (suc k) v = (mod-lt (v / 2 ^ k) (pow_pos 1), digits_bits k v)

pub number_bits : (k v : ℕ) → number (bits k v) ≡ v % 2 ^ k
unfolding bits number
number_bits zero v = sym (mod-one v)
number_bits (suc k) v = simp (length_bits k v, number_bits k v, ← one-add k, mod-pow-add v 1 k)

pub digits_bits_of : (m : List ℕ) → Digits (bits_of m)
unfolding bits_of
digits_bits_of [] = tt
digits_bits_of (o ∷ m) = digits_append (bits 8 o) (bits_of m) (digits_bits 8 o) (digits_bits_of m)

pub bits_of_append : (a b : List ℕ) → bits_of (a ++ b) ≡ bits_of a ++ bits_of b
unfolding bits_of
bits_of_append [] b = refl
bits_of_append (o ∷ a) b = ap (λ l. bits 8 o ++ l) (bits_of_append a b) ∙ sym (append_assoc (bits 8 o) (bits_of a) (bits_of b))
