-- The theorems of specs/Theorems.antt.
use mathlib.Core.Path.{◌≡◌, refl, sym, ap, ap₂, ◌∙◌}
use mathlib.Core.List.{[], ◌∷◌, append-nil}
use Prim.Native.Nat.{ℕ, ◌+◌, ◌*◌, ◌^◌, ◌<◌}
use native.Mathlib.Nat.{mod-eq_of_lt, mul-one}
use native.Mathlib.Omega.{arith}
use lib.Bits.{bit_xor, xor_self, xor_lt}
use lib.ListN.{length, replicate}
use Rattle.crc.specs.Register.{over, bits, bits_of, preset, syndrome_of}
use Rattle.crc.specs.Book.{modulo, number}
use Rattle.crc.specs.Theorems.{IsBook, IsRemainder, OwnField, EmptyField, In16Bits}
use Rattle.crc.proofs.Xor.{eq_of_xor}
use Rattle.crc.proofs.Digits.{digits_from_lem, digits_at, digits_bits_of, number_append, number_bits, length_bits}
use Rattle.crc.proofs.Linear.{turns, turns_zero, turns_of_zero, over_lt, over_top, syndrome_more}
use Rattle.crc.proofs.Division.{division, remainder}

pub is_book : IsBook
unfolding syndrome_of number
is_book m = sym (division (bits_of m) (replicate 16 1) (digits_bits_of m) (omega arith) refl)

pub is_remainder : IsRemainder
is_remainder n p l f =
    let r = remainder n p l (digits_from_lem p f) in
    (r.0, r.1, r.2, r.3, digits_at (modulo n p) r.4)

pub empty_field : EmptyField
unfolding syndrome_of bits_of over
empty_field = refl

pub in_16_bits : In16Bits
unfolding syndrome_of
in_16_bits m = over_lt (bits_of m) preset (digits_bits_of m) (omega arith)

-- two octets are a number of sixteen digits
length_pair : (hi lo : ℕ) → length (bits_of (hi ∷ lo ∷ [])) ≡ 16
unfolding bits_of bits
length_pair hi lo = refl

number_pair : (hi lo : ℕ) → hi < 256 → lo < 256 → number (bits_of (hi ∷ lo ∷ [])) * 2 ^ 0 ≡ hi * 256 + lo
unfolding bits_of
number_pair hi lo hh hl = simp (mul-one, append-nil, number_append, number_bits, length_bits, mod-eq_of_lt hh, mod-eq_of_lt hl)

-- which falls on the whole register, and then turns sixteen times
two_octets : (r hi lo : ℕ) → r < 2 ^ 16 → hi < 256 → lo < 256 → over (bits_of (hi ∷ lo ∷ [])) r ≡ turns 16 (bit_xor r (hi * 256 + lo))
two_octets r hi lo h hh hl =
    over_top (bits_of (hi ∷ lo ∷ [])) 0 r (digits_bits_of (hi ∷ lo ∷ [])) (ap (λ (n : ℕ). n + 0) (length_pair hi lo)) h
    ∙ ap₂ (λ (k x : ℕ). turns k (bit_xor r x)) (length_pair hi lo) (number_pair hi lo hh hl)

pub own_field : OwnField
own_field m hi lo hh hl =
    let s = syndrome_of m in
    let v = hi * 256 + lo in
    let e = syndrome_more m (hi ∷ lo ∷ []) ∙ two_octets s hi lo (in_16_bits m) hh hl in (
      λ z. sym (eq_of_xor s v (turns_zero 16 (bit_xor s v) (xor_lt 16 s v (in_16_bits m) (omega arith)) (sym e ∙ z))),
      λ q. e ∙ ap (λ (x : ℕ). turns 16 (bit_xor s x)) q ∙ ap (turns 16) (xor_self s) ∙ turns_of_zero 16,
    )
