-- Error control as a shift register (01, "Layouts": generator X^16 + X^12 + X^5 + 1, register preset to ones, over all octets).
-- The register is a number below 2^16. `Book` has the book's formula, which it computes.
use Rattle.std.specs.Prelude.{List, [], ◌∷◌, ◌++◌, ℕ, zero, suc, ◌*◌, ◌/◌, ◌%◌, ◌^◌}
use Rattle.std.specs.Int.Bits.{bit_xor}

-- X^16 + X^12 + X^5 + 1, the bit of value 2^i for X^i
abbrev pub generator : ℕ
generator = 0x11021

-- the register times X: where that has a term X^16, the generator is taken away, which is to add it
unfoldable pub times_x : ℕ → ℕ
times_x r = bit_xor (r * 2) (r / 2 ^ 15 * generator)

-- one more bit, added at the register's top
unfoldable pub step : ℕ → ℕ → ℕ
step r b = times_x (bit_xor r (b * 2 ^ 15))

-- the register after a list of bits
unfoldable pub over : List ℕ → ℕ → ℕ
over [] r = r
over (b ∷ bs) r = over bs (step r b)

-- the k lowest bits of a number, most significant first
unfoldable pub bits : ℕ → ℕ → List ℕ
bits zero n = []
bits (suc k) n = n / 2 ^ k % 2 ∷ bits k n

-- octets as bits, most significant first
unfoldable pub bits_of : List ℕ → List ℕ
bits_of [] = []
bits_of (o ∷ m) = bits 8 o ++ bits_of m

-- "register preset to ones"
abbrev pub preset : ℕ
preset = 0xFFFF

-- the syndrome of a whole frame, and the field of what stands before the field
unfoldable pub syndrome_of : List ℕ → ℕ
syndrome_of m = over (bits_of m) preset
