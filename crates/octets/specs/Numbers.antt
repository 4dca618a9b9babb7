-- Numbers in octets (01, "Layouts": "Bits count from the most significant, 0 first. Numbers are big-endian.").
use Rattle.std.specs.Prelude.{List, [], ◌∷◌, ℕ, zero, suc, ◌+◌, ◌-◌, ◌*◌, ◌/◌, ◌%◌, ◌^◌, get_or}

-- the number in n octets from place at
unfoldable pub number_at : List ℕ → ℕ → ℕ → ℕ
number_at l at zero = 0
number_at l at (suc n) = number_at l at n * 256 + get_or l (at + n) 0

-- of the n octets from place at, the number in `width` bits from bit `first`
unfoldable pub bits_at : List ℕ → ℕ → ℕ → ℕ → ℕ → ℕ
bits_at l at n first width = number_at l at n / 2 ^ (8 * n - (first + width)) % 2 ^ width

-- the n octets of a number
unfoldable pub octets_of : ℕ → ℕ → List ℕ
octets_of zero v = []
octets_of (suc n) v = v / 256 ^ n % 256 ∷ octets_of n v
