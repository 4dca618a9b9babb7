-- What is proved of the syndrome, apart from `syndrome`'s own contract. The proofs are in proofs/Laws.antt, under these names in lower case.
use Rattle.std.specs.Prelude.{◌≡◌, List, [], ◌∷◌, ◌++◌, ◌↔◌, ℕ, ◌+◌, ◌*◌, ◌^◌, ◌<◌, length, get_or, replicate}
use Rattle.crc.specs.Register.{bits_of, syndrome_of}
use Rattle.crc.specs.Book.{plus, G, modulo, S, number, product}

-- the register is the book's formula
abbrev pub IsBook : Type 0
IsBook = (m : List ℕ) → syndrome_of m ≡ number (S (bits_of m))

-- a message followed by two octets has syndrome zero exactly when these are its own field
abbrev pub OwnField : Type 0
OwnField = (m : List ℕ) (hi lo : ℕ) → hi < 256 → lo < 256 → syndrome_of (m ++ hi ∷ lo ∷ []) ≡ 0 ↔ hi * 256 + lo ≡ syndrome_of m

-- "For an empty message the field is hexadecimal FFFF"
abbrev pub EmptyField : Type 0
EmptyField = syndrome_of [] ≡ 0xFFFF

-- a syndrome has 16 bits
abbrev pub In16Bits : Type 0
In16Bits = (m : List ℕ) → syndrome_of m < 2 ^ 16

-- what the division leaves is a remainder: a multiple of G(X) and it are the dividend, and it has 16 coefficients, below G's leading one,
-- each 0 or 1
abbrev pub IsRemainder : Type 0
IsRemainder =
    (n : ℕ) (p : List ℕ) → length p ≡ n + 16 → ((i : ℕ) → get_or p i 0 < 2)
    → (q : List ℕ) × (length q ≡ n) × (p ≡ plus (product q G) (replicate n 0 ++ modulo n p)) × (length (modulo n p) ≡ 16)
    × ((i : ℕ) → get_or (modulo n p) i 0 < 2)
