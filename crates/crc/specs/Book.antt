-- The book's formula (001 at 5.5.2): S(X) = [X^16 C*(X) + X^n L(X)] modulo G(X), by schoolbook division.
-- A polynomial is the list of its coefficients, 0 or 1, highest power first; "all arithmetic is modulo 2".
use Rattle.std.specs.Prelude.{List, [], ◌∷◌, ◌++◌, map, ℕ, zero, suc, ◌+◌, ◌*◌, ◌%◌, ◌^◌, length, get_or, drop, replicate}

-- the sum, of polynomials that begin at the same power
unfoldable pub plus : List ℕ → List ℕ → List ℕ
plus [] q = q
plus (a ∷ p) [] = a ∷ p
plus (a ∷ p) (b ∷ q) = (a + b) % 2 ∷ plus p q

-- a polynomial times a coefficient
unfoldable pub scale : ℕ → List ℕ → List ℕ
scale c p = map (λ a. c * a % 2) p

-- G(X) = X^16 + X^12 + X^5 + 1
abbrev pub G : List ℕ
G = 1 ∷ 0 ∷ 0 ∷ 0 ∷ 1 ∷ 0 ∷ 0 ∷ 0 ∷ 0 ∷ 0 ∷ 0 ∷ 1 ∷ 0 ∷ 0 ∷ 0 ∷ 0 ∷ 1 ∷ []

-- what is left after n digits of the quotient: the leading coefficient is a digit; G times it, under the leading places, is taken
-- away (modulo 2, added), and the leading place, which is then 0, is struck out
unfoldable pub modulo : ℕ → List ℕ → List ℕ
modulo zero p = p
modulo (suc n) p = modulo n (drop 1 (plus p (scale (get_or p 0 0) G)))

-- X^16 C*(X)
abbrev pub shifted : List ℕ → List ℕ
shifted c = c ++ replicate 16 0

-- X^n L(X), L(X) being the sum of X^i for i from 0 to 15
abbrev pub presetting : ℕ → List ℕ
presetting n = replicate 16 1 ++ replicate n 0

-- S(X), for the n bits c of C*(X)
abbrev pub S : List ℕ → List ℕ
S c = modulo (length c) (plus (shifted c) (presetting (length c)))

-- the number whose bits are the coefficients
unfoldable pub number : List ℕ → ℕ
number [] = 0
number (b ∷ bs) = b * 2 ^ length bs + number bs

-- the product: each coefficient of the first times the second, at its place
unfoldable pub product : List ℕ → List ℕ → List ℕ
product [] g = []
product (a ∷ q) g = plus (scale a g) (0 ∷ product q g)
