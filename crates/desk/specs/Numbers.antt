-- A word of the command line as a number.
use Rattle.std.specs.Prelude.{List, [], ◌∷◌, ℕ, ◌+◌, ◌*◌, ◌-◌, ltb, Option, None, Some}
use Rattle.octets.specs.Pick.{pick}

-- what the octet of a decimal digit stands for, 10 if it is none
unfoldable pub digit_of : ℕ → ℕ
digit_of b = pick (ltb b 48) 10 (pick (ltb 57 b) 10 (b - 48))

-- the largest number that is taken
abbrev pub largest : ℕ
largest = 4294967295

-- the digits after those that n stands for
unfoldable pub digits_from : ℕ → List ℕ → Option ℕ
digits_from n [] = Some n
digits_from n (b ∷ w) =
    pick (ltb 9 (digit_of b)) None (pick (ltb largest (n * 10 + digit_of b)) None (digits_from (n * 10 + digit_of b) w))

-- one digit at least
unfoldable pub decimal_of : List ℕ → Option ℕ
decimal_of [] = None
decimal_of (b ∷ w) = digits_from 0 (b ∷ w)
