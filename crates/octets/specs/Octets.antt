-- What says that a list of numbers is a list of octets.
use Rattle.std.specs.Prelude.{List, ℕ, ◌<◌, get_or}

-- each number is below 256, as in every slice of octets that code is lent
abbrev pub Octets : List ℕ → Type 0
Octets l = (i : ℕ) → get_or l i 0 < 256
