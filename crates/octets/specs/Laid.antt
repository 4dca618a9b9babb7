-- What writing a run of octets into a part of a slice leaves there.
use Rattle.std.specs.Prelude.{List, ◌++◌, ℕ, ◌+◌, length, take, drop}

-- d with s in the place of its octets from place at
unfoldable pub laid : List ℕ → ℕ → List ℕ → List ℕ
laid d at s = take at d ++ s ++ drop (at + length s) d
