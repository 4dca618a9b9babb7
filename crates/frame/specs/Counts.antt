-- The counts, modulo 256.
use Rattle.std.specs.Prelude.{ℕ, ◌+◌, ◌-◌, ◌%◌}

-- "counts go up by one modulo 256"
unfoldable pub after : ℕ → ℕ
after count = (count + 1) % 256

-- step 1, of a channel that was heard: (count - last - 1) modulo 256
unfoldable pub gap_of : ℕ → ℕ → ℕ
gap_of count last = (count + 256 - last - 1) % 256
