-- The set-up and its numbers (01, "The set-up and its numbers").
use Rattle.std.specs.Prelude.{ℕ, ◌-◌, Bool, ◌&&◌, nat_le}
use Rattle.frame.specs.declared.set_up.SetUp.{SetUp}

-- "the frame length N, 13 to 2,048 octets"
abbrev pub least_length : ℕ
least_length = 13

abbrev pub most_length : ℕ
most_length = 2048

-- the longest data field: that of the longest frame, with nothing in it but the header's 6 octets
abbrev pub most_field : ℕ
most_field = most_length - 6

-- "a spacecraft number 0 to 1,023"
abbrev pub most_spacecraft : ℕ
most_spacecraft = 1023

-- N and the spacecraft number are within their ranges
unfoldable pub fits_of : SetUp → Bool
fits_of u = nat_le least_length u.length && (nat_le u.length most_length && nat_le u.spacecraft most_spacecraft)
