-- Opening a frame: rows 1 and 5 to 12 of the table (01, "When the desk says no"), and what an accepted frame gives (01, "Layouts").
use Rattle.std.specs.Prelude.{ℕ, ◌+◌, ◌-◌, Bool, not, ◌&&◌, ◌||◌, List, [], ◌∷◌, length, ◌==◌, nat_lt, Result, Ok, Err}
use Rattle.crc.specs.Register.{syndrome_of}
use Rattle.octets.specs.Layout.{value_in}
use Rattle.octets.specs.Numbers.{number_at}
use Rattle.octets.specs.Pick.{pick}
use Rattle.frame.specs.declared.header.Header.{Header}
use Rattle.frame.specs.declared.opening.Frame.{Frame}
use Rattle.frame.specs.declared.opening.Refusal.{Refusal}
use Rattle.frame.specs.declared.opening.Refusal.TheVariants.{SetUpRange, FrameLength, FrameCheck, FrameVersion, OtherSpacecraft, SecondaryHeader, NoData, OrderOrSegment, PointerPlace}
use Rattle.frame.specs.declared.set_up.SetUp.{SetUp}
use Rattle.frame.specs.Header.{header_of, version_of, secondary_header, secondary_version_bits, length_less_one}
use Rattle.frame.specs.SetUp.{fits_of}
use Rattle.table.specs.Table.{Row, row, first_cause}

-- "octet 6 holds version 2 bits (00) and 6 bits of length less one, so s = 1 to 64 octets; otherwise s = 0"
abbrev pub secondary_version : List ℕ → ℕ
secondary_version f = value_in secondary_header f 6 secondary_version_bits

unfoldable pub secondary_size : Header → List ℕ → ℕ
secondary_size h f = pick h.secondary (value_in secondary_header f 6 length_less_one + 1) 0

-- "D = N - 6 - s - (4 if flagged) - (2 if set up)", and 0 where that would be below 1
unfoldable pub data_size : SetUp → ℕ → Bool → ℕ
data_size u s flagged = u.length - 6 - s - pick flagged 4 0 - pick u.error_control 2 0

-- the data field follows the header and the secondary header
abbrev pub data_place : ℕ → ℕ
data_place s = 6 + s

-- "The control word, if flagged, is 4 octets after the data field"; "(zero if not flagged)"
unfoldable pub word_of : Header → List ℕ → ℕ → ℕ
word_of h f end = pick h.flagged (number_at f end 4) 0

-- "2046: idle data only."
abbrev pub idle_data : ℕ
idle_data = 2046

-- "2047: none starts."
abbrev pub none_starts : ℕ
none_starts = 2047

-- row 1: N or the spacecraft number is outside its range
unfoldable pub row1 : SetUp → Bool
row1 u = not (fits_of u)

-- row 5: the frame is not N octets
unfoldable pub row5 : SetUp → List ℕ → Bool
row5 u f = not (length f == u.length)

-- row 6: error control is set up and the syndrome is not zero
unfoldable pub row6 : SetUp → List ℕ → Bool
row6 u f = u.error_control && not (syndrome_of f == 0)

-- row 7: frame version is not 00
unfoldable pub row7 : List ℕ → Bool
row7 f = not (version_of f == 0)

-- row 8: the spacecraft number differs
unfoldable pub row8 : SetUp → Header → Bool
row8 u h = not (h.spacecraft == u.spacecraft)

-- row 9: the secondary header flag is set and that header's version is not 00
unfoldable pub row9 : Header → List ℕ → Bool
row9 h f = h.secondary && not (secondary_version f == 0)

-- row 10: D would be below 1
unfoldable pub row10 : ℕ → Bool
row10 D = nat_lt D 1

-- row 11: synchronisation flag 0, and either order flag not 0 or segment id not 11
unfoldable pub row11 : Header → Bool
row11 h = not h.synchronisation && (h.order || not (h.segment == 3))

-- row 12: synchronisation flag 0, and pointer neither below D nor 2046 nor 2047
unfoldable pub row12 : Header → ℕ → Bool
row12 h D = not h.synchronisation && not (nat_lt h.pointer D || (h.pointer == idle_data || h.pointer == none_starts))

-- what an accepted frame gives: header values, control word, place and length of the data field
unfoldable pub frame_of : SetUp → List ℕ → Frame
frame_of u f =
    let h : Header = header_of f in
    let s : ℕ = secondary_size h f in
    let D : ℕ = data_size u s h.flagged in
    record { header = h; word = word_of h f (data_place s + D); place = data_place s; size = D }

-- rows 5 to 12, in the paper's order: what the frame itself is tested for
unfoldable pub frame_table : SetUp → List ℕ → List (Row Refusal)
frame_table u f =
    let h : Header = header_of f in
    let D : ℕ = data_size u (secondary_size h f) h.flagged in
    row FrameLength (row5 u f) ∷ row FrameCheck (row6 u f) ∷ row FrameVersion (row7 f) ∷ row OtherSpacecraft (row8 u h)
    ∷ row SecondaryHeader (row9 h f) ∷ row NoData (row10 D) ∷ row OrderOrSegment (row11 h) ∷ row PointerPlace (row12 h D) ∷ []

-- rows 1 and 5 to 12: the set-up, then the frame
unfoldable pub open_table : SetUp → List ℕ → List (Row Refusal)
open_table u f = row SetUpRange (row1 u) ∷ frame_table u f

-- opening a frame: "the first cause found gives the number", else what the frame gives
unfoldable pub open_of : SetUp → List ℕ → Result Frame Refusal
open_of u f = first_cause (open_table u f) Err (Ok (frame_of u f))
