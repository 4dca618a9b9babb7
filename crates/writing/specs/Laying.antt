-- The data field of a written frame (01, "Writing one frame"), of D octets.
use Rattle.std.specs.Prelude.{Bool, ◌&&◌, List, [], ◌∷◌, ◌++◌, ℕ, ◌+◌, ◌-◌, eqb, ltb, leb, length, take, drop, replicate}
use Rattle.octets.specs.Numbers.{octets_of}
use Rattle.octets.specs.Pick.{pick}
use Rattle.packet.specs.Header.{length_bias}
use Rattle.packet.specs.Size.{least}
use Rattle.frame.specs.Opening.{idle_data, none_starts}

-- "a left-over of 0 to 6": at most all but one of the octets of the shortest idle packet
abbrev pub most_left : ℕ
most_left = least - 1

-- "An idle packet has header 07 FF C0 00, its length, and octets 55."
unfoldable pub idle_packet : ℕ → List ℕ
idle_packet n = (0x07 ∷ 0xFF ∷ 0xC0 ∷ 0x00 ∷ []) ++ octets_of 2 (n - length_bias) ++ replicate (n - 6) 0x55

-- "the idle packet 07 FF C0 00 00 00 55"
abbrev pub short_idle : List ℕ
short_idle = 0x07 ∷ 0xFF ∷ 0xC0 ∷ 0x00 ∷ 0x00 ∷ 0x00 ∷ 0x55 ∷ []

-- "first the last left-over octets of the idle packet [..], as many as fit"
unfoldable pub left_part : ℕ → ℕ → List ℕ
left_part D left = take D (drop (least - left) short_idle)

-- "then the run from the offset"
unfoldable pub run_part : ℕ → List ℕ → ℕ → ℕ → List ℕ
run_part D run offset left = take (D - length (left_part D left)) (drop offset run)

-- left-over and run as far as they fit
unfoldable pub placed_part : ℕ → List ℕ → ℕ → ℕ → List ℕ
placed_part D run offset left = left_part D left ++ run_part D run offset left

-- "Room left after the run: if nothing at all was placed, an idle frame of octets 55; otherwise one idle packet of exactly the room
-- if it is 7 or more, else the 7-octet idle packet, its unplaced octets being the new left-over"
unfoldable pub filler_of : ℕ → ℕ → List ℕ
filler_of placed room =
    pick (eqb placed 0) (replicate room 0x55)
    (pick (leb least room) (idle_packet room) (take room short_idle))

-- the unplaced octets of a 7-octet idle packet that was begun
unfoldable pub left_after : ℕ → ℕ → ℕ
left_after placed room = pick (eqb placed 0) 0 (pick (leb least room) 0 (pick (eqb room 0) 0 (least - room)))

-- the whole data field
unfoldable pub field_of : ℕ → List ℕ → ℕ → ℕ → List ℕ
field_of D run offset left =
    let p : List ℕ = placed_part D run offset left in
    p ++ filler_of (length p) (D - length p)

-- "as many as fit, the rest staying left over", and what the filler leaves over
unfoldable pub left_over_after : ℕ → List ℕ → ℕ → ℕ → ℕ
left_over_after D run offset left =
    let p : List ℕ = placed_part D run offset left in
    left - length (left_part D left) + left_after (length p) (D - length p)

-- the pointer: the given left-over plus the distance from the offset to the first packet boundary at or after it, if that is below D,
-- else 2047; "2046: idle data only"
unfoldable pub pointer_of : ℕ → ℕ → ℕ → Bool → ℕ
pointer_of D distance left nothing = pick nothing idle_data (pick (ltb (left + distance) D) (left + distance) none_starts)

-- "if nothing at all was placed"
unfoldable pub nothing_of : List ℕ → ℕ → ℕ → Bool
nothing_of run offset left = eqb left 0 && eqb offset (length run)
