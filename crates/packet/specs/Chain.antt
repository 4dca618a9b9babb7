-- A run as a chain of whole packets (01, "Writing one frame"; row 22), and the packet boundaries in it.
use Rattle.std.specs.Prelude.{Bool, true, false, List, Option, Some, None, ℕ, zero, suc, ◌-◌, eqb, leb, length, drop}
use Rattle.octets.specs.Pick.{pick}
use Rattle.packet.specs.declared.source.Size.{Size}
use Rattle.packet.specs.declared.source.Size.TheVariants.{Wait, Foreign, Total}
use Rattle.packet.specs.Size.{size_of}

-- the octets of the whole packet that k octets of this size begin with; 0 if they begin with none
unfoldable pub whole_in : Size → ℕ → ℕ
whole_in Wait k = 0
whole_in Foreign k = 0
whole_in (Total n) k = pick (leb n k) n 0

unfoldable pub front_of : List ℕ → ℕ
front_of run = whole_in (size_of run) (length run)

-- the same as an option: 0 octets are no packet
unfoldable pub option_of : ℕ → Option ℕ
option_of n = pick (eqb n 0) None (Some n)

-- packet behind packet to the run's end, in at most so many turns
unfoldable pub chain_in : ℕ → List ℕ → Bool
chain_in zero run = false
chain_in (suc f) run =
    pick (eqb (length run) 0) true (pick (eqb (front_of run) 0) false (chain_in f (drop (front_of run) run)))

-- "a chain of whole version 000 packets (an empty run is one)"; no packet is shorter than an octet
unfoldable pub chain_of : List ℕ → Bool
chain_of run = chain_in (suc (length run)) run

-- the distance from the offset to the first packet boundary at or after it; the run's end is one (decision 21)
unfoldable pub distance_in : ℕ → List ℕ → ℕ → ℕ
distance_in zero run offset = 0
distance_in (suc f) run offset =
    pick (leb offset (front_of run)) (pick (eqb offset 0) 0 (front_of run - offset))
    (distance_in f (drop (front_of run) run) (offset - front_of run))

unfoldable pub distance_of : List ℕ → ℕ → ℕ
distance_of run offset = distance_in (suc (length run)) run offset
