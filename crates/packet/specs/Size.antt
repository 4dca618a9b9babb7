-- What the octets seen so far of a packet tell: the one definition through which everything above learns a packet's length.
use Rattle.std.specs.Prelude.{Bool, not, ◌&&◌, List, ℕ, ◌-◌, eqb, ltb, leb, length}
use Rattle.octets.specs.Pick.{pick}
use Rattle.packet.specs.Family.{Family}
unfoldable pub use Rattle.packet.specs.Header.{version_of, total_of, idle_of}
use Rattle.packet.specs.declared.source.Size.{Size}
use Rattle.packet.specs.declared.source.Size.TheVariants.{Wait, Foreign, Total}

-- "A packet that isn't idle is delivered if it has 7 to 4,096 octets; the format allows 65,542."
abbrev pub least : ℕ
least = 7

abbrev pub most : ℕ
most = 4096

abbrev pub format_most : ℕ
format_most = 65542

-- "delivered if it has 7 to 4,096 octets", over the limit
unfoldable pub packet_fits : ℕ → ℕ → Bool
packet_fits limit total = leb least total && leb total limit

-- nothing yet: wait; a first octet of another version: foreign; fewer than six octets: wait; then the total
unfoldable pub size_of : List ℕ → Size
size_of p =
    pick (eqb (length p) 0) Wait
    (pick (not (eqb (version_of p) 0)) Foreign
    (pick (ltb (length p) 6) Wait (Total (total_of p))))

-- source packets as a family: six octets tell the total, so that at most 65,536 are to come then
abbrev pub source : Family
source = record { size = size_of; idle = idle_of; least = least; header = 6; most_skip = format_most - 6 }
