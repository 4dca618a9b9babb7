-- What is proved of a packet's size and of chains besides the functions' contracts. The proofs are in proofs/HeaderLaws.antt,
-- proofs/Laws.antt and proofs/ChainLaws.antt, under these names in lower case.
use Rattle.std.specs.Prelude.{◌≡◌, true, List, [], ◌∷◌, ◌++◌, ◌↔◌, ℕ, ◌+◌, ◌-◌, ◌*◌, ◌/◌, ◌%◌, ◌≤◌, ◌<◌, eqb, leb, length, get_or, take}
use Rattle.packet.specs.declared.source.Size.TheVariants.{Wait, Foreign, Total}
use Rattle.packet.specs.Chain.{chain_of, distance_of}
use Rattle.packet.specs.Family.{Lawful, Whole, AllWhole}
use Rattle.octets.specs.Layout.{LaidIn}
use Rattle.packet.specs.Header.{packet_header, version_of, total_of, idle_of}
use Rattle.packet.specs.Size.{least, format_most, packet_fits, size_of, source}

-- "Packet header, 6 octets": its layout is one of which the laws of octets/specs/Layout speak
abbrev pub HeaderLaid : Type 0
HeaderLaid = LaidIn packet_header 6

-- source packets keep the laws of a packet family
abbrev pub SourceLawful : Type 0
SourceLawful = Lawful source

-- the first octet at the latest tells a foreign packet
abbrev pub FirstTells : Type 0
FirstTells = (p q : List ℕ) → size_of (p ++ q) ≡ Foreign → 1 ≤ length p → size_of p ≡ Foreign

-- a total is at most the format's, whatever the list holds
abbrev pub TotalMost : Type 0
TotalMost = (p : List ℕ) (n : ℕ) → size_of p ≡ Total n → n ≤ format_most

-- "delivered if it has 7 to 4,096 octets": of a total that octets tell the limit alone decides
abbrev pub FitsExactly : Type 0
FitsExactly = (limit total : ℕ) → packet_fits limit total ≡ true ↔ ((least ≤ total) × (total ≤ limit))

abbrev pub FitsByLimit : Type 0
FitsByLimit = (limit : ℕ) (p : List ℕ) (n : ℕ) → size_of p ≡ Total n → packet_fits limit n ≡ leb n limit

-- only the first six octets tell
abbrev pub SixTell : Type 0
SixTell = (p : List ℕ) → size_of p ≡ size_of (take 6 p)

-- in the paper's words: no octets wait; a first octet of another version is foreign; one to five of version 000 wait; six tell the total
pub record InWords (p : List ℕ) : Type 0 where
  pub none : length p ≡ 0 → size_of p ≡ Wait
  pub other : 1 ≤ length p → (version_of p ≡ 0 → ⊥) → size_of p ≡ Foreign
  pub few : 1 ≤ length p → version_of p ≡ 0 → length p < 6 → size_of p ≡ Wait
  pub six : 6 ≤ length p → version_of p ≡ 0 → size_of p ≡ Total (total_of p)

abbrev pub SizeInWords : Type 0
SizeInWords = (p : List ℕ) → InWords p

-- in octets: the first holds the version in its upper three bits, the first two the application id in their lower eleven, the fifth and
-- the sixth the length field; version and total are said of octets, numbers below 256
pub record InOctets (p : List ℕ) : Type 0 where
  pub version : get_or p 0 0 < 256 → version_of p ≡ get_or p 0 0 / 32
  pub idle : idle_of p ≡ eqb ((get_or p 0 0 * 256 + get_or p 1 0) % 2048) 2047
  pub total : get_or p 4 0 < 256 → get_or p 5 0 < 256 → total_of p ≡ get_or p 4 0 * 256 + get_or p 5 0 + 7

abbrev pub InOctetsLaw : Type 0
InOctetsLaw = (p : List ℕ) → InOctets p

-- so two octets tell whether a packet is idle
abbrev pub IdleTold : Type 0
IdleTold = (p : List ℕ) (n : ℕ) → 2 ≤ n → idle_of (take n p) ≡ idle_of p

-- packets' octets laid end to end
abbrev pub end_to_end : List (List ℕ) → List ℕ
end_to_end [] = []
end_to_end (p ∷ ps) = p ++ end_to_end ps

-- a run passes the chain test exactly when it is packets laid end to end, each whole by its own header
abbrev pub ChainExactly : Type 0
ChainExactly = (run : List ℕ) → chain_of run ≡ true ↔ ((ps : List (List ℕ)) × ((end_to_end ps ≡ run) × AllWhole source ps))

-- from a packet's start no octet is left to the next boundary, and from inside a packet those of its octets that are left
abbrev pub DistanceExactly : Type 0
DistanceExactly = (before : List (List ℕ)) (p : List ℕ) (behind : List (List ℕ)) → AllWhole source before → Whole source p → AllWhole source behind
    → (distance_of (end_to_end (before ++ p ∷ behind)) (length (end_to_end before)) ≡ 0)
    × ((i : ℕ) → 1 ≤ i → i < length p
    → distance_of (end_to_end (before ++ p ∷ behind)) (length (end_to_end before) + i) ≡ length p - i)

abbrev pub DistanceAtEnd : Type 0
DistanceAtEnd = (ps : List (List ℕ)) → AllWhole source ps → distance_of (end_to_end ps) (length (end_to_end ps)) ≡ 0
