-- A packet family: what the reader, and the demands on it, need to know of the packets that a channel carries, and no more. Source packets
-- are one (specs/Size); everything above is stated and proved over any lawful family.
use Rattle.std.specs.Prelude.{Bool, List, [], ◌∷◌, ◌++◌, ◌≡◌, ℕ, ◌+◌, ◌≤◌, ◌<◌, length}
use Rattle.octets.specs.Octets.{Octets}
use Rattle.packet.specs.declared.source.Size.{Size}
use Rattle.packet.specs.declared.source.Size.TheVariants.{Wait, Foreign, Total}

pub record Family : Type 0 where
  -- what the octets seen so far of a packet tell: nothing yet, a foreign packet, or the packet's total
  pub size : List ℕ → Size
  -- whether a whole packet is idle: such a packet is counted, and not delivered
  pub idle : List ℕ → Bool
  -- the octets of the least packet
  pub least : ℕ
  -- so many octets of a packet tell, at the latest
  pub header : ℕ
  -- the most that can be still to come of a packet when its total is told: what a skip can be
  pub most_skip : ℕ

-- the laws of a family: all that the proofs above use of one
pub record Lawful (F : Family) : Type 0 where
  -- nothing seen yet tells nothing
  pub empty_waits : F.size [] ≡ Wait
  -- what was told, foreign or a total, is never changed by more octets
  pub foreign_stays : (p q : List ℕ) → F.size p ≡ Foreign → F.size (p ++ q) ≡ Foreign
  pub total_stays : (p q : List ℕ) (n : ℕ) → F.size p ≡ Total n → F.size (p ++ q) ≡ Total n
  -- a packet's last octet at the latest tells its total, and the header's last octet tells something
  pub last_tells : (p q : List ℕ) (n : ℕ) → F.size (p ++ q) ≡ Total n → n ≤ length p → F.size p ≡ Total n
  pub header_tells : (p : List ℕ) → F.size p ≡ Wait → length p < F.header
  -- a total is at least that of the least packet, which is at least 1
  pub total_least : (p : List ℕ) (n : ℕ) → F.size p ≡ Total n → F.least ≤ n
  pub least_some : 1 ≤ F.least
  -- of a packet whose total is told, no more is to come than a skip can be
  pub skip_most : (p : List ℕ) (n : ℕ) → Octets p → F.size p ≡ Total n → n ≤ length p + F.most_skip

-- packets, each whole by its own header
abbrev pub Whole : Family → List ℕ → Type 0
Whole F p = F.size p ≡ Total (length p)

abbrev pub AllWhole : Family → List (List ℕ) → Type 0
AllWhole F [] = Unit {0}
AllWhole F (p ∷ ps) = Whole F p × AllWhole F ps
