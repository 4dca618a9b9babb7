-- Which octets of the output are a frame's packets.
use Rattle.std.specs.Prelude.{List, ℕ, zero, suc, ◌+◌, drop, Result, Ok, Err}
use Rattle.packet.specs.Chain.{front_of}
use Rattle.reading.specs.declared.Refusal.{Refusal}
use Rattle.reading.specs.declared.Report.{Report}

-- the octets that so many packets take, end to end from the first octet on
unfoldable pub span_of : ℕ → List ℕ → ℕ
span_of zero o = 0
span_of (suc n) o = front_of o + span_of n (drop (front_of o) o)

-- none of a refused frame's; of an accepted one's as many as its delivered packets take
unfoldable pub octets_of : Result Report Refusal → List ℕ → ℕ
octets_of (Err r) o = 0
octets_of (Ok r) o = span_of r.delivered o
