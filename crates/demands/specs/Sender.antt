-- The sender of demand 3 (01, the last paragraph of "Writing one frame"): described, and not computed.
use Rattle.std.specs.Prelude.{◌≡◌, Bool, true, false, List, [], ◌∷◌, ◌++◌, ℕ, suc, ◌≤◌, length, take, drop, Ok}
use Rattle.octets.specs.Pick.{pick}
use Rattle.octets.specs.Octets.{Octets}
use Rattle.frame.specs.Counts.{after}
use Rattle.frame.specs.Opening.{open_of, idle_data, none_starts}
use Rattle.frame.specs.declared.opening.Frame.{Frame}
use Rattle.frame.specs.declared.set_up.SetUp.{SetUp}
use Rattle.reading.specs.Reading.{field_of}

-- an octet that is sent, and whether it is the first of a packet
pub record Mark : Type 0 where
  pub octet : ℕ
  pub starts : Bool

-- octets that start no packet
unfoldable pub inner : List ℕ → List Mark
inner [] = []
inner (o ∷ p) = record { octet = o; starts = false } ∷ inner p

-- a packet: its first octet starts it
unfoldable pub marks_of : List ℕ → List Mark
marks_of [] = []
marks_of (o ∷ p) = record { octet = o; starts = true } ∷ inner p

-- packets laid end to end
unfoldable pub marks_of_all : List (List ℕ) → List Mark
marks_of_all [] = []
marks_of_all (p ∷ ps) = marks_of p ++ marks_of_all ps

-- what the sender has to send: perhaps the tail of an earlier packet, then the packets
unfoldable pub stream_of : List ℕ → List (List ℕ) → List Mark
stream_of tail ps = inner tail ++ marks_of_all ps

unfoldable pub octets_marked : List Mark → List ℕ
octets_marked [] = []
octets_marked (m ∷ ms) = m.octet ∷ octets_marked ms

-- the pointer: the place of the first packet start, counted from i; 2047 if none starts
unfoldable pub first_start : ℕ → List Mark → ℕ
first_start i [] = none_starts
first_start i (m ∷ ms) = pick m.starts i (first_start (suc i) ms)

-- between packets: what is still to be sent, if anything, begins with a packet
unfoldable pub between : List Mark → Bool
between [] = true
between (m ∷ ms) = m.starts

-- a frame of the sender: it passes tests 5 to 12 under the set-up, is of channel v and not private, and has this channel count
pub record Sent (u : SetUp) (v : ℕ) (count : ℕ) (f : List ℕ) (x : Frame) : Type 0 where
  pub real : Octets f
  pub opens : open_of u f ≡ Ok x
  pub channel : x.header.channel ≡ v
  pub not_private : x.header.synchronisation ≡ false
  pub counted : x.header.count.0 ≡ count

-- the frames that the sender sends, from this count on and with this still to be sent: each but the idle ones fills its data field with
-- the next octets and points at the first packet start in it; idle ones stand only between packets; counts go up by one modulo 256
pub data Sends (u : SetUp) (v : ℕ) : ℕ → List Mark → List (List ℕ) → Type 0 where
  no_more : (count : ℕ) (rest : List Mark) → Sends u v count rest []
  packets : (count : ℕ) (rest : List Mark) (f : List ℕ) (fs : List (List ℕ)) (x : Frame) → Sent u v count f x
      → x.size ≤ length rest → field_of x f ≡ octets_marked (take x.size rest) → x.header.pointer ≡ first_start 0 (take x.size rest)
      → Sends u v (after count) (drop x.size rest) fs → Sends u v count rest (f ∷ fs)
  idle : (count : ℕ) (rest : List Mark) (f : List ℕ) (fs : List (List ℕ)) (x : Frame) → Sent u v count f x
      → x.header.pointer ≡ idle_data → between rest ≡ true → Sends u v (after count) rest fs → Sends u v count rest (f ∷ fs)
