-- A history that meets every condition of demand 3, octet by octet, and what is due in its arrivals. Proved in proofs/Witness.antt.
use Rattle.std.specs.Prelude.{◌≡◌, Bool, true, false, List, [], ◌∷◌, ◌++◌, map, ℕ, ◌≤◌, ◌<◌, length, replicate}
use Rattle.octets.specs.Laid.{laid}
use Rattle.octets.specs.Octets.{Octets}
use Rattle.packet.specs.Family.{AllWhole}
use Rattle.packet.specs.Size.{most, source}
use Rattle.frame.specs.declared.set_up.SetUp.{SetUp}
use Rattle.channel.specs.State.{fresh_record}
use Rattle.channel.specs.declared.state.Record.{Record}
use Rattle.reading.specs.Reading.{record_of, store_of, output_of}
use Rattle.demands.specs.History.{Event, lost, arrives, other, both, with_store, with_record, Allowed, carried, brought, wanted, unwanted}
use Rattle.demands.specs.Sender.{Sends, stream_of}

-- the set-up: frames of 20 octets of the spacecraft 171, without error control
abbrev pub ours : SetUp
ours = record { length = 20; spacecraft = 171; error_control = false }

-- a set-up for another spacecraft
abbrev pub theirs : SetUp
theirs = record { length = 20; spacecraft = 170; error_control = false }

-- the tail of a packet that the sender began before
abbrev pub earlier : List ℕ
earlier = 0x11 ∷ 0x22 ∷ []

-- an idle packet of the first frame
abbrev pub filler : List ℕ
filler = 0x07 ∷ 0xFF ∷ 0xC0 ∷ 0x00 ∷ 0x00 ∷ 0x00 ∷ 0x55 ∷ []

-- 13 octets: its header is split, five octets in the first frame and one in the second
abbrev pub first : List ℕ
first = 0x01 ∷ 0x23 ∷ 0xC0 ∷ 0x05 ∷ 0x00 ∷ 0x06 ∷ 0x30 ∷ 0x31 ∷ 0x32 ∷ 0x33 ∷ 0x34 ∷ 0x35 ∷ 0x36 ∷ []

-- 17 octets: begun in the second frame, ended with the third
abbrev pub second : List ℕ
second = 0x01 ∷ 0x24 ∷ 0xC0 ∷ 0x06 ∷ 0x00 ∷ 0x0A ∷ 0x50 ∷ 0x51 ∷ 0x52 ∷ 0x53 ∷ 0x54 ∷ 0x55 ∷ 0x56 ∷ 0x57 ∷ 0x58 ∷ 0x59 ∷ 0x5A ∷ []

-- 20 octets: begun in the fifth frame, which is lost, and ended in the sixth
abbrev pub third : List ℕ
third = 0x01 ∷ 0x23 ∷ 0xC0 ∷ 0x07 ∷ 0x00 ∷ 0x0D ∷ 0x70 ∷ 0x71 ∷ 0x72 ∷ 0x73 ∷ 0x74 ∷ 0x75 ∷ 0x76 ∷ 0x77 ∷ 0x78 ∷ 0x79 ∷ 0x7A ∷ 0x7B ∷ 0x7C ∷ 0x7D ∷ []

-- 8 octets of the sixth frame
abbrev pub fourth : List ℕ
fourth = 0x01 ∷ 0x24 ∷ 0xC0 ∷ 0x08 ∷ 0x00 ∷ 0x01 ∷ 0x90 ∷ 0x91 ∷ []

-- the least packet, 7 octets of the seventh frame
abbrev pub fifth : List ℕ
fifth = 0x01 ∷ 0x25 ∷ 0xC0 ∷ 0x09 ∷ 0x00 ∷ 0x00 ∷ 0xA0 ∷ []

-- another one, behind it in the same frame
abbrev pub sixth : List ℕ
sixth = 0x01 ∷ 0x23 ∷ 0xC0 ∷ 0x0A ∷ 0x00 ∷ 0x00 ∷ 0xB0 ∷ []

-- the packets that the sender lays end to end
abbrev pub laid_packets : List (List ℕ)
laid_packets = filler ∷ first ∷ second ∷ third ∷ fourth ∷ fifth ∷ sixth ∷ []

-- count 254: two octets of the tail, then the idle packet at place 2, and the beginning of the first
abbrev pub frame1 : List ℕ
frame1 = 0x0A ∷ 0xB6 ∷ 0x40 ∷ 0xFE ∷ 0x18 ∷ 0x02 ∷ 0x11 ∷ 0x22 ∷ 0x07 ∷ 0xFF ∷ 0xC0 ∷ 0x00 ∷ 0x00 ∷ 0x00 ∷ 0x55 ∷ 0x01 ∷ 0x23 ∷ 0xC0 ∷ 0x05 ∷ 0x00 ∷ []

-- count 255, with a secondary header of three octets, so D = 11: the second packet at place 8
abbrev pub frame2 : List ℕ
frame2 = 0x0A ∷ 0xB6 ∷ 0x42 ∷ 0xFF ∷ 0x98 ∷ 0x08 ∷ 0x02 ∷ 0xE1 ∷ 0xE2 ∷ 0x06 ∷ 0x30 ∷ 0x31 ∷ 0x32 ∷ 0x33 ∷ 0x34 ∷ 0x35 ∷ 0x36 ∷ 0x01 ∷ 0x24 ∷ 0xC0 ∷ []

-- count 0: the rest of the second packet, and none starts
abbrev pub frame3 : List ℕ
frame3 = 0x0A ∷ 0xB6 ∷ 0x43 ∷ 0x00 ∷ 0x1F ∷ 0xFF ∷ 0x06 ∷ 0x00 ∷ 0x0A ∷ 0x50 ∷ 0x51 ∷ 0x52 ∷ 0x53 ∷ 0x54 ∷ 0x55 ∷ 0x56 ∷ 0x57 ∷ 0x58 ∷ 0x59 ∷ 0x5A ∷ []

-- count 1: an idle frame between packets
abbrev pub frame4 : List ℕ
frame4 = 0x0A ∷ 0xB6 ∷ 0x44 ∷ 0x01 ∷ 0x1F ∷ 0xFE ∷ 0x55 ∷ 0x55 ∷ 0x55 ∷ 0x55 ∷ 0x55 ∷ 0x55 ∷ 0x55 ∷ 0x55 ∷ 0x55 ∷ 0x55 ∷ 0x55 ∷ 0x55 ∷ 0x55 ∷ 0x55 ∷ []

-- count 2: the third packet at place 0
abbrev pub frame5 : List ℕ
frame5 = 0x0A ∷ 0xB6 ∷ 0x45 ∷ 0x02 ∷ 0x18 ∷ 0x00 ∷ 0x01 ∷ 0x23 ∷ 0xC0 ∷ 0x07 ∷ 0x00 ∷ 0x0D ∷ 0x70 ∷ 0x71 ∷ 0x72 ∷ 0x73 ∷ 0x74 ∷ 0x75 ∷ 0x76 ∷ 0x77 ∷ []

-- count 3: the end of the third packet, then the fourth at place 6
abbrev pub frame6 : List ℕ
frame6 = 0x0A ∷ 0xB6 ∷ 0x46 ∷ 0x03 ∷ 0x18 ∷ 0x06 ∷ 0x78 ∷ 0x79 ∷ 0x7A ∷ 0x7B ∷ 0x7C ∷ 0x7D ∷ 0x01 ∷ 0x24 ∷ 0xC0 ∷ 0x08 ∷ 0x00 ∷ 0x01 ∷ 0x90 ∷ 0x91 ∷ []

-- count 4: the last two packets
abbrev pub frame7 : List ℕ
frame7 = 0x0A ∷ 0xB6 ∷ 0x47 ∷ 0x04 ∷ 0x18 ∷ 0x00 ∷ 0x01 ∷ 0x25 ∷ 0xC0 ∷ 0x09 ∷ 0x00 ∷ 0x00 ∷ 0xA0 ∷ 0x01 ∷ 0x23 ∷ 0xC0 ∷ 0x0A ∷ 0x00 ∷ 0x00 ∷ 0xB0 ∷ []

-- the frames that the sender sends on channel 3
abbrev pub frames : List (List ℕ)
frames = frame1 ∷ frame2 ∷ frame3 ∷ frame4 ∷ frame5 ∷ frame6 ∷ frame7 ∷ []

-- a frame of channel 5, with the beginning of a packet of 20 octets
abbrev pub elsewhere : List ℕ
elsewhere = 0x0A ∷ 0xBA ∷ 0x41 ∷ 0x4D ∷ 0x18 ∷ 0x00 ∷ 0x01 ∷ 0x26 ∷ 0xC0 ∷ 0x01 ∷ 0x00 ∷ 0x0D ∷ 0xC0 ∷ 0xC1 ∷ 0xC2 ∷ 0xC3 ∷ 0xC4 ∷ 0xC5 ∷ 0xC6 ∷ 0xC7 ∷ []

-- the calls, each with an output of its own: a frame of channel 5 comes between the first two arrivals; the fifth frame is lost; the sixth is
-- handed over with too short an output, under another spacecraft number and with another store, and refused, and then arrives
abbrev pub history : (ℕ → List ℕ) → List ℕ → List ℕ → List Event
history out short store' =
    arrives (out 1) ∷ other ours both (out 2) elsewhere ∷ arrives (out 3) ∷ arrives (out 4) ∷ arrives (out 5) ∷ lost
    ∷ other ours both short frame6 ∷ other theirs both (out 6) frame6 ∷ other ours (with_store store') (out 7) frame6 ∷ arrives (out 8) ∷ arrives (out 9) ∷ []

-- of each arrival, the packets whose last octet it brings; `came` says of each octet sent so far whether it arrived
unfoldable pub brought_in : SetUp → List ℕ → List (List ℕ) → List Bool → List (List ℕ) → List Event → List (List (List ℕ))
brought_in u tail ps came fs [] = []
brought_in u tail ps came [] (e ∷ es) = []
brought_in u tail ps came (f ∷ fs) (lost ∷ es) = brought_in u tail ps (came ++ replicate (carried u f) false) fs es
brought_in u tail ps came (f ∷ fs) (arrives out ∷ es) =
    brought most u tail ps came f ∷ brought_in u tail ps (came ++ replicate (carried u f) true) fs es
brought_in u tail ps came (f ∷ fs) (other u' lent out g ∷ es) = brought_in u tail ps came (f ∷ fs) es

-- the output that each arrival leaves, with record and store kept between calls
abbrev pub outputs_of : SetUp → Record → List ℕ → List (List ℕ) → List Event → List (List ℕ)
outputs_of u rec store fs [] = []
outputs_of u rec store [] (e ∷ es) = []
outputs_of u rec store (f ∷ fs) (lost ∷ es) = outputs_of u rec store fs es
outputs_of u rec store (f ∷ fs) (arrives out ∷ es) =
    output_of u rec store out f ∷ outputs_of u (record_of u rec store out f) (store_of u rec store out f) fs es
outputs_of u rec store (f ∷ fs) (other u' both out g ∷ es) =
    outputs_of u (record_of u' rec store out g) (store_of u' rec store out g) (f ∷ fs) es
outputs_of u rec store (f ∷ fs) (other u' (with_store s) out g ∷ es) = outputs_of u (record_of u' rec s out g) store (f ∷ fs) es
outputs_of u rec store (f ∷ fs) (other u' (with_record r) out g ∷ es) = outputs_of u rec (store_of u' r store out g) (f ∷ fs) es

-- what is due in each of the six arrivals
abbrev pub due_table : List (List (List ℕ))
due_table = [] ∷ (first ∷ []) ∷ (second ∷ []) ∷ [] ∷ (fourth ∷ []) ∷ (fifth ∷ sixth ∷ []) ∷ []

-- the idle packets that end in each
abbrev pub idle_table : List (List (List ℕ))
idle_table = (filler ∷ []) ∷ [] ∷ [] ∷ [] ∷ [] ∷ [] ∷ []

-- the claim over a store, the outputs, one that is too short and a store of another length
pub record Witness (store : List ℕ) (out : ℕ → List ℕ) (short store' : List ℕ) : Type 0 where
  -- the conditions of demand 3 are met
  pub whole : AllWhole source laid_packets
  pub sends : Sends ours 3 254 (stream_of earlier laid_packets) frames
  pub allowed : Allowed source most ours 3 fresh_record store false 0 frames (history out short store')
  -- the tables, by computation
  pub due : map (wanted source) (brought_in ours earlier laid_packets [] frames (history out short store')) ≡ due_table
  pub idle : map (unwanted source) (brought_in ours earlier laid_packets [] frames (history out short store')) ≡ idle_table
  -- so these octets stand in the outputs
  pub hands : outputs_of ours fresh_record store frames (history out short store')
      ≡ out 1 ∷ laid (out 3) 0 first ∷ laid (out 4) 0 second ∷ out 5 ∷ laid (out 8) 0 fourth ∷ laid (out 9) 0 (fifth ++ sixth) ∷ []

-- for every store of 32,768 octets and all outputs of at least 6,144
abbrev pub Demand3Met : Type 0
Demand3Met = (store : List ℕ) (out : ℕ → List ℕ) (short store' : List ℕ) → length store ≡ 32768 → Octets store
    → ((i : ℕ) → 6144 ≤ length (out i)) → length short < 6144 → (length store' ≡ 32768 → ⊥) → Witness store out short store'
