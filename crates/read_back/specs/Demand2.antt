-- Demand 2: frames that are written from a run of packets read back, in order and from a fresh record, to exactly the packets of the run that
-- are not idle and have at most 4,096 octets. The proof is in proofs/Demand2.antt.
use Rattle.std.specs.Prelude.{◌≡◌, true, List, [], ◌∷◌, ◌++◌, map, ℕ, ◌+◌, ◌-◌, ◌*◌, ◌^◌, ◌≤◌, ◌<◌, eqb, leb, length, drop, Option, Ok}
use Rattle.octets.specs.Pick.{pick}
use Rattle.octets.specs.Octets.{Octets}
use Rattle.packet.specs.Family.{Family, AllWhole}
use Rattle.packet.specs.Size.{least, most, source}
use Rattle.packet.specs.Theorems.{end_to_end}
use Rattle.frame.specs.Header.{channels}
use Rattle.frame.specs.Closing.{close_size}
use Rattle.frame.specs.SetUp.{fits_of, most_length}
use Rattle.frame.specs.Theorems.{word_number}
use Rattle.frame.specs.declared.closing.ControlWord.{ControlWord}
use Rattle.frame.specs.declared.set_up.SetUp.{SetUp}
use Rattle.channel.specs.State.{fresh_record}
use Rattle.channel.specs.declared.state.Record.{Record}
use Rattle.reading.specs.Reading as read
use Rattle.reading.specs.declared.Report.{Report}
use Rattle.walk.specs.Theorems.{Roomy}
use Rattle.writing.specs.Laying.{idle_packet, most_left, placed_part, short_idle}
use Rattle.writing.specs.Writing as write
use Rattle.writing.specs.declared.Place.{Place}
use Rattle.demands.specs.History.{arrives, Delivers, handed_out, wanted}

-- a call of the writer: its control word, any one or none, and the output that it is lent
pub record Writing : Type 0 where
  pub word : Option ControlWord
  pub out : List ℕ

-- "each call given what the last one returned and the same run, channel and set-up": the frames, and where the writing then stands
unfoldable pub frames : SetUp → ℕ → List ℕ → Place → List Writing → List (List ℕ)
frames u v run p [] = []
frames u v run p (c ∷ cs) =
    write.output_of u v p c.word run c.out ∷ frames u v run (write.next_of u v p c.word run c.out) cs

unfoldable pub place_after : SetUp → ℕ → List ℕ → Place → List Writing → Place
place_after u v run p [] = p
place_after u v run p (c ∷ cs) = place_after u v run (write.next_of u v p c.word run c.out) cs

-- no call is refused
abbrev pub NoneRefused : SetUp → ℕ → List ℕ → Place → List Writing → Type 0
NoneRefused u v run p [] = Unit {0}
NoneRefused u v run p (c ∷ cs) =
    (write.answer_of u v p run c.out ≡ Ok tt) × NoneRefused u v run (write.next_of u v p c.word run c.out) cs

-- the outputs have N octets, and a control word is a number of 32 bits
abbrev pub Fair : SetUp → List Writing → Type 0
Fair u [] = Unit {0}
Fair u (c ∷ cs) = (length c.out ≡ u.length) × (word_number c.word < 2 ^ 32) × Fair u cs

-- the filler packets that the calls begin: of exactly the room if that is 7 or more, else of 7 octets
unfoldable pub filler_for : ℕ → ℕ → List (List ℕ)
filler_for placed room = pick (eqb placed 0) [] (pick (eqb room 0) [] (pick (leb least room) (idle_packet room ∷ []) (short_idle ∷ [])))

unfoldable pub fillers : SetUp → ℕ → List ℕ → Place → List Writing → List (List ℕ)
fillers u v run p [] = []
fillers u v run p (c ∷ cs) =
    let D : ℕ = close_size u c.word in
    let n : ℕ = length (placed_part D run p.offset p.left_over) in
    filler_for n (D - n) ++ fillers u v run (write.next_of u v p c.word run c.out) cs

-- what a reader is lent for each frame, and that each output passes test 3
abbrev pub OutputsPass : ℕ → List (List ℕ) → Type 0
OutputsPass limit [] = Unit {0}
OutputsPass limit (o ∷ os) = (limit + most_length ≤ length o) × OutputsPass limit os

-- call by call: gap and broken stay 0
abbrev pub Smooth : Family → ℕ → SetUp → Record → List ℕ → List (List ℕ) → List (List ℕ) → Type 0
Smooth F limit u rec store [] outs = Unit {0}
Smooth F limit u rec store (f ∷ fs) [] = Unit {0}
Smooth F limit u rec store (f ∷ fs) (o ∷ os) =
    ((a : Report) → read.answer_over F limit u rec store o f ≡ Ok a → (a.gap ≡ 0) × (a.broken ≡ 0))
    × Smooth F limit u (read.record_over F limit u rec store o f) (read.store_over F limit u rec store o f) fs os

-- the packets of at most `limit` octets
unfoldable pub fitting : ℕ → List (List ℕ) → List (List ℕ)
fitting limit [] = []
fitting limit (p ∷ ps) = pick (leb (length p) limit) (p ∷ fitting limit ps) (fitting limit ps)

-- the frames of a run read back
pub record ReadsBack (limit : ℕ) (u : SetUp) (v : ℕ) (ps : List (List ℕ)) (p : Place) (cs : List Writing) (store : List ℕ)
    (outs : List (List ℕ)) : Type 0 where
  -- no call of the writer is refused
  pub written : NoneRefused u v (end_to_end ps) p cs
  -- after at most left-over plus run-length calls the offset is at the run's end
  pub gets_there : p.left_over + length (end_to_end ps) ≤ length cs → (place_after u v (end_to_end ps) p cs).offset ≡ length (end_to_end ps)
  -- call by call exactly the packets come out that are due, fillers counting as idle: nothing is lost, and the left-over is a tail
  pub read_back : Delivers source limit u (drop (least - p.left_over) short_idle) (ps ++ fillers u v (end_to_end ps) p cs) fresh_record store []
      (frames u v (end_to_end ps) p cs) (map arrives outs)
  pub smooth : Smooth source limit u fresh_record store (frames u v (end_to_end ps) p cs) outs
  -- so at the run's end: exactly all packets of the run that are not idle and have at most `limit` octets were handed out, in order
  pub all_out : (place_after u v (end_to_end ps) p cs).offset ≡ length (end_to_end ps)
      → handed_out source limit u fresh_record store (frames u v (end_to_end ps) p cs) (map arrives outs) ≡ wanted source (fitting limit ps)

-- the claim, over the limit of a delivered packet: the writer writes source packets alone
abbrev pub Demand2Over : ℕ → Type 0
Demand2Over limit = (u : SetUp) (v : ℕ) (ps : List (List ℕ)) (p : Place) (cs : List Writing) (store : List ℕ) (outs : List (List ℕ))
    → fits_of u ≡ true → v < channels → AllWhole source ps → Octets (end_to_end ps) → length (end_to_end ps) ≤ write.most_run
    → p.offset ≡ 0 → p.left_over ≤ most_left → p.master.0 < 256 → p.count.0 < 256 → Fair u cs
    → length store ≡ limit * channels → Octets store → length outs ≡ length cs → OutputsPass limit outs
    → ReadsBack limit u v ps p cs store outs

-- it holds for every limit that is wide enough
abbrev pub Demand2General : Type 0
Demand2General = (limit : ℕ) → Roomy source limit → Demand2Over limit

-- and so for packets of up to 4,096 octets
abbrev pub Demand2 : Type 0
Demand2 = Demand2Over most
