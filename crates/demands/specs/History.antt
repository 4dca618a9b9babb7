-- A history of calls with the kept record and store: frames of the sender arrive or are lost, and other calls come in between. Over a packet
-- family and the limit of a delivered packet.
use Rattle.std.specs.Prelude.{◌≡◌, Bool, true, false, ◌&&◌, List, [], ◌∷◌, ◌++◌, ◌⊎◌, ℕ, zero, suc, ◌+◌, ◌≤◌, eqb, ltb, leb, length, take, drop, replicate, Result, Ok, Err}
use Rattle.octets.specs.Laid.{laid}
use Rattle.octets.specs.Pick.{pick}
use Rattle.packet.specs.Chain.{whole_in}
use Rattle.octets.specs.Octets.{Octets}
use Rattle.packet.specs.Family.{Family}
use Rattle.packet.specs.Theorems.{end_to_end}
use Rattle.frame.specs.Opening.{frame_of, idle_data}
use Rattle.frame.specs.SetUp.{most_length}
use Rattle.frame.specs.declared.set_up.SetUp.{SetUp}
use Rattle.channel.specs.declared.state.Record.{Record}
use Rattle.reading.specs.Reading.{answer_over, record_over, store_over, output_over}
use Rattle.reading.specs.declared.Refusal.{Refusal}
use Rattle.reading.specs.declared.Report.{Report}

-- what another call is lent: the kept record and the kept store, the kept record with this other store, or the kept store with this other
-- record; a call that is lent neither leaves both as they are
pub data Lent : Type 0 where
  both : Lent
  with_store : List ℕ → Lent
  with_record : Record → Lent

-- what may happen: the sender's next frame is lost; it is handed over, with this output; another call is made
pub data Event : Type 0 where
  lost : Event
  arrives : List ℕ → Event
  other : SetUp → Lent → List ℕ → List ℕ → Event

-- "never more than 255 in a row of that channel between two arrivals"
abbrev pub most_missing : ℕ
most_missing = 255

-- a call that is refused, by whatever number; it may carry the sender's own frame
abbrev pub Refuses : Family → ℕ → SetUp → Record → List ℕ → List ℕ → List ℕ → Type 0
Refuses F limit u rec store out f = (r : Refusal) × (answer_over F limit u rec store out f ≡ Err r)

-- a call that is refused, or accepted on another channel than v
abbrev pub Harmless : Family → ℕ → ℕ → SetUp → Record → List ℕ → List ℕ → List ℕ → Type 0
Harmless F limit v u rec store out f =
    Refuses F limit u rec store out f
    ⊎ ((a : Report) × ((answer_over F limit u rec store out f ≡ Ok a) × (a.header.channel ≡ v → ⊥)))

-- the history keeps to the demand's conditions. `heard`: a frame of the sender arrived already; `missing`: how many were lost since;
-- `fs`: the frames still to come
abbrev pub Allowed : Family → ℕ → SetUp → ℕ → Record → List ℕ → Bool → ℕ → List (List ℕ) → List Event → Type 0
Allowed F limit u v rec store heard missing fs [] = Unit {0}
Allowed F limit u v rec store heard missing [] (lost ∷ es) = ⊥
Allowed F limit u v rec store heard missing (f ∷ fs) (lost ∷ es) = Allowed F limit u v rec store heard (missing + 1) fs es
Allowed F limit u v rec store heard missing [] (arrives out ∷ es) = ⊥
Allowed F limit u v rec store heard missing (f ∷ fs) (arrives out ∷ es) =
    (limit + most_length ≤ length out) × (heard ≡ true → missing ≤ most_missing)
    × Allowed F limit u v (record_over F limit u rec store out f) (store_over F limit u rec store out f) true 0 fs es
Allowed F limit u v rec store heard missing fs (other u' both out f ∷ es) =
    Octets f × Harmless F limit v u' rec store out f
    × Allowed F limit u v (record_over F limit u' rec store out f) (store_over F limit u' rec store out f) heard missing fs es
Allowed F limit u v rec store heard missing fs (other u' (with_store s) out f ∷ es) =
    Refuses F limit u' rec s out f × Allowed F limit u v (record_over F limit u' rec s out f) store heard missing fs es
Allowed F limit u v rec store heard missing fs (other u' (with_record r) out f ∷ es) =
    Refuses F limit u' r store out f × Allowed F limit u v rec (store_over F limit u' r store out f) heard missing fs es

-- how many octets of the sender's stream a frame carries
abbrev pub carried : SetUp → List ℕ → ℕ
carried u f = pick (eqb (frame_of u f).header.pointer idle_data) 0 (frame_of u f).size

-- every octet of a packet lies in a frame that arrived
unfoldable pub all_arrived : List Bool → Bool
all_arrived [] = true
all_arrived (b ∷ bs) = b && all_arrived bs

-- of packets that lie in the stream from place s on, those whose last octet lies from place a up to place b, that have at most
-- `limit` octets and every octet of which lies in a frame that arrived (`came` says it of each octet sent so far)
unfoldable pub last_in : ℕ → ℕ → ℕ → List Bool → ℕ → List (List ℕ) → List (List ℕ)
last_in limit a b came s [] = []
last_in limit a b came s (p ∷ ps) =
    pick ((ltb a (s + length p) && leb (s + length p) b) && (leb (length p) limit && all_arrived (take (length p) (drop s came))))
    (p ∷ last_in limit a b came (s + length p) ps)
    (last_in limit a b came (s + length p) ps)

-- of these the packets that are due, and the idle ones
unfoldable pub wanted : Family → List (List ℕ) → List (List ℕ)
wanted F [] = []
wanted F (p ∷ ps) = pick (F.idle p) (wanted F ps) (p ∷ wanted F ps)

unfoldable pub unwanted : Family → List (List ℕ) → List (List ℕ)
unwanted F [] = []
unwanted F (p ∷ ps) = pick (F.idle p) (p ∷ unwanted F ps) (unwanted F ps)

-- the packets whose last octet the frame f brings, `came` being what was sent before it
abbrev pub brought : ℕ → SetUp → List ℕ → List (List ℕ) → List Bool → List ℕ → List (List ℕ)
brought limit u tail ps came f =
    last_in limit (length came) (length came + carried u f) (came ++ replicate (carried u f) true) (length tail) ps

-- what the call that brings f answers and hands out
pub record Call (F : Family) (limit : ℕ) (u : SetUp) (rec : Record) (store out f : List ℕ) (due idle : List (List ℕ)) : Type 0 where
  pub report : Report
  pub accepted : answer_over F limit u rec store out f ≡ Ok report
  pub hands : output_over F limit u rec store out f ≡ laid out 0 (end_to_end due)
  pub delivered : report.delivered ≡ length due
  pub idle_ones : report.idle ≡ length idle
  pub none_foreign : report.foreign ≡ 0
  pub none_disagrees : report.disagreement ≡ 0

-- call by call: what every arrival hands out is what is due in it
abbrev pub Delivers : Family → ℕ → SetUp → List ℕ → List (List ℕ) → Record → List ℕ → List Bool → List (List ℕ) → List Event → Type 0
Delivers F limit u tail ps rec store came fs [] = Unit {0}
Delivers F limit u tail ps rec store came [] (lost ∷ es) = Unit {0}
Delivers F limit u tail ps rec store came (f ∷ fs) (lost ∷ es) = Delivers F limit u tail ps rec store (came ++ replicate (carried u f) false) fs es
Delivers F limit u tail ps rec store came [] (arrives out ∷ es) = Unit {0}
Delivers F limit u tail ps rec store came (f ∷ fs) (arrives out ∷ es) =
    Call F limit u rec store out f (wanted F (brought limit u tail ps came f)) (unwanted F (brought limit u tail ps came f))
    × Delivers F limit u tail ps (record_over F limit u rec store out f) (store_over F limit u rec store out f)
    (came ++ replicate (carried u f) true) fs es
Delivers F limit u tail ps rec store came fs (other u' both out f ∷ es) =
    Delivers F limit u tail ps (record_over F limit u' rec store out f) (store_over F limit u' rec store out f) came fs es
Delivers F limit u tail ps rec store came fs (other u' (with_store s) out f ∷ es) =
    Delivers F limit u tail ps (record_over F limit u' rec s out f) store came fs es
Delivers F limit u tail ps rec store came fs (other u' (with_record r) out f ∷ es) =
    Delivers F limit u tail ps rec (store_over F limit u' r store out f) came fs es

-- over the whole history. The packets that stand end to end at the start of an output: n of them, each as long as its own header says
unfoldable pub packets_in : Family → ℕ → List ℕ → List (List ℕ)
packets_in F zero out = []
packets_in F (suc n) out =
    let first : ℕ = whole_in (F.size out) (length out) in
    take first out ∷ packets_in F n (drop first out)

-- how many packets an answer says were delivered
unfoldable pub delivered_of : Result Report Refusal → ℕ
delivered_of (Err r) = 0
delivered_of (Ok a) = a.delivered

-- what all arrivals of a history together hand out: of the output of each as many packets as its answer says, one after the other, with record
-- and store kept between calls; what other calls hand out is not of this channel
unfoldable pub handed_out : Family → ℕ → SetUp → Record → List ℕ → List (List ℕ) → List Event → List (List ℕ)
handed_out F limit u rec store fs [] = []
handed_out F limit u rec store [] (lost ∷ es) = []
handed_out F limit u rec store (f ∷ fs) (lost ∷ es) = handed_out F limit u rec store fs es
handed_out F limit u rec store [] (arrives out ∷ es) = []
handed_out F limit u rec store (f ∷ fs) (arrives out ∷ es) =
    packets_in F (delivered_of (answer_over F limit u rec store out f)) (output_over F limit u rec store out f)
    ++ handed_out F limit u (record_over F limit u rec store out f) (store_over F limit u rec store out f) fs es
handed_out F limit u rec store fs (other u' both out f ∷ es) =
    handed_out F limit u (record_over F limit u' rec store out f) (store_over F limit u' rec store out f) fs es
handed_out F limit u rec store fs (other u' (with_store s) out f ∷ es) = handed_out F limit u (record_over F limit u' rec s out f) store fs es
handed_out F limit u rec store fs (other u' (with_record r) out f ∷ es) = handed_out F limit u rec (store_over F limit u' r store out f) fs es

-- of each octet of the stream that was sent, whether its frame arrived: `came` for those before this history, then those sent in it
unfoldable pub came_after : SetUp → List Bool → List (List ℕ) → List Event → List Bool
came_after u came fs [] = came
came_after u came [] (lost ∷ es) = came
came_after u came (f ∷ fs) (lost ∷ es) = came_after u (came ++ replicate (carried u f) false) fs es
came_after u came [] (arrives out ∷ es) = came
came_after u came (f ∷ fs) (arrives out ∷ es) = came_after u (came ++ replicate (carried u f) true) fs es
came_after u came fs (other u' lent out f ∷ es) = came_after u came fs es

-- of packets that lie in the stream from place s on, those "of at most 4,096 octets all of whose octets lie in frames that arrived": that
-- have at most `limit` octets, lie within the octets sent, and every octet of which came
unfoldable pub arrived_whole : ℕ → List Bool → ℕ → List (List ℕ) → List (List ℕ)
arrived_whole limit came s [] = []
arrived_whole limit came s (p ∷ ps) =
    pick (leb (length p) limit && (leb (s + length p) (length came) && all_arrived (take (length p) (drop s came))))
    (p ∷ arrived_whole limit came (s + length p) ps)
    (arrived_whole limit came (s + length p) ps)
