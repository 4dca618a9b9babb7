-- Demand 3: of the packets that a sender lays end to end on a channel exactly those come out that are due, each in the call that brings its
-- last octet: with any frames lost, but at most 255 in a row between two arrivals, and with other calls in between, each of them refused, or
-- accepted on another channel with the kept record and store. Call by call first, then over the whole history. The proofs are in
-- proofs/Demand3.antt.
use Rattle.std.specs.Prelude.{◌≡◌, true, false, List, [], ℕ, ◌*◌, ◌<◌, length, get_or}
use Rattle.octets.specs.Octets.{Octets}
use Rattle.packet.specs.Family.{Family, AllWhole}
use Rattle.packet.specs.Size.{most, source}
use Rattle.frame.specs.Header.{channels}
use Rattle.frame.specs.declared.set_up.SetUp.{SetUp}
use Rattle.channel.specs.Rules.{record_follows}
use Rattle.channel.specs.State.{fresh_channel, fresh_record}
use Rattle.channel.specs.declared.state.Record.{Record}
use Rattle.walk.specs.Theorems.{Roomy}
use Rattle.demands.specs.History.{Event, Allowed, Delivers, arrived_whole, came_after, handed_out, wanted}
use Rattle.demands.specs.Sender.{Sends, stream_of}

-- the claim, of packets of a family F and delivered ones of at most `limit` octets: from any record that passes test 4 with this channel
-- unheard, and any octets in the store
abbrev pub Demand3Over : Family → ℕ → Type 0
Demand3Over F limit = (u : SetUp) (v count : ℕ) (tail : List ℕ) (ps fs : List (List ℕ)) (rec : Record) (store : List ℕ) (es : List Event)
    → AllWhole F ps → Sends u v count (stream_of tail ps) fs
    → v < channels → length rec.channels ≡ channels → length store ≡ limit * channels → Octets store → record_follows F limit store rec ≡ true
    → (get_or rec.channels v fresh_channel).heard ≡ false
    → Allowed F limit u v rec store false 0 fs es
    → Delivers F limit u tail ps rec store [] fs es

-- it holds of every family that keeps the laws of one, and of every limit that is wide enough
abbrev pub Demand3General : Type 0
Demand3General = (F : Family) (limit : ℕ) → Roomy F limit → Demand3Over F limit

-- and so of source packets of up to 4,096 octets
abbrev pub Demand3 : Type 0
Demand3 = Demand3Over source most

-- the corollary that the demand names: from a fresh record
abbrev pub Demand3FreshOver : Family → ℕ → Type 0
Demand3FreshOver F limit = (u : SetUp) (v count : ℕ) (tail : List ℕ) (ps fs : List (List ℕ)) (store : List ℕ) (es : List Event)
    → AllWhole F ps → Sends u v count (stream_of tail ps) fs → v < channels → length store ≡ limit * channels → Octets store
    → Allowed F limit u v fresh_record store false 0 fs es
    → Delivers F limit u tail ps fresh_record store [] fs es

-- of source packets of up to 4,096 octets
abbrev pub Demand3Fresh : Type 0
Demand3Fresh = Demand3FreshOver source most

-- "we hand out exactly the packets, idle ones aside, of at most 4,096 octets all of whose octets lie in frames that arrived: unchanged, in
-- order, each once": all arrivals of the history together hand out these packets, as one list
abbrev pub Demand3TogetherOver : Family → ℕ → Type 0
Demand3TogetherOver F limit = (u : SetUp) (v count : ℕ) (tail : List ℕ) (ps fs : List (List ℕ)) (rec : Record) (store : List ℕ) (es : List Event)
    → AllWhole F ps → Sends u v count (stream_of tail ps) fs
    → v < channels → length rec.channels ≡ channels → length store ≡ limit * channels → Octets store → record_follows F limit store rec ≡ true
    → (get_or rec.channels v fresh_channel).heard ≡ false
    → Allowed F limit u v rec store false 0 fs es
    → handed_out F limit u rec store fs es ≡ wanted F (arrived_whole limit (came_after u [] fs es) (length tail) ps)

-- it holds of every family that keeps the laws of one, and of every limit that is wide enough
abbrev pub Demand3TogetherGeneral : Type 0
Demand3TogetherGeneral = (F : Family) (limit : ℕ) → Roomy F limit → Demand3TogetherOver F limit

-- and so of source packets of up to 4,096 octets
abbrev pub Demand3Together : Type 0
Demand3Together = Demand3TogetherOver source most

-- from a fresh record
abbrev pub Demand3TogetherFreshOver : Family → ℕ → Type 0
Demand3TogetherFreshOver F limit = (u : SetUp) (v count : ℕ) (tail : List ℕ) (ps fs : List (List ℕ)) (store : List ℕ) (es : List Event)
    → AllWhole F ps → Sends u v count (stream_of tail ps) fs → v < channels → length store ≡ limit * channels → Octets store
    → Allowed F limit u v fresh_record store false 0 fs es
    → handed_out F limit u fresh_record store fs es ≡ wanted F (arrived_whole limit (came_after u [] fs es) (length tail) ps)

-- of source packets of up to 4,096 octets
abbrev pub Demand3TogetherFresh : Type 0
Demand3TogetherFresh = Demand3TogetherFreshOver source most
