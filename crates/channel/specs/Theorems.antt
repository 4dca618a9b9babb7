-- What is proved of records, the store and the busy mask besides the functions' contracts. The proofs are in proofs/Laws.antt, under these
-- names in lower case.
use Rattle.std.specs.Prelude.{◌≡◌, true, false, ◌&&◌, List, ◌↔◌, ℕ, ◌*◌, ◌/◌, ◌%◌, ◌^◌, ◌≤◌, ◌<◌, ltb, length, get_or, take}
use Rattle.octets.specs.Pick.{pick}
use Rattle.packet.specs.Family.{Family}
use Rattle.packet.specs.Size.{version_of, total_of, source}
use Rattle.frame.specs.Header.{channels}
use Rattle.channel.specs.declared.state.Channel.{Channel}
use Rattle.channel.specs.declared.state.Record.{Record}
use Rattle.channel.specs.declared.state.State.TheVariants.{Hunting, Gathering, Skipping}
use Rattle.channel.specs.Busy.{busy_channel, mask_of, lowest_of}
use Rattle.channel.specs.Rules.{judged, state_follows, channel_follows, record_follows}
use Rattle.channel.specs.State.{fresh_channel, fresh_record}
use Rattle.channel.specs.Store.{part_of, with_part}

-- a channel's rules in the paper's words, of source packets
pub record InWords (limit : ℕ) (part : List ℕ) (c : Channel) : Type 0 where
  -- "Unheard means hunting."
  pub unheard : c.heard ≡ false → c.state ≡ Hunting
  -- "gathering k octets (0 to 4,095)"
  pub gathering : (k : ℕ) → c.state ≡ Gathering k → k < limit
  -- "The k octets lie at the start of the channel's part of the store."
  pub there : (k : ℕ) → c.state ≡ Gathering k → k ≤ length part
  -- "If k is 1 or more, the first has version 000"
  pub version : (k : ℕ) → c.state ≡ Gathering k → 1 ≤ k → version_of (take k part) ≡ 0
  -- "if k is 6 or more, the total told by the header is above k and at most 4,096"
  pub total : (k : ℕ) → c.state ≡ Gathering k → 6 ≤ k → (k < total_of (take k part)) × (total_of (take k part) ≤ limit)
  -- "skipping r octets (1 to 65,536)"
  pub skipping : (r : ℕ) → c.state ≡ Skipping r → (1 ≤ r) × (r ≤ 65536)

-- these rules and no more
abbrev pub RulesInWords : Type 0
RulesInWords = (limit : ℕ) (part : List ℕ) (c : Channel) → channel_follows source limit part c ≡ true ↔ InWords limit part c

-- a part of full length has room for whatever a channel gathers
abbrev pub PartHasRoom : Type 0
PartHasRoom = (F : Family) (limit k : ℕ) (part : List ℕ) → limit ≤ length part
    → state_follows F limit part (Gathering k) ≡ (ltb k limit && judged limit k (F.size (take k part)))

-- a record keeps the rules exactly when each of its channels does
abbrev pub EachFollows : Type 0
EachFollows = (F : Family) (limit : ℕ) (store : List ℕ) (rec : Record)
    → record_follows F limit store rec ≡ true
    ↔ ((v : ℕ) → v < length rec.channels → channel_follows F limit (part_of limit v store) (get_or rec.channels v fresh_channel) ≡ true)

abbrev pub FreshFollows : Type 0
FreshFollows = (F : Family) (limit : ℕ) (store : List ℕ) → record_follows F limit store fresh_record ≡ true

-- a channel's part lies inside the store: it has as many octets as the limit says
abbrev pub PartInside : Type 0
PartInside = (limit v : ℕ) (store : List ℕ) → length store ≡ limit * channels → v < channels → length (part_of limit v store) ≡ limit

-- another part for a channel is its part then, the store keeps its length, and every other channel's part is as it was
abbrev pub PartOwn : Type 0
PartOwn = (limit v : ℕ) (store part : List ℕ) → length store ≡ limit * channels → v < channels → length part ≡ limit
    → part_of limit v (with_part limit v store part) ≡ part

abbrev pub PartLength : Type 0
PartLength = (limit v : ℕ) (store part : List ℕ) → length store ≡ limit * channels → v < channels → length part ≡ limit
    → length (with_part limit v store part) ≡ limit * channels

abbrev pub PartApart : Type 0
PartApart = (limit v w : ℕ) (store part : List ℕ) → length store ≡ limit * channels → v < channels → w < channels → length part ≡ limit → (v ≡ w → ⊥)
    → part_of limit w (with_part limit v store part) ≡ part_of limit w store

abbrev pub PartSame : Type 0
PartSame = (limit v : ℕ) (store : List ℕ) → length store ≡ limit * channels → v < channels → with_part limit v store (part_of limit v store) ≡ store

-- the bit of value 2^v is set exactly when channel v is busy, and there is no other bit
abbrev pub MaskBit : Type 0
MaskBit = (cs : List Channel) (v : ℕ) → v < length cs → mask_of cs / 2 ^ v % 2 ≡ pick (busy_channel (get_or cs v fresh_channel)) 1 0

abbrev pub MaskNoMore : Type 0
MaskNoMore = (cs : List Channel) → mask_of cs < 2 ^ length cs

-- the lowest busy channel is busy and none below it is; without one it is the number of channels
pub record Lowest (cs : List Channel) : Type 0 where
  pub none_below : (v : ℕ) → v < lowest_of cs → busy_channel (get_or cs v fresh_channel) ≡ false
  pub busy_there : lowest_of cs < length cs → busy_channel (get_or cs (lowest_of cs) fresh_channel) ≡ true
  pub in_range : lowest_of cs ≤ length cs

abbrev pub LowestBusy : Type 0
LowestBusy = (cs : List Channel) → Lowest cs
