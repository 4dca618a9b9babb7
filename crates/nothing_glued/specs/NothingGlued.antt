-- Nothing is ever glued. For any set-up, record that passes test 4, store and frame, a lawful sender's or not: each packet handed out is whole by
-- its own header, not idle, at most the limit; its octets are held octets followed by octets of this field only if the channel was gathering
-- them, the gap is 0 and the pointer agrees, and otherwise all lie side by side in this field. The octets that are held for the next call come
-- from one place in the same way, and of an idle or private frame none are held. The proof is in proofs/NothingGlued.antt.
use Rattle.std.specs.Prelude.{◌≡◌, true, false, List, [], ◌∷◌, ◌++◌, ◌⊎◌, ℕ, ◌+◌, ◌-◌, ◌≤◌, ◌<◌, length, take, drop, Ok}
use Rattle.octets.specs.Laid.{laid}
use Rattle.packet.specs.Family.{Family, Lawful, Whole, AllWhole}
use Rattle.packet.specs.Size.{most, source}
use Rattle.packet.specs.Theorems.{end_to_end}
use Rattle.frame.specs.Counts.{after}
use Rattle.frame.specs.Opening.{frame_of, none_starts}
use Rattle.frame.specs.declared.set_up.SetUp.{SetUp}
use Rattle.channel.specs.Store.{part_of, with_part}
use Rattle.channel.specs.declared.state.Channel.{Channel}
use Rattle.channel.specs.declared.state.Record.{Record}
use Rattle.channel.specs.declared.state.State.TheVariants.{Hunting, Gathering}
use Rattle.reading.specs.Reading.{answer_over, record_over, store_over, output_over, field_of, channel_of}
use Rattle.reading.specs.declared.Kind.TheVariants.{Packets}
use Rattle.reading.specs.declared.Report.{Report}
use Rattle.demands.specs.History.{wanted, unwanted}

-- each packet handed out is whole by its own header, not idle, at most the limit
pub record Proper (F : Family) (limit : ℕ) (p : List ℕ) : Type 0 where
  pub whole : Whole F p
  pub not_idle : F.idle p ≡ false
  pub within : length p ≤ limit

abbrev pub AllProper : Family → ℕ → List (List ℕ) → Type 0
AllProper F limit [] = Unit {0}
AllProper F limit (p ∷ ps) = Proper F limit p × AllProper F limit ps

-- a packet was under way and this frame carries it on: c is the channel's record before the call, a the call's answer
pub record CarriedOn (c : Channel) (a : Report) (k : ℕ) : Type 0 where
  -- the channel was gathering them: k octets, at least one
  pub heard : c.heard ≡ true
  pub gathering : c.state ≡ Gathering k
  pub some_held : 1 ≤ k
  -- the gap is 0, and so the frame's count is the one after the last
  pub no_gap : a.gap ≡ 0
  pub next : c.last.0 < 256 → a.header.count.0 ≡ after c.last.0
  -- and nothing is reported against it
  pub none_broken : a.broken ≡ 0
  pub none_disagrees : a.disagreement ≡ 0

-- "If it ends below D, the pointer must be that place; if it ends at D [..] the pointer must be 2047"
abbrev pub PointsBehind : ℕ → ℕ → ℕ → Type 0
PointsBehind D end pointer = ((end < D) × (pointer ≡ end)) ⊎ ((end ≡ D) × (pointer ≡ none_starts))

-- this field ends it, and p is the whole of it; `part` is the channel's part of the store before the call
pub record Continued (c : Channel) (part field : List ℕ) (a : Report) (p : List ℕ) : Type 0 where
  pub k : ℕ
  pub under_way : CarriedOn c a k
  pub some_new : k < length p
  pub ends_here : length p ≤ k + length field
  -- held octets followed by octets of this field: the k held ones, then the first of this field
  pub octets : p ≡ take k part ++ take (length p - k) field
  -- the pointer agrees
  pub points : PointsBehind (length field) (length p - k) a.header.pointer

-- this field does not end it, and what was held and all of this field is held on
pub record GoesOn (c : Channel) (part field : List ℕ) (a : Report) (held : List ℕ) : Type 0 where
  pub k : ℕ
  pub under_way : CarriedOn c a k
  pub octets : held ≡ take k part ++ field
  -- "goes on beyond, or its length is still unknown, the pointer must be 2047"
  pub points : a.header.pointer ≡ none_starts

-- the finished packets are those inside this field, or these and before them the one that was under way
pub data Finished (c : Channel) (part field : List ℕ) (a : Report) (inside finished : List (List ℕ)) : Type 0 where
  all_inside : finished ≡ inside → Finished c part field a inside finished
  one_continued : (p : List ℕ) → Continued c part field a p → finished ≡ p ∷ inside → Finished c part field a inside finished

-- held for the next call is nothing, or what lies behind the last packet inside this field, or the one under way that goes on
pub data Held (c : Channel) (part field : List ℕ) (a : Report) (finished : List (List ℕ)) (behind held : List ℕ) : Type 0 where
  nothing_held : held ≡ [] → Held c part field a finished behind held
  begun : held ≡ behind → Held c part field a finished behind held
  one_goes_on : GoesOn c part field a held → finished ≡ [] → Held c part field a finished behind held

-- where the packets that a call finished, and the octets that it holds, come from
pub record Origin (F : Family) (c : Channel) (part field : List ℕ) (a : Report) (finished : List (List ℕ)) (held : List ℕ) : Type 0 where
  pub all_whole : AllWhole F finished
  -- otherwise all lie side by side in this field: from the pointer on, packet behind packet; 2047 is behind every field
  pub inside : List (List ℕ)
  pub behind : List ℕ
  pub side_by_side : drop a.header.pointer field ≡ end_to_end inside ++ behind
  pub finished_from : Finished c part field a inside finished
  pub held_from : Held c part field a finished behind held
  -- "Idle and private frames end here": they finish none, and nothing of them is held
  pub only_packets : (a.kind ≡ Packets → ⊥) → (finished ≡ []) × (held ≡ [])

-- what an accepted call hands out and holds
pub record Unglued (F : Family) (limit : ℕ) (u : SetUp) (rec : Record) (store out f : List ℕ) (a : Report) : Type 0 where
  -- "Delivered packets stand end to end from output octet 0; octets after them keep their values": these, and no others
  pub handed : List (List ℕ)
  pub output : output_over F limit u rec store out f ≡ laid out 0 (end_to_end handed)
  pub delivered : a.delivered ≡ length handed
  pub proper : AllProper F limit handed
  -- "A finished packet is delivered, or counted if idle"
  pub finished : List (List ℕ)
  pub not_idle : handed ≡ wanted F finished
  pub idle : a.idle ≡ length (unwanted F finished)
  -- "In the channel's store part the first k octets are the held ones, all others keep theirs."
  pub held : List ℕ
  pub part_left : store_over F limit u rec store out f
      ≡ with_part limit (frame_of u f).header.channel store (laid (part_of limit (frame_of u f).header.channel store) 0 held)
  pub gathers : (k : ℕ) → (channel_of (frame_of u f) (record_over F limit u rec store out f)).state ≡ Gathering k → k ≡ length held
  -- "Idle and private frames end here, hunting."
  pub hunts : (a.kind ≡ Packets → ⊥) → (channel_of (frame_of u f) (record_over F limit u rec store out f)).state ≡ Hunting
  -- all of it comes out of this frame's data field and of what its own channel held
  pub header : a.header ≡ (frame_of u f).header
  pub origin : Origin F (channel_of (frame_of u f) rec) (part_of limit (frame_of u f).header.channel store) (field_of (frame_of u f) f) a finished held

-- the claim, of packets of a family F and delivered ones of at most `limit` octets: nothing is asked of a call but that it is accepted
abbrev pub NothingGluedOver : Family → ℕ → Type 0
NothingGluedOver F limit = (u : SetUp) (rec : Record) (store out f : List ℕ) (a : Report)
    → answer_over F limit u rec store out f ≡ Ok a → Unglued F limit u rec store out f a

-- it holds of every family that keeps the laws of one, and of every limit
abbrev pub NothingGluedGeneral : Type 0
NothingGluedGeneral = (F : Family) (limit : ℕ) → Lawful F → NothingGluedOver F limit

-- and so of source packets of up to 4,096 octets
abbrev pub NothingGlued : Type 0
NothingGlued = NothingGluedOver source most
