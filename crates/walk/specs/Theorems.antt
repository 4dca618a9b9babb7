-- What is proved of the walk and the steps besides the functions' contracts. The proofs are in proofs/, under these names in lower case.
use Rattle.std.specs.Prelude.{Bool, true, false, ◌&&◌, List, [], ◌∷◌, ◌++◌, ◌↔◌, ◌≡◌, ℕ, ◌+◌, ◌-◌, ◌*◌, ◌%◌, ◌≤◌, ◌<◌, eqb, leb, length, take, drop}
use Rattle.packet.specs.Family.{Family, Lawful}
use Rattle.packet.specs.Size.{source, total_of, version_of}
use Rattle.packet.specs.declared.source.Size.TheVariants.{Wait, Total}
use Rattle.frame.specs.SetUp.{most_field}
use Rattle.frame.specs.declared.header.Header.{Header}
use Rattle.channel.specs.Rules.{channel_follows}
use Rattle.channel.specs.declared.state.Channel.{Channel}
use Rattle.channel.specs.declared.state.State.{State}
use Rattle.channel.specs.declared.state.State.TheVariants.{Hunting, Gathering, Skipping}
use Rattle.walk.specs.declared.walking.End.{End}
use Rattle.walk.specs.declared.walking.Tally.{Tally}
use Rattle.walk.specs.Steps.{called_at, course_of, gap_for, steps_of}
use Rattle.walk.specs.Walk.{Done, Walked, handed_all, seen_of, turn, walk_of}

-- what is asked of a packet family and a limit: the family's laws; and the limit is at least the beginning of a packet that tells nothing
-- yet, with a whole data field behind it
pub record Roomy (F : Family) (limit : ℕ) : Type 0 where
  pub laws : Lawful F
  pub wide : F.header + most_field ≤ limit

-- a skip ends in a field of D octets: the pointer agrees, and the r octets that were skipped lie within the field
unfoldable pub skips_out : State → ℕ → ℕ → Bool
skips_out Hunting pointer D = false
skips_out (Gathering k) pointer D = false
skips_out (Skipping r) pointer D = eqb pointer (called_at D r) && leb r D

-- "a packet under way (k at least 1, or skipping)"
abbrev pub UnderWay : State → Type 0
UnderWay Hunting = ⊥
UnderWay (Gathering k) = 1 ≤ k
UnderWay (Skipping r) = Unit {0}

-- the call ends with the channel in state s; nothing is held and no packet was finished, foreign or oversize
pub record EndsIn (s : State) (d : Done) : Type 0 where
  pub state : d.state ≡ s
  pub held : d.held ≡ []
  pub whole : d.whole ≡ []
  pub foreign : d.foreign ≡ 0
  pub oversize : d.oversize ≡ 0

-- step 3: the pointer that a packet calls for which ends at place `end` of a data field of D octets
pub record CallsFor (D end pointer : ℕ) : Type 0 where
  -- "If it ends below D, the pointer must be that place"
  pub below : end < D → pointer ≡ end
  -- "if it ends at D, goes on beyond [..] the pointer must be 2047"
  pub beyond : D ≤ end → pointer ≡ 2047

-- step 3: "work out where the packet under way ends", of a channel in state s, and the pointer is as it must be; D is the length of the field.
-- What the octets that are there tell is `size`: Wait while the length is unknown, then the total (`SizeInWords` of packet: with six octets). A
-- hunting channel asks nothing of the pointer, nor does a foreign header, which step 5 tells.
pub record Agrees (F : Family) (part field : List ℕ) (s : State) (pointer : ℕ) : Type 0 where
  -- "with k = 0 that is place 0"
  pub between : s ≡ Gathering 0 → CallsFor (length field) 0 pointer
  -- k of its n octets are held: it ends at place n - k
  pub known : (k n : ℕ) → s ≡ Gathering k → 1 ≤ k → F.size (take k part ++ field) ≡ Total n → CallsFor (length field) (n - k) pointer
  -- "or its length is still unknown, the pointer must be 2047"
  pub unknown : (k : ℕ) → s ≡ Gathering k → 1 ≤ k → F.size (take k part ++ field) ≡ Wait → pointer ≡ 2047
  -- r of its octets are still to be skipped: it ends at place r
  pub skipping : (r : ℕ) → s ≡ Skipping r → CallsFor (length field) r pointer

-- step 5, by why the walk over a run of octets ended; `WalkInWordsLaw` says what that walk is
pub record Walks (F : Family) (limit : ℕ) (run : List ℕ) (d : Done) : Type 0 where
  -- the finished packets, in order; what is delivered and counted of them is `HandedInWordsLaw`
  pub whole : d.whole ≡ (walk_of F limit run).whole
  -- "a version other than 000 gives foreign 1, the rest of the frame is dropped, and the channel hunts"
  pub foreign : (walk_of F limit run).end ≡ End.Foreign → (d.foreign ≡ 1) × (d.oversize ≡ 0) × (d.state ≡ Hunting) × (d.held ≡ [])
  -- "A total above 4,096 gives oversize 1 [..]; then skip": the r octets of it that are still to come
  pub oversize : (r : ℕ) → (walk_of F limit run).end ≡ End.Oversize r
      → (d.foreign ≡ 0) × (d.oversize ≡ 1) × (d.state ≡ Skipping r) × (d.held ≡ [])
  -- "A packet cut by the field's end is held": the k octets of it that are there
  pub cut : (k : ℕ) → (walk_of F limit run).end ≡ End.Cut k
      → (d.foreign ≡ 0) × (d.oversize ≡ 0) × (d.state ≡ Gathering k) × (d.held ≡ (walk_of F limit run).rest)
  -- "An exact end is gathering 0."
  pub exact : (walk_of F limit run).end ≡ End.Exact → (d.foreign ≡ 0) × (d.oversize ≡ 0) × (d.state ≡ Gathering 0) × (d.held ≡ [])

-- steps 1 to 5 in the paper's words, of a frame with header h and this data field on channel c, whose part of the store this is: gap is the gap,
-- and d what the frame did. ("Heard and last count are set" is `HeardInWordsLaw` of reader.)
pub record StepsInWords (F : Family) (limit : ℕ) (part field : List ℕ) (h : Header) (c : Channel) (gap : ℕ) (d : Done) : Type 0 where
  -- 1. "Gap: 0 if unheard, else (count - last - 1) modulo 256."; 256 is added, since no number here is below 0
  pub unheard : c.heard ≡ false → gap ≡ 0
  pub heard : c.heard ≡ true → gap ≡ (h.count.0 + 256 - c.last.0 - 1) % 256
  -- "A repeated count is thus a gap of 255."
  pub repeated : c.heard ≡ true → h.count.0 ≡ c.last.0 → gap ≡ 255
  -- the channel's state behind step 2, and behind step 3
  pub second : State
  pub third : State
  -- 2. "If the gap is not 0, or the frame is idle, or its synchronisation flag is 1 (private [..]), the channel hunts"; else it is as it was
  pub gap_hunts : (gap ≡ 0 → ⊥) → second ≡ Hunting
  pub idle_hunts : h.pointer ≡ 2046 → second ≡ Hunting
  pub private_hunts : h.synchronisation ≡ true → second ≡ Hunting
  pub goes_on : gap ≡ 0 → (h.pointer ≡ 2046 → ⊥) → h.synchronisation ≡ false → second ≡ c.state
  -- "a packet under way (k at least 1, or skipping) counts as broken 1"
  pub hunting_breaks : second ≡ Hunting → UnderWay c.state → d.broken ≡ 1
  -- "Idle and private frames end here, hunting."
  pub idle_ends : h.pointer ≡ 2046 → EndsIn Hunting d
  pub private_ends : h.synchronisation ≡ true → EndsIn Hunting d
  -- 3. "Not hunting: work out where the packet under way ends [..] the pointer must be [..]": `Agrees`
  pub agrees : Agrees F part field second h.pointer → (third ≡ second) × (d.disagreement ≡ 0)
  -- "Otherwise disagreement 1, [..] and the channel hunts"
  pub disagrees : (Agrees F part field second h.pointer → ⊥) → (third ≡ Hunting) × (d.disagreement ≡ 1)
  -- "broken 1 if one was under way"; that it "counts nowhere else" is seen in steps 4 and 5, where a hunting channel has nothing of it
  pub disagreement_breaks : (Agrees F part field second h.pointer → ⊥) → UnderWay c.state → d.broken ≡ 1
  -- and nothing else counts as broken
  pub none_to_break : (UnderWay c.state → ⊥) → d.broken ≡ 0
  pub unbroken : (second ≡ Hunting → ⊥) → Agrees F part field second h.pointer → d.broken ≡ 0
  -- 4. "Hunting: pointer 2047 ends the call; otherwise start at the pointer."
  pub none_begins : third ≡ Hunting → h.pointer ≡ 2047 → EndsIn Hunting d
  pub starts : h.synchronisation ≡ false → (h.pointer ≡ 2046 → ⊥) → third ≡ Hunting → (h.pointer ≡ 2047 → ⊥)
      → Walks F limit (drop h.pointer field) d
  -- 5. "Walk from packet to packet": with k octets held, through these and the field
  pub gathering : (k : ℕ) → third ≡ Gathering k → Walks F limit (take k part ++ field) d
  -- "the end of a skip counts nothing": the walk starts behind it; a skip that does not end here has D octets less to go
  pub skip_ends : (r : ℕ) → third ≡ Skipping r → r ≤ length field → Walks F limit (drop r field) d
  pub skip_goes_on : (r : ℕ) → third ≡ Skipping r → length field < r → EndsIn (Skipping (r - length field)) d

-- these sentences, and no more: they hold of the gap and of what `steps_of` says was done, and of nothing else, whatever the record, the store, the
-- header and the field
abbrev pub StepsInWordsLaw : Type 0
StepsInWordsLaw = (F : Family) (limit : ℕ) (part field : List ℕ) (h : Header) (c : Channel) (gap : ℕ) (d : Done)
    → ((gap ≡ gap_for c h) × (d ≡ steps_of F limit part field h c)) ↔ StepsInWords F limit part field h c gap d

-- the same but for broken and disagreement
pub record Alike (d e : Done) : Type 0 where
  pub state : d.state ≡ e.state
  pub held : d.held ≡ e.held
  pub whole : d.whole ≡ e.whole
  pub foreign : d.foreign ≡ e.foreign
  pub oversize : d.oversize ≡ e.oversize

-- "which then counts nowhere else, oversize included": where a packet is broken, all else is what the same channel comes to if it hunts, whatever its
-- part of the store holds
abbrev pub BrokenNowhereElse : Type 0
BrokenNowhereElse = (F : Family) (limit : ℕ) (part other field : List ℕ) (h : Header) (c : Channel) → (steps_of F limit part field h c).broken ≡ 1
    → Alike (steps_of F limit part field h c) (steps_of F limit other field h (record { heard = c.heard; last = c.last; state = Hunting }))

-- step 5 in the paper's words, of source packets: the walk over the octets d comes to w
pub record WalkInWords (limit : ℕ) (d : List ℕ) (w : Walked) : Type 0 where
  -- "Walk from packet to packet": a finished packet, and the walk over the octets behind it
  pub packet : 6 ≤ length d → version_of d ≡ 0 → total_of d ≤ limit → total_of d ≤ length d
      → w
      ≡ record {
        whole = take (total_of d) d ∷ (walk_of source limit (drop (total_of d) d)).whole;
        end = (walk_of source limit (drop (total_of d) d)).end;
        rest = (walk_of source limit (drop (total_of d) d)).rest;
      }
  -- "leave the walk at once on the first foreign header: a version other than 000"
  pub foreign : 1 ≤ length d → (version_of d ≡ 0 → ⊥) → w ≡ record { whole = []; end = End.Foreign; rest = [] }
  -- "A total above 4,096 gives oversize 1 [..]; then skip": the octets that are not there yet. The call is `OversizeAtSix`.
  pub oversize : 6 ≤ length d → version_of d ≡ 0 → limit < total_of d
      → w ≡ record { whole = []; end = End.Oversize (total_of d - length d); rest = [] }
  -- "A packet cut by the field's end is held", before its sixth octet or behind it
  pub cut_header : 1 ≤ length d → version_of d ≡ 0 → length d < 6 → w ≡ record { whole = []; end = End.Cut (length d); rest = d }
  pub cut : 6 ≤ length d → version_of d ≡ 0 → total_of d ≤ limit → length d < total_of d
      → w ≡ record { whole = []; end = End.Cut (length d); rest = d }
  -- "An exact end": no octet is left
  pub exact : length d ≡ 0 → w ≡ record { whole = []; end = End.Exact; rest = [] }

-- these sentences, and no more
abbrev pub WalkInWordsLaw : Type 0
WalkInWordsLaw = (limit : ℕ) (d : List ℕ) (w : Walked) → w ≡ walk_of source limit d ↔ WalkInWords limit d w

-- "oversize 1 in the call that brings its sixth octet": where a channel that keeps the rules gathers k octets, and the packet under way turns out
-- oversize, fewer than six octets were held, and with the field there are at least six
abbrev pub OversizeAtSix : Type 0
OversizeAtSix = (limit : ℕ) (part field : List ℕ) (c : Channel) (k r : ℕ) → channel_follows source limit part c ≡ true → c.state ≡ Gathering k
    → (walk_of source limit (take k part ++ field)).whole ≡ [] → (walk_of source limit (take k part ++ field)).end ≡ End.Oversize r
    → (k < 6) × (6 ≤ k + length field)

-- "A finished packet is delivered, or counted if idle": of any finished packets, by the first of them, what is counted, and the octets that stand in
-- the output
pub record HandedInWords (F : Family) (counts : List (List ℕ) → Tally) (output : List (List ℕ) → List ℕ) : Type 0 where
  pub none : (counts [] ≡ record { delivered = 0; idle = 0; filled = 0 }) × (output [] ≡ [])
  -- "or counted if idle": one more idle, and nothing else
  pub idle : (p : List ℕ) (ps : List (List ℕ)) → F.idle p ≡ true
      → (counts (p ∷ ps) ≡ record { delivered = (counts ps).delivered; idle = (counts ps).idle + 1; filled = (counts ps).filled })
      × (output (p ∷ ps) ≡ output ps)
  -- "delivered": one more delivered, its octets before those of the packets behind it: "Delivered packets stand end to end"
  pub delivered : (p : List ℕ) (ps : List (List ℕ)) → F.idle p ≡ false
      → (counts (p ∷ ps) ≡ record { delivered = (counts ps).delivered + 1; idle = (counts ps).idle; filled = length p + (counts ps).filled })
      × (output (p ∷ ps) ≡ p ++ output ps)

-- these sentences, and no more: they hold of what is reported and handed out of whatever a frame did, and of nothing else
abbrev pub HandedInWordsLaw : Type 0
HandedInWordsLaw = (F : Family) (counts : List (List ℕ) → Tally) (output : List (List ℕ) → List ℕ)
    → ((d : Done) → (counts d.whole ≡ (course_of F d).tally) × (output d.whole ≡ handed_all F d.whole)) ↔ HandedInWords F counts output

-- "Walk from packet to packet": a walk is one turn, and a whole packet in it is followed by the walk over the octets behind it
abbrev pub WalkTurn : Family → ℕ → Type 0
WalkTurn F limit = Lawful F → (d : List ℕ) → walk_of F limit d ≡ turn (seen_of F limit d) d (walk_of F limit)

-- whole packets take at least the octets of the least packet each; so source packets are at most one for each seven octets
abbrev pub WalkFew : Family → ℕ → Type 0
WalkFew F limit = Lawful F → (d : List ℕ) → F.least * length (walk_of F limit d).whole ≤ length d
