-- What an accepted frame does (01, steps 1 to 5), over a packet family and the limit of a delivered packet. D is the length of the data field.
-- Step 5, the walk, is specs/Walk; the steps once more, sentence by sentence, are `StepsInWordsLaw` in specs/Theorems.
use Rattle.std.specs.Prelude.{Bool, true, not, ◌||◌, List, ◌++◌, ◌≡◌, ℕ, ◌-◌, eqb, ltb, leb, length, take, drop}
use Rattle.octets.specs.Laid.{laid}
use Rattle.octets.specs.Pick.{pick}
use Rattle.packet.specs.Family.{Family}
use Rattle.packet.specs.declared.source.Size.{Size}
use Rattle.packet.specs.declared.source.Size.TheVariants.{Wait, Foreign, Total}
use Rattle.frame.specs.Counts.{gap_of}
use Rattle.frame.specs.Opening.{idle_data, none_starts}
use Rattle.frame.specs.declared.header.Header.{Header}
use Rattle.channel.specs.Busy.{busy_state}
use Rattle.channel.specs.declared.state.Channel.{Channel}
use Rattle.channel.specs.declared.state.State.{State}
use Rattle.channel.specs.declared.state.State.TheVariants.{Hunting, Gathering, Skipping}
use Rattle.walk.specs.declared.stepping.Course.{Course}
use Rattle.walk.specs.Walk.{Done, ended, handed_all, no_tally, only, tallied_all, walk_of}

-- step 1: "Gap: 0 if unheard, else (count - last - 1) modulo 256." That heard and last count are set is reader's `record_after`, `HeardInWordsLaw`.
unfoldable pub gap_for : Channel → Header → ℕ
gap_for c h = pick c.heard (gap_of h.count.0 c.last.0) 0

-- step 2: "the frame is idle, or its synchronisation flag is 1 (private; HOUSE: no packets)"
unfoldable pub carries_none : Header → Bool
carries_none h = h.synchronisation || eqb h.pointer idle_data

-- step 2: "a packet under way (k at least 1, or skipping) counts as broken 1"
abbrev pub broken_by : State → ℕ
broken_by s = pick (busy_state s) 1 0

-- what was done, with the packet under way broken besides
abbrev pub broke : State → Done → Done
broke s d =
    record {
      state = d.state;
      held = d.held;
      whole = d.whole;
      broken = broken_by s;
      disagreement = d.disagreement;
      foreign = d.foreign;
      oversize = d.oversize;
    }

-- step 3: "If it ends below D, the pointer must be that place; if it ends at D, goes on beyond [..] the pointer must be 2047"
unfoldable pub called_at : ℕ → ℕ → ℕ
called_at D end = pick (ltb end D) end none_starts

-- step 3, of a packet of which at least one octet is held: "or its length is still unknown, the pointer must be 2047"; a header that turns out
-- foreign is told by the walk, before the pointer is looked at
unfoldable pub agrees_by : ℕ → ℕ → Size → ℕ → Bool
agrees_by D k Wait pointer = eqb pointer none_starts
agrees_by D k Foreign pointer = true
agrees_by D k (Total n) pointer = eqb pointer (called_at D (n - k))

-- step 3: "work out where the packet under way ends; with k = 0 that is place 0"
unfoldable pub agrees : ℕ → ℕ → Size → ℕ → Bool
agrees D k s pointer = pick (eqb k 0) (eqb pointer (called_at D 0)) (agrees_by D k s pointer)

-- step 3: "Otherwise disagreement 1, broken 1 if one was under way (which then counts nowhere else, oversize included)"
abbrev pub disagreed : State → Done → Done
disagreed s d =
    record {
      state = d.state;
      held = d.held;
      whole = d.whole;
      broken = broken_by s;
      disagreement = 1;
      foreign = d.foreign;
      oversize = d.oversize;
    }

-- step 4: "Hunting: pointer 2047 ends the call; otherwise start at the pointer."
unfoldable pub hunted : Family → ℕ → List ℕ → ℕ → Done
hunted F limit field pointer = pick (eqb pointer none_starts) (only Hunting) (ended (walk_of F limit (drop pointer field)))

-- step 5, gathering k octets of a packet whose held octets and the field tell s: the walk goes on through them and the field; or, by step 3,
-- "the channel hunts"
unfoldable pub gathered : Family → ℕ → List ℕ → List ℕ → ℕ → ℕ → Size → Done
gathered F limit part field pointer k s =
    pick (agrees (length field) k s pointer)
    (ended (walk_of F limit (take k part ++ field)))
    (disagreed (Gathering k) (hunted F limit field pointer))

-- step 5, skipping r octets: the walk goes on behind them, where "the end of a skip counts nothing", or the skip goes on; or, by step 3,
-- "the channel hunts"
unfoldable pub skipped : Family → ℕ → List ℕ → ℕ → ℕ → Done
skipped F limit field pointer r =
    pick (eqb pointer (called_at (length field) r))
    (pick (leb r (length field)) (ended (walk_of F limit (drop r field))) (only (Skipping (r - length field))))
    (disagreed (Skipping r) (hunted F limit field pointer))

-- steps 3 to 5, by the channel's state
unfoldable pub resumed : Family → ℕ → List ℕ → List ℕ → ℕ → State → Done
resumed F limit part field pointer Hunting = hunted F limit field pointer
resumed F limit part field pointer (Gathering k) = gathered F limit part field pointer k (F.size (take k part ++ field))
resumed F limit part field pointer (Skipping r) = skipped F limit field pointer r

-- the whole, from step 2 on: "If the gap is not 0, or the frame is idle, or [..] private [..], the channel hunts; a packet under way [..] counts
-- as broken 1. Idle and private frames end here, hunting."
unfoldable pub steps_of : Family → ℕ → List ℕ → List ℕ → Header → Channel → Done
steps_of F limit part field h c =
    pick (carries_none h) (broke c.state (only Hunting))
    (pick (not (eqb (gap_for c h) 0)) (broke c.state (hunted F limit field h.pointer))
    (resumed F limit part field h.pointer c.state))

-- what the code reports of this: the counts of packets and the rest
unfoldable pub course_of : Family → Done → Course
course_of F d =
    record {
      tally = tallied_all F no_tally d.whole;
      state = d.state;
      broken = d.broken;
      disagreement = d.disagreement;
      foreign = d.foreign;
      oversize = d.oversize;
    }

-- what the code promises: what a part of the steps must report, and leave in the channel's part of the store and in the output
pub record Did (F : Family) (d : Done) (course : Course) (part part' out out' : List ℕ) : Type 0 where
  pub reports : course ≡ course_of F d
  pub holds : part' ≡ laid part 0 d.held
  pub hands : out' ≡ laid out 0 (handed_all F d.whole)
