-- The walk from packet to packet (01, step 5), over a packet family and the limit of a delivered packet: the walk itself, what its end means
-- for the channel, and what is handed out and counted of its whole packets.
use Rattle.std.specs.Prelude.{List, [], ◌∷◌, ◌++◌, ℕ, zero, suc, ◌+◌, ◌-◌, eqb, ltb, leb, length, take, drop}
use Rattle.octets.specs.Pick.{pick}
use Rattle.packet.specs.Family.{Family}
use Rattle.packet.specs.declared.source.Size.{Size}
use Rattle.packet.specs.declared.source.Size.TheVariants.{Wait, Foreign, Total}
use Rattle.channel.specs.declared.state.State.{State}
use Rattle.channel.specs.declared.state.State.TheVariants.{Hunting, Gathering, Skipping}
use Rattle.walk.specs.declared.walking.End.{End}
use Rattle.std.specs.Prelude.{Result, Err, Ok}
use Rattle.walk.specs.declared.walking.Tally.{Tally}
use Rattle.walk.specs.declared.walking.Ended.{Ended}

-- what stands at the front of d: "a version other than 000 gives foreign 1"; "A total above 4,096 gives oversize 1 [..]; then skip";
-- "A packet cut by the field's end is held. An exact end is gathering 0."
unfoldable pub front : ℕ → Size → ℕ → Result ℕ End
front limit Wait n = Err (pick (eqb n 0) End.Exact (End.Cut n))
front limit Foreign n = Err End.Foreign
front limit (Total t) n =
    pick (ltb limit t) (Err (End.Oversize (t - n)))
    (pick (leb t n) (Ok t) (Err (End.Cut n)))

unfoldable pub seen_of : Family → ℕ → List ℕ → Result ℕ End
seen_of F limit d = front limit (F.size d) (length d)

-- what a run of octets holds: its whole packets in order, why the walk ended, and the octets of a packet that was cut
pub record Walked : Type 0 where
  pub whole : List (List ℕ)
  pub end : End
  pub rest : List ℕ

-- the octets of a cut packet, and none for another end
unfoldable pub cut_of : End → List ℕ → List ℕ
cut_of End.Foreign d = []
cut_of End.Exact d = []
cut_of (End.Cut k) d = d
cut_of (End.Oversize r) d = []

-- one turn of the walk: it ends here, or a whole packet stands here and the walk goes on behind it
unfoldable pub turn : Result ℕ End → List ℕ → (List ℕ → Walked) → Walked
turn (Err e) d on = record { whole = []; end = e; rest = cut_of e d }
turn (Ok n) d on =
    let w : Walked = on (drop n d) in
    record { whole = take n d ∷ w.whole; end = w.end; rest = w.rest }

-- at most so many turns; no packet is shorter than an octet, so that as many turns as octets, and one, are enough: `WalkTurn` in
-- specs/Theorems says the walk without a number of turns
unfoldable pub turns : Family → ℕ → ℕ → List ℕ → Walked
turns F limit zero d = record { whole = []; end = End.Exact; rest = [] }
turns F limit (suc f) d = turn (seen_of F limit d) d (turns F limit f)

unfoldable pub walk_of : Family → ℕ → List ℕ → Walked
walk_of F limit d = turns F limit (suc (length d)) d

-- what a frame did to its channel: the new state, the held octets, the whole packets in order, and the counts
pub record Done : Type 0 where
  pub state : State
  pub held : List ℕ
  pub whole : List (List ℕ)
  pub broken : ℕ
  pub disagreement : ℕ
  pub foreign : ℕ
  pub oversize : ℕ

-- nothing came out, and the channel is in this state
abbrev pub only : State → Done
only s = record { state = s; held = []; whole = []; broken = 0; disagreement = 0; foreign = 0; oversize = 0 }

-- step 5, by why the walk ended: "foreign 1, the rest of the frame is dropped, and the channel hunts"; "oversize 1 [..]; then skip";
-- "A packet cut by the field's end is held. An exact end is gathering 0."
unfoldable pub ended_by : End → List (List ℕ) → List ℕ → Done
ended_by End.Foreign whole rest =
    record { state = Hunting; held = []; whole = whole; broken = 0; disagreement = 0; foreign = 1; oversize = 0 }
ended_by End.Exact whole rest =
    record { state = Gathering 0; held = []; whole = whole; broken = 0; disagreement = 0; foreign = 0; oversize = 0 }
ended_by (End.Cut k) whole rest =
    record { state = Gathering k; held = rest; whole = whole; broken = 0; disagreement = 0; foreign = 0; oversize = 0 }
ended_by (End.Oversize r) whole rest =
    record { state = Skipping r; held = []; whole = whole; broken = 0; disagreement = 0; foreign = 0; oversize = 1 }

abbrev pub ended : Walked → Done
ended w = ended_by w.end w.whole w.rest

-- "A finished packet is delivered, or counted if idle": the octets that it gives to the output
unfoldable pub handed : Family → List ℕ → List ℕ
handed F p = pick (F.idle p) [] p

-- "Delivered packets stand end to end"
unfoldable pub handed_all : Family → List (List ℕ) → List ℕ
handed_all F [] = []
handed_all F (p ∷ ps) = handed F p ++ handed_all F ps

-- no packet yet
abbrev pub no_tally : Tally
no_tally = record { delivered = 0; idle = 0; filled = 0 }

-- the counts after one more idle packet, and after a delivered one of n octets
abbrev pub one_idle : Tally → Tally
one_idle t = record { delivered = t.delivered; idle = t.idle + 1; filled = t.filled }

abbrev pub one_delivered : Tally → ℕ → Tally
one_delivered t n = record { delivered = t.delivered + 1; idle = t.idle; filled = t.filled + n }

-- the counts after one more whole packet, and after all of them
unfoldable pub tallied : Family → Tally → List ℕ → Tally
tallied F t p = pick (F.idle p) (one_idle t) (one_delivered t (length p))

unfoldable pub tallied_all : Family → Tally → List (List ℕ) → Tally
tallied_all F t [] = t
tallied_all F t (p ∷ ps) = tallied_all F (tallied F t p) ps

-- what a walk that starts with counts t comes to
unfoldable pub ended_with : Family → Tally → Walked → Ended
ended_with F t w = record { tally = tallied_all F t w.whole; end = w.end }
