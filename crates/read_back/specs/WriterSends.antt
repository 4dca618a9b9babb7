-- The writer is a lawful sender: the frames that it writes, run after run on a channel, are frames of the sender of demand 3, so that
-- demand 3 speaks of our own frames too, all of them read back or with losses. The proofs are in proofs/WriterSends.antt.
use Rattle.std.specs.Prelude.{◌≡◌, true, false, List, [], ◌∷◌, ◌++◌, map, ℕ, ◌+◌, ◌-◌, ◌*◌, ◌≤◌, ◌<◌, length, drop}
use Rattle.octets.specs.Octets.{Octets}
use Rattle.packet.specs.Family.{AllWhole}
use Rattle.packet.specs.Size.{least, most, source}
use Rattle.packet.specs.Theorems.{end_to_end}
use Rattle.frame.specs.Header.{channels}
use Rattle.frame.specs.SetUp.{fits_of}
use Rattle.frame.specs.declared.set_up.SetUp.{SetUp}
use Rattle.channel.specs.State.{fresh_record}
use Rattle.walk.specs.Theorems.{Roomy}
use Rattle.writing.specs.Laying.{most_left, short_idle}
use Rattle.writing.specs.Writing.{most_run}
use Rattle.writing.specs.declared.Place.{Place}
use Rattle.read_back.specs.Demand2.{Writing, Fair, NoneRefused, OutputsPass, Smooth, fillers, fitting, frames, place_after}
use Rattle.demands.specs.History.{Event, arrives, Allowed, Delivers, arrived_whole, came_after, handed_out, wanted}
use Rattle.demands.specs.Sender.{Sends, stream_of}

-- a run: its packets, and the calls that are made with it; calls after its end are among them
pub record Run : Type 0 where
  pub packets : List (List ℕ)
  pub calls : List Writing

-- its octets, as the calls are given them
abbrev pub run_of : Run → List ℕ
run_of r = end_to_end r.packets

-- where the last call of a run leaves the writing, and where the next run begins: as B1 to B3 do, at offset 0 with the left-over and the counts
-- that the last call returned
abbrev pub end_of : SetUp → ℕ → Place → Run → Place
end_of u v p r = place_after u v (run_of r) p r.calls

abbrev pub next_run : SetUp → ℕ → Place → Run → Place
next_run u v p r =
    let q : Place = end_of u v p r in
    record { offset = 0; left_over = q.left_over; master = q.master; count = q.count }

-- the frames of all runs, one run after another
unfoldable pub frames_of : SetUp → ℕ → Place → List Run → List (List ℕ)
frames_of u v p [] = []
frames_of u v p (r ∷ rs) = frames u v (run_of r) p r.calls ++ frames_of u v (next_run u v p r) rs

-- the packets of all runs; and with the fillers that the calls of each run begin behind it
unfoldable pub packets_of : List Run → List (List ℕ)
packets_of [] = []
packets_of (r ∷ rs) = r.packets ++ packets_of rs

unfoldable pub with_fillers : SetUp → ℕ → Place → List Run → List (List ℕ)
with_fillers u v p [] = []
with_fillers u v p (r ∷ rs) = r.packets ++ (fillers u v (run_of r) p r.calls ++ with_fillers u v (next_run u v p r) rs)

-- the tail that the writing begins with: the left-over octets of an earlier idle packet
abbrev pub tail_of : Place → List ℕ
tail_of p = drop (least - p.left_over) short_idle

-- a run is written to its end when the offset has come to its length: all runs, and all runs but the last
abbrev pub ToItsEnd : SetUp → ℕ → Place → Run → Type 0
ToItsEnd u v p r = (end_of u v p r).offset ≡ length (run_of r)

abbrev pub AllToTheEnd : SetUp → ℕ → Place → List Run → Type 0
AllToTheEnd u v p [] = Unit {0}
AllToTheEnd u v p (r ∷ rs) = ToItsEnd u v p r × AllToTheEnd u v (next_run u v p r) rs

abbrev pub AllButLastToTheEnd : SetUp → ℕ → Place → List Run → Type 0
AllButLastToTheEnd u v p [] = Unit {0}
AllButLastToTheEnd u v p (r ∷ []) = Unit {0}
AllButLastToTheEnd u v p (r ∷ s ∷ rs) = ToItsEnd u v p r × AllButLastToTheEnd u v (next_run u v p r) (s ∷ rs)

-- a run of whole source packets within the writer's limit, and calls that lend outputs of N octets
pub record Good (u : SetUp) (r : Run) : Type 0 where
  pub whole : AllWhole source r.packets
  pub real : Octets (run_of r)
  pub short : length (run_of r) ≤ most_run
  pub fair : Fair u r.calls

abbrev pub AllGood : SetUp → List Run → Type 0
AllGood u [] = Unit {0}
AllGood u (r ∷ rs) = Good u r × AllGood u rs

-- what is asked of the writing: of the set-up, the channel, the place that the first run begins at, and the runs
pub record Writable (u : SetUp) (v : ℕ) (p : Place) (rs : List Run) : Type 0 where
  pub fits : fits_of u ≡ true
  pub channel : v < channels
  pub start : p.offset ≡ 0
  pub left : p.left_over ≤ most_left
  pub master : p.master.0 < 256
  pub count : p.count.0 < 256
  pub good : AllGood u rs

-- so many calls for each run as its octets and the most left-over bring every run to its end
abbrev pub EnoughCalls : List Run → Type 0
EnoughCalls [] = Unit {0}
EnoughCalls (r ∷ rs) = (most_left + length (run_of r) ≤ length r.calls) × EnoughCalls rs

abbrev pub RunsGetThere : Type 0
RunsGetThere = (u : SetUp) (v : ℕ) (p : Place) (rs : List Run) → Writable u v p rs → EnoughCalls rs
    → AllButLastToTheEnd u v p rs × AllToTheEnd u v p rs

-- no call of any run is refused
abbrev pub NoRunRefused : SetUp → ℕ → Place → List Run → Type 0
NoRunRefused u v p [] = Unit {0}
NoRunRefused u v p (r ∷ rs) = NoneRefused u v (run_of r) p r.calls × NoRunRefused u v (next_run u v p r) rs

-- the writer is a lawful sender of the left-over, the packets of the runs and the fillers
pub record LawfulSender (u : SetUp) (v : ℕ) (p : Place) (rs : List Run) : Type 0 where
  pub written : NoRunRefused u v p rs
  pub sent : Sends u v p.count.0 (stream_of (tail_of p) (with_fillers u v p rs)) (frames_of u v p rs)
  -- what it sends is whole packets, and those that are not idle are those of the runs, in order
  pub whole : AllWhole source (with_fillers u v p rs)
  pub ours : wanted source (with_fillers u v p rs) ≡ wanted source (packets_of rs)

abbrev pub RunsSend : Type 0
RunsSend = (u : SetUp) (v : ℕ) (p : Place) (rs : List Run) → Writable u v p rs → AllButLastToTheEnd u v p rs → LawfulSender u v p rs

-- the case of one run, in the words of demand 2
abbrev pub WriterSends : Type 0
WriterSends = (u : SetUp) (v : ℕ) (ps : List (List ℕ)) (p : Place) (cs : List Writing)
    → fits_of u ≡ true → v < channels → AllWhole source ps → Octets (end_to_end ps) → length (end_to_end ps) ≤ most_run
    → p.offset ≡ 0 → p.left_over ≤ most_left → p.master.0 < 256 → p.count.0 < 256 → Fair u cs
    → NoneRefused u v (end_to_end ps) p cs
    × AllWhole source (ps ++ fillers u v (end_to_end ps) p cs)
    × Sends u v p.count.0 (stream_of (tail_of p) (ps ++ fillers u v (end_to_end ps) p cs)) (frames u v (end_to_end ps) p cs)

-- all frames of all runs, read in order from a fresh record
pub record Back (limit : ℕ) (u : SetUp) (v : ℕ) (p : Place) (rs : List Run) (store : List ℕ) (outs : List (List ℕ)) : Type 0 where
  pub read_back : Delivers source limit u (tail_of p) (with_fillers u v p rs) fresh_record store [] (frames_of u v p rs) (map arrives outs)
  pub smooth : Smooth source limit u fresh_record store (frames_of u v p rs) outs
  -- where the last run too is written to its end: exactly all packets of the runs that are not idle and have at most `limit` octets, in order
  pub all_out : AllToTheEnd u v p rs
      → handed_out source limit u fresh_record store (frames_of u v p rs) (map arrives outs) ≡ wanted source (fitting limit (packets_of rs))

abbrev pub RunsReadBackOver : ℕ → Type 0
RunsReadBackOver limit = (u : SetUp) (v : ℕ) (p : Place) (rs : List Run) (store : List ℕ) (outs : List (List ℕ))
    → Writable u v p rs → AllButLastToTheEnd u v p rs
    → length store ≡ limit * channels → Octets store → length outs ≡ length (frames_of u v p rs) → OutputsPass limit outs
    → Back limit u v p rs store outs

-- it holds for every limit that is wide enough, and so for packets of up to 4,096 octets
abbrev pub RunsReadBackGeneral : Type 0
RunsReadBackGeneral = (limit : ℕ) → Roomy source limit → RunsReadBackOver limit

abbrev pub RunsReadBack : Type 0
RunsReadBack = RunsReadBackOver most

-- our own frames with losses, and other calls in between: call by call, and over the whole history
abbrev pub RunsWithLossesOver : ℕ → Type 0
RunsWithLossesOver limit = (u : SetUp) (v : ℕ) (p : Place) (rs : List Run) (store : List ℕ) (es : List Event)
    → Writable u v p rs → AllButLastToTheEnd u v p rs
    → length store ≡ limit * channels → Octets store → Allowed source limit u v fresh_record store false 0 (frames_of u v p rs) es
    → Delivers source limit u (tail_of p) (with_fillers u v p rs) fresh_record store [] (frames_of u v p rs) es
    × (handed_out source limit u fresh_record store (frames_of u v p rs) es
    ≡ wanted source (arrived_whole limit (came_after u [] (frames_of u v p rs) es) (length (tail_of p)) (with_fillers u v p rs)))

abbrev pub RunsWithLossesGeneral : Type 0
RunsWithLossesGeneral = (limit : ℕ) → Roomy source limit → RunsWithLossesOver limit

abbrev pub RunsWithLosses : Type 0
RunsWithLosses = RunsWithLossesOver most
