-- What a part of the steps did, put together: nothing, a walk and its settled end, a packet broken off, a disagreement.
-- Assumes nothing.
use mathlib.Core.Path.{◌≡◌, refl, sym}
use mathlib.Core.List.{List, []}
use Prim.Native.Nat.{ℕ, ◌-◌, ◌≤◌, ◌<◌}
use lib.ListN.{length, drop}
use Rattle.octets.specs.Laid.{laid}
use Rattle.octets.proofs.Runs.{laid_nil}
use Rattle.packet.specs.Family.{Family, Lawful}
use Rattle.packet.specs.declared.source.Size.TheVariants.{Foreign, Total}
use Rattle.channel.specs.declared.state.State.{State}
use Rattle.channel.specs.declared.state.State.TheVariants.{Hunting, Skipping}
use Rattle.walk.specs.declared.stepping.Course.{Course}
use Rattle.walk.specs.declared.walking.End.{End}
use Rattle.walk.specs.declared.walking.Ended.{Ended}
use Rattle.walk.specs.declared.walking.Tally.{Tally}
use Rattle.std.specs.Prelude.{Err}
use Rattle.walk.specs.Inside.{broken_course, course_by, disagreed_course, held_by}
use Rattle.walk.specs.Steps.{Did, broke, course_of, disagreed}
use Rattle.walk.specs.Walk.{cut_of, seen_of, walk_of, handed_all, no_tally, tallied_all, ended_with, Done, ended, ended_by}
use Rattle.walk.proofs.CutLaws.{held_in}
use Rattle.walk.proofs.WalkLaws.{walk_stop, sees_foreign, sees_oversize}

-- what was done, by another name
pub did_as : {F : Family} {d d' : Done} {course : Course} {part part' out out' : List ℕ} → d ≡ d' → Did F d' course part part' out out'
    → Did F d course part part' out out'
did_as e h = rw e h

-- no packet and no held octets: only the state and two counts
pub did_nothing : (F : Family) (s : State) (f o : ℕ) (t : Tally) (course : Course) (part out : List ℕ) → t ≡ no_tally
    → course ≡ record { tally = t; state = s; broken = 0; disagreement = 0; foreign = f; oversize = o }
    → Did F (record { state = s; held = []; whole = []; broken = 0; disagreement = 0; foreign = f; oversize = o }) course part part out out
unfolding course_of tallied_all handed_all
did_nothing F s f o t course part out z e =
    record { reports = rw z at e; holds = sym (laid_nil part 0); hands = sym (laid_nil out 0) }

-- a walk that stops at once
module _ (F : Family) (laws : Lawful F) (limit : ℕ) (d : List ℕ) where
  ended_stop : (e : End) → Err e ≡ seen_of F limit d → ended (walk_of F limit d) ≡ ended_by e [] (cut_of e d)
  ended_stop e s = rw (walk_stop F laws limit d e (sym s))

  pub ended_foreign : F.size d ≡ Foreign
      → ended (walk_of F limit d)
      ≡ record { state = Hunting; held = []; whole = []; broken = 0; disagreement = 0; foreign = 1; oversize = 0 }
  unfolding ended_by
  ended_foreign e = ended_stop End.Foreign (sees_foreign F limit d e)

  pub ended_oversize : (n there : ℕ) → F.size d ≡ Total n → limit < n → length d ≡ there
      → ended (walk_of F limit d)
      ≡ record { state = Skipping (n - there); held = []; whole = []; broken = 0; disagreement = 0; foreign = 0; oversize = 1 }
  unfolding ended_by
  ended_oversize n there e h l = rw (← l) (ended_stop (End.Oversize (n - length d)) (sees_oversize F limit d n e h))

  -- all of it is held
  pub did_hold : (course : Course) (part part' out : List ℕ) (there : ℕ) → Err (End.Cut (length d)) ≡ seen_of F limit d → length d ≡ there
      → course ≡ course_by no_tally (End.Cut there) → part' ≡ laid part 0 d → Did F (ended (walk_of F limit d)) course part part' out out
  unfolding ended_by cut_of course_by course_of tallied_all handed_all
  did_hold course part part' out there s l reports holds =
      did_as (ended_stop (End.Cut (length d)) s)
      (record { reports = rw l reports; holds = holds; hands = sym (laid_nil out 0) })

-- with the packet under way broken, and with a disagreement besides
module _ {F : Family} (s : State) {d : Done} {course c : Course} {part part' out out' : List ℕ} (h : Did F d course part part' out out') where
  pub did_broke : c ≡ broken_course s course → Did F (broke s d) c part part' out out'
  unfolding course_of
  did_broke e = record { reports = rw h.reports at e; holds = h.holds; hands = h.hands }

  pub did_disagreed : c ≡ disagreed_course s course → Did F (disagreed s d) c part part' out out'
  unfolding course_of
  did_disagreed e = record { reports = rw h.reports at e; holds = h.holds; hands = h.hands }

-- what the code reports of an end, and the whole packets
course_by_lem : (F : Family) (e : End) (ws : List (List ℕ)) (rest : List ℕ) → course_by (tallied_all F no_tally ws) e ≡ course_of F (ended_by e ws rest)
unfolding course_by course_of ended_by
course_by_lem F End.Foreign ws rest = refl
course_by_lem F End.Exact ws rest = refl
course_by_lem F (End.Cut k) ws rest = refl
course_by_lem F (End.Oversize r) ws rest = refl

pub whole_by : (e : End) (ws : List (List ℕ)) (rest : List ℕ) → (ended_by e ws rest).whole ≡ ws
unfolding ended_by
whole_by End.Foreign ws rest = refl
whole_by End.Exact ws rest = refl
whole_by (End.Cut k) ws rest = refl
whole_by (End.Oversize r) ws rest = refl

-- a run d whose walk ends as the one over the field from a place on, and what was settled at its end
module _ (F : Family) (laws : Lawful F) (limit : ℕ) (field : List ℕ) (from : ℕ) (inside : from ≤ length field) (course : Course) (part part' out out' : List ℕ) (e : Ended) where
  pub did_walk : (d : List ℕ) → (walk_of F limit d).end ≡ (walk_of F limit (drop from field)).end
      → (walk_of F limit d).rest ≡ (walk_of F limit (drop from field)).rest → (t : Tally) → t ≡ no_tally → e ≡ ended_with F t (walk_of F limit d)
      → out' ≡ laid out t.filled (handed_all F (walk_of F limit d).whole)
      → course ≡ course_by e.tally e.end → part' ≡ laid part 0 (held_by e.end field)
      → Did F (ended (walk_of F limit d)) course part part' out out'
  unfolding ended_with
  did_walk d ends rests t z f hands reports holds =
      let w = walk_of F limit d in
      let v = walk_of F limit (drop from field) in
      record {
        reports = rw (reports, f, z) (course_by_lem F w.end w.whole w.rest);
        holds = rw (holds, f, rests, ends, held_in F laws limit field from inside v.end refl w.whole);
        hands = rw (whole_by w.end w.whole w.rest) (rw z at hands);
      }
