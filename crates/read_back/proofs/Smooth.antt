-- Where every frame of the sender arrives, no call tells of a gap or of a broken packet.
-- Assumes nothing.
use mathlib.Core.Path.{◌≡◌, refl, ◌∙◌, sym, ap, subst}
use mathlib.Core.Bool.{Bool, true, false}
use mathlib.Core.List.{List, [], ◌∷◌, ◌++◌}
use Prim.Native.Nat.{ℕ, ◌+◌, ◌-◌, ◌≤◌, ◌<◌}
use native.Mathlib.Omega.{arith}
use lib.Dec.{eqb, leb}
use lib.ListN.{length, get_or, take, drop, replicate}
use Rattle.std.specs.Prelude.{Ok}
use Rattle.octets.specs.Pick.{pick}
use Rattle.packet.specs.Family.{Family, AllWhole}
use Rattle.packet.specs.declared.source.Size.{Size}
use Rattle.walk.specs.Theorems.{Roomy}
use Rattle.frame.specs.Opening.{none_starts}
use Rattle.frame.specs.SetUp.{most_length}
use Rattle.frame.specs.declared.header.Header.{Header}
use Rattle.frame.specs.declared.opening.Frame.{Frame}
use Rattle.frame.specs.declared.set_up.SetUp.{SetUp}
use Rattle.frame.proofs.Laws.{opened_sound}
use Rattle.channel.specs.Busy.{busy_state}
use Rattle.channel.specs.Rules.{channel_follows}
use Rattle.channel.specs.State.{fresh_channel}
use Rattle.channel.specs.Store.{part_of}
use Rattle.channel.specs.declared.state.Channel.{Channel}
use Rattle.channel.specs.declared.state.Record.{Record}
use Rattle.channel.specs.declared.state.State.{State}
use Rattle.channel.specs.declared.state.State.TheVariants.{Hunting, Gathering, Skipping}
use Rattle.channel.proofs.Laws.{each_follows}
use Rattle.reading.specs.Reading.{answer_over, record_over, store_over, field_of, channel_of, done_by, report_of}
use Rattle.walk.specs.Steps.{hunted, broken_by, called_at, agrees, gathered, skipped, disagreed, resumed, gap_for}
use Rattle.walk.specs.Walk.{Done, only, ended, ended_by, Walked, walk_of}
use Rattle.reading.specs.declared.Report.{Report}
use Rattle.walk.specs.declared.walking.End.{End}
use Rattle.read_back.specs.Demand2.{OutputsPass, Smooth}
use Rattle.demands.specs.History.{carried}
use Rattle.demands.specs.Sender.{Sent, marks_of_all}
use Rattle.demands.proofs.Calls.{count_lt, read}
use Rattle.demands.proofs.Frame.{Stand}
use Rattle.demands.proofs.Frame.Stand.{hunting, between, gathers, skips}
use Rattle.demands.proofs.Hears.{Reads, gap_unheard, gap_heard, unheard_hunts, not_idle, steps_idle, steps_on}
use Rattle.demands.proofs.Hears.Reads.{unheard, stale, live}
use Rattle.demands.proofs.History.{Kept, Upcoming, upcoming, points_are, arrival_calls, arrival_keeps}
use Rattle.demands.proofs.History.Upcoming.{with_packets, with_none}
use Rattle.demands.proofs.Moves.{nothing_to_come}

-- steps 3 to 5 break a packet only where the pointer disagrees
ended_whole : (e : End) (whole : List (List ℕ)) (rest : List ℕ) → (ended_by e whole rest).broken ≡ 0
unfolding ended_by
ended_whole End.Foreign whole rest = refl
ended_whole End.Exact whole rest = refl
ended_whole (End.Cut k) whole rest = refl
ended_whole (End.Oversize r) whole rest = refl

walked : (w : Walked) → (ended w).broken ≡ 0
walked w = ended_whole w.end w.whole w.rest

hunted_whole : (F : Family) (limit : ℕ) (field : List ℕ) (pointer : ℕ) → (hunted F limit field pointer).broken ≡ 0
unfolding hunted
hunted_whole F limit field pointer = go (eqb pointer none_starts)
  where
    go : (b : Bool) → (pick {A = Done} b (only Hunting) (ended (walk_of F limit (drop pointer field)))).broken ≡ 0
    go true = refl
    go false = walked (walk_of F limit (drop pointer field))

gathered_whole : (F : Family) (limit : ℕ) (part field : List ℕ) (pointer k : ℕ) (s : Size) → (gathered F limit part field pointer k s).disagreement ≡ 0
    → (gathered F limit part field pointer k s).broken ≡ 0
unfolding gathered
gathered_whole F limit part field pointer k s = go (agrees (length field) k s pointer)
  where
    go : (b : Bool)
        → (pick {A = Done} b (ended (walk_of F limit (take k part ++ field))) (disagreed (Gathering k) (hunted F limit field pointer))).disagreement ≡ 0
        → (pick {A = Done} b (ended (walk_of F limit (take k part ++ field))) (disagreed (Gathering k) (hunted F limit field pointer))).broken ≡ 0
    go true e = walked (walk_of F limit (take k part ++ field))
    go false e = absurd (omega arith)

skipped_whole : (F : Family) (limit : ℕ) (field : List ℕ) (pointer r : ℕ) → (skipped F limit field pointer r).disagreement ≡ 0
    → (skipped F limit field pointer r).broken ≡ 0
unfolding skipped
skipped_whole F limit field pointer r = go (eqb pointer (called_at (length field) r)) (leb r (length field))
  where
    on : Bool → Done
    on c = pick c (ended (walk_of F limit (drop r field))) (only (Skipping (r - length field)))

    go : (b c : Bool) → (pick {A = Done} b (on c) (disagreed (Skipping r) (hunted F limit field pointer))).disagreement ≡ 0
        → (pick {A = Done} b (on c) (disagreed (Skipping r) (hunted F limit field pointer))).broken ≡ 0
    go true true e = walked (walk_of F limit (drop r field))
    go true false e = refl
    go false c e = absurd (omega arith)

resumed_whole : (F : Family) (limit : ℕ) (part field : List ℕ) (pointer : ℕ) (s : State) → (resumed F limit part field pointer s).disagreement ≡ 0
    → (resumed F limit part field pointer s).broken ≡ 0
unfolding resumed
resumed_whole F limit part field pointer Hunting e = hunted_whole F limit field pointer
resumed_whole F limit part field pointer (Gathering k) e = gathered_whole F limit part field pointer k _ e
resumed_whole F limit part field pointer (Skipping r) e = skipped_whole F limit field pointer r e

module _ {F : Family} {limit : ℕ} {c : Channel} {part tail : List ℕ} {ps : List (List ℕ)} {came : List Bool} {q : List ℕ} {behind : List (List ℕ)} {heard : Bool}
    {count : ℕ} (reads : Reads F limit c part tail ps came q behind heard 0 count) where
  no_gap : (h : Header) → h.count.0 < 256 → h.count.0 ≡ count → gap_for c h ≡ 0
  no_gap h l e = go reads
    where
      go : Reads F limit c part tail ps came q behind heard 0 count → gap_for c h ≡ 0
      go (unheard a b n) = gap_unheard c h a
      go (stale a b i g o n) = absurd (omega arith)
      go (live a b i g o s) = gap_heard c h 0 a i l (omega arith) (g ∙ sym e)

  -- between packets none is under way
  none_busy : channel_follows F limit part c ≡ true → q ≡ [] → broken_by c.state ≡ 0
  unfolding busy_state
  none_busy f z = go reads
    where
      standing : Stand F limit c.state part tail ps came q behind → broken_by c.state ≡ 0
      standing (hunting e l) = rw e
      standing (between e y s) = rw e
      standing (gathers begun e y o s) = absurd (omega (arith, s.more, ap length z))
      standing (skips begun b e o s) = absurd (omega (arith, s.more, ap length z))

      go : Reads F limit c part tail ps came q behind heard 0 count → broken_by c.state ≡ 0
      go (unheard a b n) = rw (unheard_hunts F limit part c f a)
      go (stale a b i g o n) = absurd (omega arith)
      go (live a b i g o s) = standing s

module _ {F : Family} {limit : ℕ} (G : Roomy F limit)
    {u : SetUp} {v : ℕ} {tail : List ℕ} {ps : List (List ℕ)} {rec : Record} {store : List ℕ} {heard : Bool} {came : List Bool}
    {f : List ℕ} {fs : List (List ℕ)} (w : AllWhole F ps) (k : Kept F limit u v tail ps rec store heard 0 came (f ∷ fs)) (out : List ℕ)
    (room : limit + most_length ≤ length out) (a : Report) (accepted : answer_over F limit u rec store out f ≡ Ok a) where
  about : (x : Frame) → Sent u v k.count f x → report_of F x (channel_of x rec) (done_by F limit x rec store f) ≡ a
  about x s = let r = (read G u rec store out f x k.fine room s.opens).answers in cc

  agreed : a.disagreement ≡ 0
  agreed =
      let c = arrival_calls G w k (λ z. omega arith) out room in
      let e : c.report ≡ a = cc c.accepted in
      rw e at c.none_disagrees

  reads_at : (x : Frame) → Sent u v k.count f x
      → Reads F limit (channel_of x rec) (part_of limit x.header.channel store) tail ps came k.to_come k.behind heard 0 k.count
  reads_at x s =
      let at : ℕ → Type 0 = λ n. Reads F limit (get_or rec.channels n fresh_channel) (part_of limit n store) tail ps came k.to_come k.behind heard 0 k.count in
      subst at (sym s.channel) k.reads

  gap_none : (x : Frame) (s : Sent u v k.count f x) → gap_for (channel_of x rec) x.header ≡ 0
  gap_none x s = no_gap (reads_at x s) x.header (count_lt u f x s.opens) s.counted

  smooth_call : (a.gap ≡ 0) × (a.broken ≡ 0)
  unfolding report_of
  smooth_call = go (upcoming k.sends)
    where
      go : Upcoming u v k.count k.rest f fs → (a.gap ≡ 0) × (a.broken ≡ 0)
      go (with_packets x s i b c d) =
          let o = opened_sound u f x s.opens in
          let e = about x s in
          let g = gap_none x s in
          let n = not_idle x.size (length k.to_come) x.header.pointer o.most (points_are G w k x i c) in
          let part = part_of limit x.header.channel store in
          let t = steps_on F limit part (field_of x f) x.header (channel_of x rec) s.not_private n g in
          let y : (done_by F limit x rec store f).disagreement ≡ 0 = ap (λ (z : Report). z.disagreement) e ∙ agreed in (
            sym (ap (λ (z : Report). z.gap) e) ∙ g,
            sym (ap (λ (z : Report). z.broken) e) ∙ ap (λ (z : Done). z.broken) t
                ∙ resumed_whole F limit part (field_of x f) x.header.pointer (channel_of x rec).state (sym (ap (λ (z : Done). z.disagreement) t) ∙ y),
          )
      go (with_none x s i b d) =
          let o = opened_sound u f x s.opens in
          let e = about x s in
          let part = part_of limit x.header.channel store in
          let there : x.header.channel < length rec.channels = omega (arith, o.channel, k.fine.eight) in
          let t = steps_idle F limit part (field_of x f) x.header (channel_of x rec) s.not_private i in (
            sym (ap (λ (z : Report). z.gap) e) ∙ gap_none x s,
            sym (ap (λ (z : Report). z.broken) e) ∙ ap (λ (z : Done). z.broken) t
                ∙ none_busy (reads_at x s) ((each_follows F limit store rec).0 k.fine.follows x.header.channel there)
                (nothing_to_come k.to_come (marks_of_all k.behind) (rw k.rest_is at b)),
          )

pub smooth : {F : Family} {limit : ℕ} (G : Roomy F limit) {u : SetUp} {v : ℕ} {tail : List ℕ} {ps : List (List ℕ)} → AllWhole F ps
    → (fs outs : List (List ℕ)) (rec : Record) (store : List ℕ)
    (heard : Bool) (came : List Bool) → Kept F limit u v tail ps rec store heard 0 came fs → OutputsPass limit outs → Smooth F limit u rec store fs outs
smooth G w [] outs rec store heard came k r = tt
smooth G w (f ∷ fs) [] rec store heard came k r = tt
smooth {F} {limit} G {u} w (f ∷ fs) (o ∷ os) rec store heard came k r = (
  smooth_call G w k o r.0,
  smooth G w fs os (record_over F limit u rec store o f) (store_over F limit u rec store o f) true (came ++ replicate (carried u f) true)
      (arrival_keeps G w k (λ z. omega arith) o r.0) r.1,
)
