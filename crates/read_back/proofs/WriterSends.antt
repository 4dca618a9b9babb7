-- The writer is a lawful sender, run after run: so its frames read back, in order and from a fresh record, to exactly the packets of the runs
-- that are not idle and fit, and demand 3 holds of them where some are lost.
-- Assumes nothing.
use mathlib.Core.Path.{◌≡◌, refl, ◌∙◌, sym, ap, ap₂, subst}
use mathlib.Core.Bool.{Bool, true, false}
use mathlib.Core.List.{List, [], ◌∷◌, ◌++◌, append_assoc, append-nil, map}
use mathlib.Core.Logic.{◌⊎◌, inl, inr}
use Prim.Native.Nat.{ℕ, ◌+◌, ◌≤◌, ◌<◌}
use native.Mathlib.Nat.{zero-add}
use native.Mathlib.Omega.{arith}
use lib.ListN.{length, replicate}
use Rattle.octets.specs.Octets.{Octets}
use Rattle.packet.specs.Family.{AllWhole}
use Rattle.packet.specs.Size.{most, source}
use Rattle.packet.specs.Theorems.{end_to_end}
use Rattle.packet.proofs.ChainLaws.{chain_exactly}
use Rattle.packet.proofs.Laws.{source_lawful}
use Rattle.frame.specs.SetUp.{fits_of}
use Rattle.frame.specs.declared.set_up.SetUp.{SetUp}
use Rattle.channel.specs.State.{fresh_record}
use Rattle.channel.specs.declared.state.Record.{Record}
use Rattle.channel.proofs.Laws.{fresh_follows}
use Rattle.reading.specs.Reading.{record_over, store_over}
use Rattle.walk.proofs.SourceLaws.{source_roomy}
use Rattle.writing.specs.declared.Place.{Place}
use Rattle.writing.proofs.WritingSteps.{border_passes}
use Rattle.read_back.specs.Demand2.{Writing, Fair, OutputsPass, fillers, frames}
use Rattle.demands.specs.History.{Allowed, arrived_whole, wanted}
use Rattle.demands.specs.History.Event.{arrives}
use Rattle.demands.specs.Sender.{Sends, stream_of}
use Rattle.demands.specs.Sender.Sends.{no_more}
use Rattle.read_back.specs.WriterSends.{Run, Writable, AllButLastToTheEnd, AllToTheEnd, EnoughCalls, NoRunRefused}
use Rattle.read_back.specs.WriterSends.{run_of, end_of, next_run, frames_of, packets_of, with_fillers, tail_of}
use Rattle.read_back.specs.WriterSends.{RunsGetThere, RunsSend, WriterSends, RunsReadBackGeneral, RunsReadBack}
use Rattle.read_back.specs.WriterSends.{RunsWithLossesGeneral, RunsWithLosses}
use Rattle.read_back.proofs.AllArrive.{Carries, total, total_append, came_all, all_carried, fitting_same, idle_none}
use Rattle.read_back.proofs.AllArrive.Carries.{only_idle, as_far}
use Rattle.demands.proofs.AllOut.{wanted_append}
use Rattle.demands.proofs.Demand3.{demand3_general, from_fresh, fresh_unheard, kept_first, together_fresh}
use Rattle.read_back.proofs.Fillers.{AllIdle, idle_append, whole_append}
use Rattle.demands.proofs.Frame.{none_there}
use Rattle.demands.proofs.HandsOut.{handed_together}
use Rattle.read_back.proofs.Lays.{to_send, length_tail}
use Rattle.read_back.proofs.Places.{Writes, few, none_refused, writes_after}
use Rattle.read_back.proofs.Reaches.{gets_there, carries_all}
use Rattle.read_back.proofs.Sending.{sends, past_run, fillers_whole, fillers_idle}
use Rattle.read_back.proofs.Smooth.{smooth}
use Rattle.demands.proofs.Stream.{laid_append, length_end}

-- the first run, and what is asked of the others
module _ {u : SetUp} {v : ℕ} {p : Place} {r : Run} {rs : List Run} (i : Writable u v p (r ∷ rs)) where
  pub begins : Writes u v (run_of r) p
  begins =
      let g = i.good.0 in
      let o = i.start in
      record {
        fits = i.fits;
        channel = i.channel;
        short = g.short;
        chain = (chain_exactly (run_of r)).1 (r.packets, (refl, g.whole));
        inside = omega arith;
        border = border_passes (length (run_of r)) p.offset p.left_over i.left (inl i.start);
        master = i.master;
        counted = i.count;
      }

  onward : Writable u v (next_run u v p r) rs
  onward =
      let w = writes_after r.calls p begins i.good.0.fair in
      record { fits = i.fits; channel = i.channel; start = refl; left = few w; master = w.master; count = w.counted; good = i.good.1 }

ends_onward : (u : SetUp) (v : ℕ) (p : Place) (r : Run) (rs : List Run) → AllButLastToTheEnd u v p (r ∷ rs) → AllButLastToTheEnd u v (next_run u v p r) rs
ends_onward u v p r [] e = tt
ends_onward u v p r (s ∷ rs) e = e.1

-- enough calls bring every run to its end
all_but_last : (u : SetUp) (v : ℕ) (p : Place) (rs : List Run) → AllToTheEnd u v p rs → AllButLastToTheEnd u v p rs
all_but_last u v p [] e = tt
all_but_last u v p (r ∷ []) e = tt
all_but_last u v p (r ∷ s ∷ rs) e = (e.0, all_but_last u v (next_run u v p r) (s ∷ rs) e.1)

all_get_there : (u : SetUp) (v : ℕ) (rs : List Run) (p : Place) → Writable u v p rs → EnoughCalls rs → AllToTheEnd u v p rs
all_get_there u v [] p i n = tt
all_get_there u v (r ∷ rs) p i n =
    let l = i.left in
    let o = i.start in
    let h = n.0 in
    (gets_there r.calls p (begins i) i.good.0.fair (omega arith), all_get_there u v rs (next_run u v p r) (onward i) n.1)

pub runs_get_there : RunsGetThere
runs_get_there u v p rs i n = let e = all_get_there u v rs p i n in (all_but_last u v p rs e, e)

-- what is sent behind a run at its end begins with the left-over
behind : (u : SetUp) (v : ℕ) (p : Place) (r : Run) (rs : List Run) → AllButLastToTheEnd u v p (r ∷ rs)
    → Sends u v (next_run u v p r).count.0 (stream_of (tail_of (next_run u v p r)) (with_fillers u v (next_run u v p r) rs))
    (frames_of u v (next_run u v p r) rs)
    → Sends u v (end_of u v p r).count.0
    (to_send r.packets (end_of u v p r).offset (end_of u v p r).left_over (with_fillers u v (next_run u v p r) rs)) (frames_of u v (next_run u v p r) rs)
unfolding frames_of stream_of
behind u v p r [] e on = no_more _ _
behind u v p r (s ∷ rs) e on =
    rw (past_run r.packets (with_fillers u v (next_run u v p r) (s ∷ rs)) (end_of u v p r).offset (end_of u v p r).left_over e.0) on

module _ (u : SetUp) (v : ℕ) where
  none_is_refused : (rs : List Run) (p : Place) → Writable u v p rs → NoRunRefused u v p rs
  none_is_refused [] p i = tt
  none_is_refused (r ∷ rs) p i =
      (none_refused r.calls p (begins i) i.good.0.fair, none_is_refused rs (next_run u v p r) (onward i))

  all_whole : (rs : List Run) (p : Place) → Writable u v p rs → AllWhole source (with_fillers u v p rs)
  unfolding with_fillers
  all_whole [] p i = tt
  all_whole (r ∷ rs) p i =
      whole_append r.packets _ i.good.0.whole
      (whole_append (fillers u v (run_of r) p r.calls) _ (fillers_whole u v (run_of r) i.fits r.calls p) (all_whole rs _ (onward i)))

  all_ours : (rs : List Run) (p : Place) → wanted source (with_fillers u v p rs) ≡ wanted source (packets_of rs)
  unfolding with_fillers packets_of
  all_ours [] p = refl
  all_ours (r ∷ rs) p =
      let gs = fillers u v (run_of r) p r.calls in
      let more = with_fillers u v (next_run u v p r) rs in
      wanted_append source r.packets (gs ++ more)
      ∙ ap (λ (x : List (List ℕ)). wanted source r.packets ++ x)
      (wanted_append source gs more
      ∙ ap₂ (λ (x y : List (List ℕ)). x ++ y) (idle_none gs (fillers_idle u v (run_of r) r.calls p)) (all_ours rs (next_run u v p r)))
      ∙ sym (wanted_append source r.packets (packets_of rs))

  all_sent : (rs : List Run) (p : Place) → Writable u v p rs → AllButLastToTheEnd u v p rs
      → Sends u v p.count.0 (stream_of (tail_of p) (with_fillers u v p rs)) (frames_of u v p rs)
  unfolding with_fillers frames_of stream_of
  all_sent [] p i e = no_more _ _
  all_sent (r ∷ rs) p i e =
      let g = i.good.0 in
      let next = next_run u v p r in
      let gs = fillers u v (run_of r) p r.calls in
      let more = with_fillers u v next rs in
      let fs = frames u v (run_of r) p r.calls ++ frames_of u v next rs in
      let at : ℕ → Type 0 = λ n. Sends u v p.count.0 (to_send r.packets n p.left_over (gs ++ more)) fs in
      let t : at p.offset =
      sends u v r.packets g.whole g.real more (frames_of u v next rs) (all_whole rs next (onward i)) r.calls p (begins i) g.fair
      (behind u v p r rs e (all_sent rs next (onward i) (ends_onward u v p r rs e))) in
      rw (laid_append r.packets (gs ++ more)) (subst at i.start t)

-- how far the frames of the runs carry: a run ps with its fillers gs, from l octets left over to l', and then more
carry_run : (ps gs more : List (List ℕ)) (l l' T T' : ℕ) → AllWhole source ps → AllIdle gs
    → l + length (end_to_end gs) + length (end_to_end ps) ≡ T + l' → (length (end_to_end ps) ≡ 0) ⊎ (l' ≤ length (end_to_end gs))
    → Carries l' T' more → Carries l (T + T') (ps ++ (gs ++ more))
carry_run ps gs more l l' T T' w i b d (as_far front back e j h) =
    as_far (ps ++ (gs ++ front)) back
    (ap (λ (x : List (List ℕ)). ps ++ (gs ++ x)) e ∙ sym (append_assoc ps (gs ++ front) back ∙ ap (λ (x : List (List ℕ)). ps ++ x) (append_assoc gs front back)))
    j
    (omega (arith, length_end ps (gs ++ front), length_end gs front))
carry_run ps gs more l l' T T' w i b (inl z) (only_idle j) =
    only_idle (idle_append ps (gs ++ more) (rw (none_there source source_lawful ps w z) tt) (idle_append gs more i j))
carry_run ps gs more l l' T T' w i b (inr z) (only_idle j) = as_far ps (gs ++ more) refl (idle_append gs more i j) (omega arith)

module _ (u : SetUp) (v : ℕ) where
  carried_to_the_end : (rs : List Run) (p : Place) → Writable u v p rs → AllToTheEnd u v p rs
      → Carries p.left_over (total u (frames_of u v p rs)) (with_fillers u v p rs)
  unfolding with_fillers frames_of
  carried_to_the_end [] p i e = only_idle tt
  carried_to_the_end (r ∷ rs) p i e =
      let g = i.good.0 in
      let c = carries_all g.real r.calls p (begins i) g.fair in
      let o = i.start in
      let at_end = e.0 in
      rw (total_append u (frames u v (run_of r) p r.calls) (frames_of u v (next_run u v p r) rs))
      (carry_run r.packets (fillers u v (run_of r) p r.calls) (with_fillers u v (next_run u v p r) rs) p.left_over (end_of u v p r).left_over _ _
      g.whole (fillers_idle u v (run_of r) r.calls p) (omega arith) (go c.1 o at_end)
      (carried_to_the_end rs (next_run u v p r) (onward i) e.1))
    where
      go : {m n k l g : ℕ} → (m ≡ n) ⊎ (l ≤ g) → n ≡ 0 → m ≡ k → (k ≡ 0) ⊎ (l ≤ g)
      go (inl z) o e = inl (omega arith)
      go (inr z) o e = inr z

-- no call is refused, and the frames are the sender's
pub runs_send : RunsSend
runs_send u v p rs i e =
    record { written = none_is_refused u v rs p i; sent = all_sent u v rs p i e; whole = all_whole u v rs p i; ours = all_ours u v rs p }

-- one run
abbrev pub one_run : List (List ℕ) → List Writing → List Run
one_run ps cs = record { packets = ps; calls = cs } ∷ []

pub one_writable : (u : SetUp) (v : ℕ) (ps : List (List ℕ)) (p : Place) (cs : List Writing) → fits_of u ≡ true → v < 8 → AllWhole source ps
    → Octets (end_to_end ps) → length (end_to_end ps) ≤ 65536 → p.offset ≡ 0 → p.left_over ≤ 6 → p.master.0 < 256 → p.count.0 < 256 → Fair u cs
    → Writable u v p (one_run ps cs)
one_writable u v ps p cs fits channel w real short start left master count fair =
    record {
      fits = fits;
      channel = channel;
      start = start;
      left = left;
      master = master;
      count = count;
      good = (record { whole = w; real = real; short = short; fair = fair }, tt);
    }

module _ (u : SetUp) (v : ℕ) (ps : List (List ℕ)) (p : Place) (cs : List Writing) where
  pub one_frames : frames_of u v p (one_run ps cs) ≡ frames u v (end_to_end ps) p cs
  unfolding frames_of
  one_frames = append-nil (frames u v (end_to_end ps) p cs)

  pub one_filled : with_fillers u v p (one_run ps cs) ≡ ps ++ fillers u v (end_to_end ps) p cs
  unfolding with_fillers
  one_filled = ap (λ (x : List (List ℕ)). ps ++ x) (append-nil (fillers u v (end_to_end ps) p cs))

pub one_packets : (ps : List (List ℕ)) (cs : List Writing) → packets_of (one_run ps cs) ≡ ps
unfolding packets_of
one_packets ps cs = append-nil ps

pub writer_sends : WriterSends
writer_sends u v ps p cs fits channel w real short start left master count fair =
    let s = runs_send u v p (one_run ps cs) (one_writable u v ps p cs fits channel w real short start left master count fair) tt in
    (s.written.0, rw (one_filled u v ps p cs) at s.whole, rw (one_filled u v ps p cs, one_frames u v ps p cs) at s.sent)

-- where every frame arrives, the history keeps to the conditions of demand 3
all_arrive : (limit : ℕ) (u : SetUp) (v : ℕ) (fs outs : List (List ℕ)) (rec : Record) (store : List ℕ) (heard : Bool) → length outs ≡ length fs
    → OutputsPass limit outs → Allowed source limit u v rec store heard 0 fs (map arrives outs)
all_arrive limit u v fs [] rec store heard e r = tt
all_arrive limit u v [] (o ∷ os) rec store heard e r = absurd (omega arith)
all_arrive limit u v (f ∷ fs) (o ∷ os) rec store heard e r =
    (r.0, (λ z. omega arith), all_arrive limit u v fs os (record_over source limit u rec store o f) (store_over source limit u rec store o f) true (omega arith) r.1)

pub runs_read_back_general : RunsReadBackGeneral
runs_read_back_general limit G u v p rs store outs i ends whole octets many roomy =
    let s = runs_send u v p rs i ends in
    let fs = frames_of u v p rs in
    let ps = with_fillers u v p rs in
    let d =
    from_fresh source limit (demand3_general source limit G) u v p.count.0 (tail_of p) ps fs store (map arrives outs) s.whole s.sent i.channel
    whole octets (all_arrive limit u v fs outs fresh_record store false many roomy) in
    let k =
    kept_first u v p.count.0 (tail_of p) ps fs fresh_record store s.sent refl whole octets (fresh_follows source limit store)
    (fresh_unheard v i.channel) in
    record {
      read_back = d;
      smooth = smooth G s.whole fs outs fresh_record store false [] k roomy;
      all_out = λ e.
          handed_together source source_lawful limit u (tail_of p) ps s.whole fs fresh_record store (map arrives outs) d
          ∙ ap (λ (x : List Bool). wanted source (arrived_whole limit x (length (tail_of p)) ps)) (came_all u fs outs 0 many)
          ∙ ap₂ (λ (m n : ℕ). wanted source (arrived_whole limit (replicate m true) n ps)) (zero-add (total u fs)) (length_tail p.left_over i.left)
          ∙ all_carried limit (carried_to_the_end u v rs p i e) ∙ fitting_same limit ps (packets_of rs) s.ours;
    }

pub runs_read_back : RunsReadBack
runs_read_back = runs_read_back_general most source_roomy

pub runs_with_losses_general : RunsWithLossesGeneral
runs_with_losses_general limit G u v p rs store es i ends whole octets a =
    let s = runs_send u v p rs i ends in (
      from_fresh source limit (demand3_general source limit G) u v p.count.0 (tail_of p) (with_fillers u v p rs) (frames_of u v p rs) store es
          s.whole s.sent i.channel whole octets a,
      together_fresh source limit G u v p.count.0 (tail_of p) (with_fillers u v p rs) (frames_of u v p rs) store es
          s.whole s.sent i.channel whole octets a,
    )

pub runs_with_losses : RunsWithLosses
runs_with_losses = runs_with_losses_general most source_roomy
