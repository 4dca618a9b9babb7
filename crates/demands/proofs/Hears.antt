-- What the record and the part of the sender's channel stand for between two calls, and what the steps of an arriving frame then do.
-- Assumes nothing.
use mathlib.Core.Path.{◌≡◌, refl, ◌∙◌, sym, ap₂}
use mathlib.Core.Bool.{Bool, true, false, not, false≢true}
use mathlib.Core.List.{List, [], ◌++◌}
use Prim.Native.Nat.{ℕ, ◌+◌, ◌%◌, ◌≤◌, ◌<◌}
use native.Mathlib.Decide.{dec_lt}
use native.Mathlib.Omega.{arith}
use lib.Dec.{eqb}
use lib.ListN.{length}
use borrow.Author.Tests.{eq-eqb, ne_eqb}
use Rattle.octets.specs.Pick.{pick}
use Rattle.packet.specs.Family.{Family, AllWhole}
use Rattle.walk.specs.Theorems.{Roomy}
use Rattle.frame.specs.Opening.{idle_data}
use Rattle.frame.specs.declared.header.Header.{Header}
use Rattle.frame.proofs.Laws.{gap_exactly}
use Rattle.channel.specs.Rules.{channel_follows, hunts}
use Rattle.channel.specs.declared.state.Channel.{Channel}
use Rattle.channel.specs.declared.state.State.{State}
use Rattle.channel.specs.declared.state.State.TheVariants.{Hunting, Gathering, Skipping}
use Rattle.walk.specs.Steps.{hunted, broke, called_at, resumed, gap_for, carries_none, steps_of}
use Rattle.walk.specs.Walk.{only}
use Rattle.demands.specs.History.{most_missing}
use Rattle.demands.specs.Sender.{Mark, inner, marks_of_all}
use Rattle.demands.proofs.Arrives.{hunted_good, resumed_good}
use Rattle.demands.proofs.Field.{Next}
use Rattle.demands.proofs.Frame.{Stand, Good, called_below, called_beyond}
use Rattle.demands.proofs.Frame.Stand.{hunting}
use Rattle.demands.proofs.Moves.{Any, any_lost, any_stand, idle_good, broke_good}
use Rattle.demands.proofs.Spot.{Lost}

-- no frame of the sender arrived yet; or `missing` frames were lost since the last one; or none was, and the reader stands where the sender
-- does. `count` is that of the next frame
pub data Reads (F : Family) (limit : ℕ) (c : Channel) (part tail : List ℕ) (ps : List (List ℕ)) (came : List Bool) (q : List ℕ) (behind : List (List ℕ)) (heard : Bool)
    (missing count : ℕ) : Type 0 where
  unheard : c.heard ≡ false → heard ≡ false → Lost tail ps came q behind → Reads F limit c part tail ps came q behind heard missing count
  stale : c.heard ≡ true → heard ≡ true → c.last.0 < 256 → (c.last.0 + missing + 1) % 256 ≡ count → 1 ≤ missing
      → Lost tail ps came q behind → Reads F limit c part tail ps came q behind heard missing count
  live : c.heard ≡ true → heard ≡ true → c.last.0 < 256 → (c.last.0 + missing + 1) % 256 ≡ count → missing ≡ 0
      → Stand F limit c.state part tail ps came q behind → Reads F limit c part tail ps came q behind heard missing count

pub reads_any : {F : Family} {limit : ℕ} {c : Channel} {part tail : List ℕ} {ps : List (List ℕ)} {came : List Bool} {q : List ℕ} {behind : List (List ℕ)} {heard : Bool}
    {missing count : ℕ} → Reads F limit c part tail ps came q behind heard missing count → Any tail ps came q behind
reads_any (unheard a b l) = any_lost l
reads_any (stale a b h e m l) = any_lost l
reads_any (live a b h e m s) = any_stand s

-- steps 1 and 2
module _ (F : Family) (limit : ℕ) (part field : List ℕ) (h : Header) (c : Channel) (s : h.synchronisation ≡ false) where
  pub steps_idle : h.pointer ≡ idle_data → steps_of F limit part field h c ≡ broke c.state (only Hunting)
  unfolding steps_of carries_none
  steps_idle e = rw (s, eq-eqb h.pointer idle_data e)

  carries : (h.pointer ≡ idle_data → ⊥) → carries_none h ≡ false
  unfolding carries_none
  carries n = rw (s, ne_eqb h.pointer idle_data n)

  steps_by : (b : Bool) → carries_none h ≡ false → eqb (gap_for c h) 0 ≡ b
      → steps_of F limit part field h c
      ≡ pick (not b) (broke c.state (hunted F limit field h.pointer)) (resumed F limit part field h.pointer c.state)
  unfolding steps_of
  steps_by b n g =
      ap₂ (λ (x y : Bool). pick x (broke c.state (only Hunting))
      (pick (not y) (broke c.state (hunted F limit field h.pointer)) (resumed F limit part field h.pointer c.state))) n g

  pub steps_on : (h.pointer ≡ idle_data → ⊥) → gap_for c h ≡ 0 → steps_of F limit part field h c ≡ resumed F limit part field h.pointer c.state
  steps_on n g = steps_by true (carries n) (eq-eqb (gap_for c h) 0 g)

  steps_gap : (h.pointer ≡ idle_data → ⊥) → (gap_for c h ≡ 0 → ⊥)
      → steps_of F limit part field h c ≡ broke c.state (hunted F limit field h.pointer)
  steps_gap n g = steps_by false (carries n) (ne_eqb (gap_for c h) 0 g)

pub gap_unheard : (c : Channel) (h : Header) → c.heard ≡ false → gap_for c h ≡ 0
unfolding gap_for
gap_unheard c h e = rw e

-- the gap is the number of frames that are missing
pub gap_heard : (c : Channel) (h : Header) (missing : ℕ) → c.heard ≡ true → c.last.0 < 256 → h.count.0 < 256 → missing ≤ most_missing
    → (c.last.0 + missing + 1) % 256 ≡ h.count.0 → gap_for c h ≡ missing
unfolding gap_for
gap_heard c h missing e l k m g = rw e (sym ((gap_exactly h.count.0 c.last.0 missing k l (omega arith)).1 g))

pub unheard_hunts : (F : Family) (limit : ℕ) (part : List ℕ) (c : Channel) → channel_follows F limit part c ≡ true → c.heard ≡ false
    → c.state ≡ Hunting
unfolding channel_follows hunts
unheard_hunts F limit part c f e = go c.state (rw e at f)
  where
    go : (s : State) → hunts s ≡ true → s ≡ Hunting
    go Hunting h = refl
    go (Gathering k) h = absurd (false≢true h)
    go (Skipping r) h = absurd (false≢true h)

pub not_idle : (D e pointer : ℕ) → D ≤ 2042 → pointer ≡ called_at D e → pointer ≡ idle_data → ⊥
not_idle D e pointer few points z = go (dec_lt e D)
  where
    go : Dec (e < D) → ⊥
    go (yes l) = omega (arith, called_below D e l)
    go (no l) = omega (arith, called_beyond D e (omega arith))

module _ {F : Family} {limit : ℕ} (G : Roomy F limit)
    {c : Channel} {part tail : List ℕ} {ps : List (List ℕ)} {came : List Bool} {q : List ℕ} {behind : List (List ℕ)} {heard : Bool}
    {missing count : ℕ} {rest : List Mark} (w : AllWhole F ps) (field : List ℕ) (h : Header) (private : h.synchronisation ≡ false)
    (reads : Reads F limit c part tail ps came q behind heard missing count) where
  -- an idle frame arrived
  pub idle_arrives : h.pointer ≡ idle_data → q ≡ [] → rest ≡ inner q ++ marks_of_all behind
      → Good F limit (steps_of F limit part field h c) tail ps came 0 rest
  idle_arrives e z r = rw (steps_idle F limit part field h c private e) (broke_good c.state (idle_good G w (reads_any reads) z r))

  -- a frame with packets arrived
  module _ (some : 1 ≤ length field) (few : length field ≤ 2042) (points : h.pointer ≡ called_at (length field) (length q)) where
    pub packets_arrive : channel_follows F limit part c ≡ true → h.count.0 < 256 → h.count.0 ≡ count → (heard ≡ true → missing ≤ most_missing)
        → Next q behind field rest → Good F limit (steps_of F limit part field h c) tail ps came (length field) rest
    packets_arrive f k e m n = go reads
      where
        go : Reads F limit c part tail ps came q behind heard missing count
            → Good F limit (steps_of F limit part field h c) tail ps came (length field) rest
        go (unheard a b l) =
            rw (steps_on F limit part field h c private (not_idle (length field) (length q) h.pointer few points) (gap_unheard c h a))
            (resumed_good G w field some few h.pointer points c.state part (hunting (unheard_hunts F limit part c f a) l) n)
        go (stale a b i g o l) =
            let y : gap_for c h ≡ missing = gap_heard c h missing a i k (m b) (g ∙ sym e) in
            rw (steps_gap F limit part field h c private (not_idle (length field) (length q) h.pointer few points) (λ z. omega arith))
            (broke_good c.state (hunted_good G w field some few h.pointer points l n))
        go (live a b i g o s) =
            let y : gap_for c h ≡ missing = gap_heard c h missing a i k (m b) (g ∙ sym e) in
            rw (steps_on F limit part field h c private (not_idle (length field) (length q) h.pointer few points) (y ∙ o))
            (resumed_good G w field some few h.pointer points c.state part s n)
