-- Which case of steps 2 to 5 a frame is, test by test.
-- Assumes nothing.
use mathlib.Core.Path.{◌≡◌, refl, ◌∙◌, sym}
use mathlib.Core.Bool.{Bool, true, false, ◌||◌, false≢true}
use mathlib.Core.List.{List, ◌++◌}
use mathlib.Core.Logic.{⊎_elim}
use Prim.Native.Nat.{ℕ, ◌-◌, ◌≤◌, ◌<◌}
use native.Mathlib.Omega.{arith}
use lib.Dec.{eqb}
use lib.ListN.{length, take, drop}
use borrow.Author.Tests.{lt-ltb, le-ltb, le-leb, lt-leb, eq-eqb, ne_eqb, eqb-false}
use Rattle.octets.specs.Pick.{pick}
use Rattle.packet.specs.Family.{Family}
use Rattle.packet.specs.declared.source.Size.{Size}
use Rattle.packet.specs.declared.source.Size.TheVariants.{Wait, Foreign, Total}
use Rattle.frame.specs.Opening.{idle_data, none_starts}
use Rattle.frame.specs.declared.header.Header.{Header}
use Rattle.channel.specs.Rules.{channel_follows, state_follows, hunts}
use Rattle.channel.specs.declared.state.Channel.{Channel}
use Rattle.channel.specs.declared.state.State.{State}
use Rattle.channel.specs.declared.state.State.TheVariants.{Hunting, Gathering, Skipping}
use Rattle.walk.specs.Inside.{Fit}
use Rattle.walk.specs.Steps.{agrees, agrees_by, broke, called_at, carries_none, disagreed, gap_for, gathered, hunted, resumed, skipped, steps_of}
use Rattle.walk.specs.Walk.{walk_of, ended, only}

-- the pointer that an end calls for
module _ (D end : ℕ) where
  pub called_within : end < D → end ≡ called_at D end
  unfolding called_at
  called_within h = rw (lt-ltb end D h)

  pub called_none : D ≤ end → none_starts ≡ called_at D end
  unfolding called_at
  called_none h = rw (le-ltb end D h)

-- the pointer agrees, by the number of held octets and the size that is told
module _ (D k pointer : ℕ) (s : Size) where
  pub agrees_start : (called : ℕ) → called ≡ called_at D 0 → k ≡ 0 → eqb pointer called ≡ agrees D k s pointer
  unfolding agrees
  agrees_start called e h = rw (e, eq-eqb k 0 h)

  module _ (h : k ≡ 0 → ⊥) where
    pub agrees_wait : s ≡ Wait → eqb pointer none_starts ≡ agrees D k s pointer
    unfolding agrees agrees_by
    agrees_wait e = rw (ne_eqb k 0 h, e)

    pub agrees_foreign : s ≡ Foreign → true ≡ agrees D k s pointer
    unfolding agrees agrees_by
    agrees_foreign e = rw (ne_eqb k 0 h, e)

    pub agrees_total : (n called end : ℕ) → s ≡ Total n → called ≡ called_at D end → end ≡ n - k
        → eqb pointer called ≡ agrees D k s pointer
    unfolding agrees agrees_by
    agrees_total n called end e f g = rw (ne_eqb k 0 h, e, f, g)

-- what the code found of the size that it was told
pub agreed : (D k pointer : ℕ) {s t : Size} {a b : Bool} → s ≡ t → a ≡ agrees D k s pointer → a ≡ b → agrees D k t pointer ≡ b
agreed D k pointer e f g = rw (← e) (sym f ∙ g)

-- a pointer that passed test 12 and is neither 2046 nor 2047 lies within the field
pub points_in : {limit : ℕ} {part field : List ℕ} {pointer : ℕ} {out : List ℕ} → Fit limit part field pointer out
    → (pointer ≡ idle_data → ⊥) → (pointer ≡ none_starts → ⊥) → pointer ≤ length field
points_in f i n = ⊎_elim (λ h. omega arith) (λ h. ⊎_elim (λ e. absurd (i e)) (λ e. absurd (n e)) h) f.points

-- step 4
module _ (F : Family) (limit : ℕ) (field : List ℕ) (pointer : ℕ) where
  pub hunted_none : pointer ≡ none_starts → hunted F limit field pointer ≡ only Hunting
  unfolding hunted
  hunted_none h = rw (eq-eqb pointer none_starts h)

  pub hunted_from : (pointer ≡ none_starts → ⊥) → hunted F limit field pointer ≡ ended (walk_of F limit (drop pointer field))
  unfolding hunted
  hunted_from h = rw (ne_eqb pointer none_starts h)

-- step 3
module _ (F : Family) (limit : ℕ) (part field : List ℕ) (pointer : ℕ) where
  pub gathers_on : (k : ℕ) → agrees (length field) k (F.size (take k part ++ field)) pointer ≡ true
      → resumed F limit part field pointer (Gathering k) ≡ ended (walk_of F limit (take k part ++ field))
  unfolding resumed gathered
  gathers_on k e = rw e

  pub gathers_apart : (k : ℕ) → agrees (length field) k (F.size (take k part ++ field)) pointer ≡ false
      → resumed F limit part field pointer (Gathering k) ≡ disagreed (Gathering k) (hunted F limit field pointer)
  unfolding resumed gathered
  gathers_apart k e = rw e

  module _ (r : ℕ) where
    pub skips_apart : (pointer ≡ called_at (length field) r → ⊥)
        → resumed F limit part field pointer (Skipping r) ≡ disagreed (Skipping r) (hunted F limit field pointer)
    unfolding resumed skipped
    skips_apart h = rw (ne_eqb pointer (called_at (length field) r) h)

    pub skips_on : pointer ≡ called_at (length field) r → length field < r
        → resumed F limit part field pointer (Skipping r) ≡ only (Skipping (r - length field))
    unfolding resumed skipped
    skips_on e h = rw (eq-eqb pointer (called_at (length field) r) e, lt-leb r (length field) h)

    pub skips_out_lem : pointer ≡ called_at (length field) r → r ≤ length field
        → resumed F limit part field pointer (Skipping r) ≡ ended (walk_of F limit (drop r field))
    unfolding resumed skipped
    skips_out_lem e h = rw (eq-eqb pointer (called_at (length field) r) e, le-leb r (length field) h)

-- step 2
module _ (F : Family) (limit : ℕ) (part field : List ℕ) (h : Header) (c : Channel) where
  pub steps_none : carries_none h ≡ true → steps_of F limit part field h c ≡ broke c.state (only Hunting)
  unfolding steps_of
  steps_none e = rw e

  module _ (e : carries_none h ≡ false) where
    pub steps_gap : (gap_for c h ≡ 0 → ⊥) → steps_of F limit part field h c ≡ broke c.state (hunted F limit field h.pointer)
    unfolding steps_of
    steps_gap g = rw (e, ne_eqb (gap_for c h) 0 g)

    pub steps_on : gap_for c h ≡ 0 → steps_of F limit part field h c ≡ resumed F limit part field h.pointer c.state
    unfolding steps_of
    steps_on g = rw (e, eq-eqb (gap_for c h) 0 g)

-- a frame that carries packets is neither private nor idle
either_false : (a b : Bool) → (a || b) ≡ false → (a ≡ false) × (b ≡ false)
either_false true b e = absurd (false≢true (sym e))
either_false false b e = (refl, e)

pub carries_packets : (h : Header) → carries_none h ≡ false → (h.synchronisation ≡ false) × (h.pointer ≡ idle_data → ⊥)
unfolding carries_none
carries_packets h e = let t = either_false _ _ e in (t.0, eqb-false h.pointer idle_data t.1)

-- a channel that keeps the rules, heard or not, is in a state that does
hunts_follows : (F : Family) (limit : ℕ) (part : List ℕ) (s : State) → hunts s ≡ true → state_follows F limit part s ≡ true
unfolding hunts state_follows
hunts_follows F limit part Hunting e = refl
hunts_follows F limit part (Gathering k) e = absurd (false≢true e)
hunts_follows F limit part (Skipping r) e = absurd (false≢true e)

pub state_follows_lem : (F : Family) (limit : ℕ) (part : List ℕ) (c : Channel) → channel_follows F limit part c ≡ true
    → state_follows F limit part c.state ≡ true
unfolding channel_follows
state_follows_lem F limit part c e = go c.heard e
  where
    go : (b : Bool) → pick b (state_follows F limit part c.state) (hunts c.state) ≡ true → state_follows F limit part c.state ≡ true
    go true e = e
    go false e = hunts_follows F limit part c.state e
