-- How a frame of the sender moves it on when it is lost, and what an idle frame does: it stands between packets and changes nothing.
-- Assumes nothing.
use mathlib.Core.Path.{◌≡◌, refl, ◌∙◌, ap}
use mathlib.Core.Bool.{Bool, true, false, ◌&&◌, false≢true}
use mathlib.Core.List.{List, [], ◌∷◌, ◌++◌, append-nil}
use Prim.Native.Nat.{ℕ, ◌≤◌}
use native.Mathlib.Omega.{arith}
use lib.ListN.{length, replicate, length-append}
use Rattle.packet.specs.Family.{Family, AllWhole}
use Rattle.packet.specs.Theorems.{end_to_end}
use Rattle.walk.specs.Theorems.{Roomy}
use Rattle.channel.specs.declared.state.State.{State}
use Rattle.walk.specs.Steps.{broke}
use Rattle.walk.specs.Walk.{Done, only}
use Rattle.channel.specs.declared.state.State.TheVariants.{Hunting}
use Rattle.demands.specs.Sender.{Mark, inner, marks_of_all, between}
use Rattle.demands.proofs.Due.{late_all}
use Rattle.demands.proofs.Field.{Next}
use Rattle.demands.proofs.Field.Next.{still, ends, opens}
use Rattle.demands.proofs.Frame.{Stand, Good, only_good}
use Rattle.demands.proofs.Frame.Stand.{hunting, between as between_packets, gathers, skips}
use Rattle.demands.proofs.Spot.{Spot, Free, Inside, Lost, free_spot, inside_spot, spot_whole, still_inside, after_ends, after_opens, lost_full, lost_still}
use Rattle.demands.proofs.Spot.Lost.{lost_free, lost_inside}

-- wherever the sender stands
pub data Any (tail : List ℕ) (ps : List (List ℕ)) (came : List Bool) (q : List ℕ) (behind : List (List ℕ)) : Type 0 where
  any_free : Free tail ps came q behind → Any tail ps came q behind
  any_inside : (begun : List ℕ) (b : Bool) → Inside tail ps came begun q behind b → Any tail ps came q behind

-- where it stands when a frame was lost: no packet is under way, or one that has lost an octet
pub record Losing (tail : List ℕ) (ps : List (List ℕ)) (came : List Bool) (rest : List Mark) : Type 0 where
  pub to_come : List ℕ
  pub behind : List (List ℕ)
  pub rest_is : rest ≡ inner to_come ++ marks_of_all behind
  pub lost : Lost tail ps came to_come behind

module _ {tail : List ℕ} {ps : List (List ℕ)} {came : List Bool} {q : List ℕ} {behind : List (List ℕ)} where
  pub any_lost : Lost tail ps came q behind → Any tail ps came q behind
  any_lost (lost_free s) = any_free s
  any_lost (lost_inside begun s) = any_inside begun false s

  pub any_stand : {F : Family} {limit : ℕ} {σ : State} {part : List ℕ} → Stand F limit σ part tail ps came q behind → Any tail ps came q behind
  any_stand (hunting e l) = any_lost l
  any_stand (between_packets e z s) = any_free s
  any_stand (gathers begun e h o s) = any_inside begun true s
  any_stand (skips begun b e o s) = any_inside begun b s

  any_spot : Any tail ps came q behind → Spot tail ps came q behind
  any_spot (any_free s) = free_spot s
  any_spot (any_inside begun b s) = inside_spot s

  pub any_whole : (F : Family) → Any tail ps came q behind → AllWhole F ps → AllWhole F behind
  any_whole F s w = spot_whole F (any_spot s) w

  lost_bit : (b : Bool) {begun : List ℕ} → Inside tail ps came begun q behind (b && false) → Inside tail ps came begun q behind false
  lost_bit true s = s
  lost_bit false s = s

module _ {tail : List ℕ} {ps : List (List ℕ)} {came : List Bool} {q : List ℕ} {behind : List (List ℕ)} where
  still_lost : (a b : List ℕ) (D : ℕ) → Any tail ps came q behind → q ≡ a ++ b → 1 ≤ length b → D ≡ length a → 1 ≤ D
      → Lost tail ps (came ++ replicate D false) b behind
  still_lost a b D (any_free s) e h d i = lost_still a b D false (lost_free s) e h d i
  still_lost a b D (any_inside begun x s) e h d i = lost_inside (begun ++ a) (lost_bit x (still_inside a b D false s e h d i))

  -- a frame with packets was lost
  pub loses : {rest : List Mark} (field : List ℕ) → 1 ≤ length field → Any tail ps came q behind → Next q behind field rest
      → Losing tail ps (came ++ replicate (length field) false) rest
  unfolding inner
  loses field some s (still a b e h f r) =
      record { to_come = b; behind = behind; rest_is = r; lost = still_lost a b (length field) s e h (ap length f) some }
  loses field some s (ends ws behind' e f r) =
      record {
        to_come = [];
        behind = behind';
        rest_is = r;
        lost = lost_free (after_ends ws behind' (length field) false (any_spot s) e (ap length f ∙ length-append q (end_to_end ws)));
      }
  loses field some s (opens ws begun left behind' e h i f r) =
      record {
        to_come = left;
        behind = behind';
        rest_is = r;
        lost = lost_inside begun
            (after_opens ws begun left behind' (length field) false (any_spot s) e
            (omega (arith, ap length f, length-append q (end_to_end ws ++ begun), length-append (end_to_end ws) begun)) h i);
      }

-- between packets nothing of a packet is to come
pub nothing_to_come : (q : List ℕ) (ms : List Mark) → between (inner q ++ ms) ≡ true → q ≡ []
unfolding between inner
nothing_to_come [] ms e = refl
nothing_to_come (o ∷ q) ms e = absurd (false≢true e)

module _ {tail : List ℕ} {ps : List (List ℕ)} {came : List Bool} {q : List ℕ} {behind : List (List ℕ)} where
  idle_free : Any tail ps came q behind → q ≡ [] → Free tail ps came q behind
  idle_free (any_free s) e = s
  idle_free (any_inside begun b s) e = absurd (omega (arith, s.more, ap length e))

  idle_same : (c : Bool) → Any tail ps came q behind → q ≡ [] → Lost tail ps (came ++ replicate 0 c) q behind
  idle_same c s e = rw (append-nil came) (lost_free (idle_free s e))

  -- an idle frame was lost, or arrived
  pub idle_loses : {rest : List Mark} → Any tail ps came q behind → q ≡ [] → rest ≡ inner q ++ marks_of_all behind
      → Losing tail ps (came ++ replicate 0 false) rest
  idle_loses s e r = record { to_come = q; behind = behind; rest_is = r; lost = idle_same false s e }

  pub idle_good : {F : Family} {limit : ℕ} (G : Roomy F limit) {rest : List Mark} → AllWhole F ps → Any tail ps came q behind → q ≡ []
      → rest ≡ inner q ++ marks_of_all behind
      → Good F limit (only Hunting) tail ps came 0 rest
  idle_good {F} {limit} G w s e r =
      only_good G q behind
      (lost_full G 0 (lost_free (idle_free s e)) [] behind 0 refl tt tt (omega (arith, ap length e)) (omega arith)
      (late_all F G.laws limit (length came) _ _ _ behind (spot_whole F (any_spot s) w) (omega arith)))
      (idle_same true s e) r

-- a packet that was broken besides changes none of this
pub broke_good : {F : Family} {limit : ℕ} {d : Done} {tail : List ℕ} {ps : List (List ℕ)} {came : List Bool} {D : ℕ} {rest : List Mark} (s : State)
    → Good F limit d tail ps came D rest → Good F limit (broke s d) tail ps came D rest
broke_good s g =
    record {
      ran = record { whole = g.ran.whole; none_foreign = g.ran.none_foreign; none_disagrees = g.ran.none_disagrees };
      to_come = g.to_come;
      behind = g.behind;
      rest_is = g.rest_is;
      stands = g.stands;
    }
