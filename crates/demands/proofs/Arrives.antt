-- One arriving frame with packets, by where the reader stands: what the steps do is right.
-- Assumes nothing.
use mathlib.Core.Path.{◌≡◌, refl, ◌∙◌, sym, ap}
use mathlib.Core.Bool.{Bool, true}
use mathlib.Core.List.{List, [], ◌∷◌, ◌++◌, append_assoc}
use mathlib.Core.Logic.{◌⊎◌, inl, inr}
use Prim.Native.Nat.{ℕ, ◌+◌, ◌-◌, ◌≤◌, ◌<◌}
use native.Mathlib.Decide.{ℕ_discrete}
use native.Mathlib.Omega.{arith}
use lib.ListN.{length, take, drop, replicate, length-append}
use lib.Seq.{drop_at}
use Rattle.packet.specs.Family.{Family, Whole, AllWhole}
use Rattle.packet.specs.Theorems.{end_to_end}
use Rattle.packet.specs.declared.source.Size.TheVariants.{Wait, Total}
use Rattle.walk.specs.Theorems.{Roomy}
use Rattle.channel.specs.declared.state.State.{State}
use Rattle.walk.specs.Steps.{hunted, called_at, agrees, skipped, resumed}
use Rattle.walk.specs.Walk.{ended, walk_of}
use Rattle.demands.specs.History.{last_in}
use Rattle.demands.specs.Sender.{Mark, inner}
use Rattle.demands.proofs.Aligned.{AllFit, begin_tells, fit_of}
use Rattle.demands.proofs.Due.{late_all, late_first}
use Rattle.demands.proofs.Field.{Next}
use Rattle.demands.proofs.Field.Next.{still, ends, opens}
use Rattle.demands.proofs.Frame.{Stand, Good, none_there, called_below, called_beyond, hunted_none, hunted_at, gathered_on, agrees_none, agrees_wait, agrees_total, skipped_past, skipped_on, only_good, exact_good, midst_good}
use Rattle.demands.proofs.Frame.Stand.{hunting, between, gathers, skips}
use Rattle.demands.proofs.Spot.{Spot, Free, Inside, Lost, finishes, free_spot, inside_spot, spot_whole, inside_whole, still_inside, after_ends, after_opens, skip_full, held_full, inside_none, lost_spot, lost_none, lost_full, lost_still}
use Rattle.demands.proofs.Spot.Lost.{lost_free}
use Rattle.demands.proofs.Stream.{whole_left, whole_right}

-- the parts of a field that ends with a packet's end, or in a packet that it begins
record Full (F : Family) (limit : ℕ) (came : List Bool) (q field : List ℕ) (ws r : List (List ℕ)) (m : ℕ) : Type 0 where
  whole : AllWhole F ws
  fit : AllFit limit ws
  size : length field ≡ length q + m
  there : length (end_to_end ws) ≤ m
  rest_late : last_in limit (length came) (length came + length field) (came ++ replicate (length field) true) (length came + length q + length (end_to_end ws)) r
      ≡ []

module _ {F : Family} {limit : ℕ} (G : Roomy F limit)
    {tail : List ℕ} {ps : List (List ℕ)} {came : List Bool} {q : List ℕ} {behind : List (List ℕ)} (w : AllWhole F ps)
    (s : Spot tail ps came q behind) (field : List ℕ) (few : length field ≤ 2042) where
  ends_full : (ws behind' : List (List ℕ)) → behind ≡ ws ++ behind' → field ≡ q ++ end_to_end ws
      → Full F limit came q field ws behind' (length (end_to_end ws))
  ends_full ws behind' e f =
      let v : AllWhole F (ws ++ behind') = rw e at (spot_whole F s w) in
      let l : length field ≡ length q + length (end_to_end ws) = ap length f ∙ length-append q (end_to_end ws) in
      record {
        whole = whole_left F ws behind' v;
        fit = fit_of limit ws (omega arith);
        size = l;
        there = omega arith;
        rest_late = late_all F G.laws limit (length came) _ _ _ behind' (whole_right F ws behind' v) (omega arith);
      }

  module _ (ws : List (List ℕ)) (begun left : List ℕ) (behind' : List (List ℕ)) (e : behind ≡ ws ++ (begun ++ left) ∷ behind')
      (h : 1 ≤ length left) (f : field ≡ q ++ (end_to_end ws ++ begun)) where
    opens_size : length field ≡ length q + (length (end_to_end ws) + length begun)
    opens_size = ap length f ∙ length-append q (end_to_end ws ++ begun) ∙ ap (λ (n : ℕ). length q + n) (length-append (end_to_end ws) begun)

    opens_full : Full F limit came q field ws ((begun ++ left) ∷ behind') (length (end_to_end ws) + length begun)
    opens_full =
        let v : AllWhole F (ws ++ (begun ++ left) ∷ behind') = rw e at (spot_whole F s w) in
        let y = whole_right F ws ((begun ++ left) ∷ behind') v in
        let l = opens_size in
        record {
          whole = whole_left F ws ((begun ++ left) ∷ behind') v;
          fit = fit_of limit ws (omega arith);
          size = l;
          there = omega arith;
          rest_late = late_first F G.laws limit (length came) _ _ _ (begun ++ left) behind' y.1 (omega (arith, length-append begun left));
        }

    opens_whole : Whole F (begun ++ left)
    opens_whole =
        let v : AllWhole F (ws ++ (begun ++ left) ∷ behind') = rw e at (spot_whole F s w) in
        let y = whole_right F ws ((begun ++ left) ∷ behind') v in y.0

-- a packet that ends in this field is not too long, if its held octets did not tell otherwise
within : {F : Family} {limit : ℕ} (G : Roomy F limit) (held q : List ℕ) → (length (held ++ q) ≤ limit) ⊎ (F.size held ≡ Wait) → length q ≤ 2042
    → length (held ++ q) ≤ limit
within G held q (inl h) j = h
within G held q (inr h) j = omega (arith, G.laws.header_tells held h, length-append held q)

module _ {F : Family} {limit : ℕ} (G : Roomy F limit)
    {tail : List ℕ} {ps : List (List ℕ)} {came : List Bool} {q : List ℕ} {behind : List (List ℕ)} {rest : List Mark} (w : AllWhole F ps)
    (field : List ℕ) (some : 1 ≤ length field) (few : length field ≤ 2042) (pointer : ℕ)
    (points : pointer ≡ called_at (length field) (length q)) where
  -- hunting, with no packet under way that could be finished
  pub hunted_good : Lost tail ps came q behind → Next q behind field rest
      → Good F limit (hunted F limit field pointer) tail ps came (length field) rest
  unfolding inner
  hunted_good l (still a b e h f r) =
      let d : length field ≡ length a = ap length f in
      let i : length field < length q = omega (arith, ap length e, length-append a b) in
      rw (hunted_none F limit field pointer (points ∙ called_beyond (length field) (length q) (omega arith)))
      (only_good G b behind (lost_none G (length field) l (spot_whole F (lost_spot l) w) i)
      (lost_still a b (length field) true l e h d some) r)
  hunted_good l (ends ws behind' e f r) = go (ℕ_discrete (length (end_to_end ws)) 0)
    where
      full : Full F limit came q field ws behind' (length (end_to_end ws))
      full = ends_full G w (lost_spot l) field few ws behind' e f

      fin : finishes limit tail ps came (length field) ≡ ws
      fin = lost_full G (length field) l ws behind' _ e full.whole full.fit full.size full.there full.rest_late

      free : Free tail ps (came ++ replicate (length field) true) [] behind'
      free = after_ends ws behind' (length field) true (lost_spot l) e full.size

      go : Dec (length (end_to_end ws) ≡ 0) → Good F limit (hunted F limit field pointer) tail ps came (length field) rest
      go (yes z) =
          rw (hunted_none F limit field pointer (points ∙ called_beyond (length field) (length q) (omega (arith, full.size))))
          (only_good G [] behind' (fin ∙ none_there F G.laws ws full.whole z) (lost_free free) r)
      go (no z) =
          let p : pointer ≡ length q = points ∙ called_below (length field) (length q) (omega (arith, full.size)) in
          exact_good G (hunted F limit field pointer) ws behind' full.whole full.fit fin
          (hunted_at F limit field pointer (omega (arith, full.size))
          ∙ ap (λ (x : List ℕ). ended (walk_of F limit x)) (ap (drop pointer) f ∙ drop_at q (end_to_end ws) pointer (sym p)))
          free r
  hunted_good l (opens ws begun left behind' e h i f r) =
      let s = lost_spot l in
      let full = opens_full G w s field few ws begun left behind' e i f in
      let fin = lost_full G (length field) l ws ((begun ++ left) ∷ behind') _ e full.whole full.fit full.size full.there full.rest_late in
      let p : pointer ≡ length q = points ∙ called_below (length field) (length q) (omega (arith, full.size)) in
      midst_good G (hunted F limit field pointer) ws begun left behind' full.whole full.fit
      (opens_whole G w s field few ws begun left behind' e i f) fin
      (hunted_at F limit field pointer (omega (arith, full.size))
      ∙ ap (λ (x : List ℕ). ended (walk_of F limit x)) (ap (drop pointer) f ∙ drop_at q (end_to_end ws ++ begun) pointer (sym p)))
      (after_opens ws begun left behind' (length field) true s e (omega (arith, full.size)) h i) r

  -- between packets: the field begins with one
  between_good : (part : List ℕ) → q ≡ [] → Free tail ps came q behind → Next q behind field rest
      → Good F limit (ended (walk_of F limit (take 0 part ++ field))) tail ps came (length field) rest
  between_good part z s (still a b e h f r) = absurd (omega (arith, ap length (sym z ∙ e), length-append a b))
  between_good part z s (ends ws behind' e f r) =
      let full = ends_full G w (free_spot s) field few ws behind' e f in
      exact_good G (ended (walk_of F limit field)) ws behind' full.whole full.fit
      (lost_full G (length field) (lost_free s) ws behind' _ e full.whole full.fit full.size full.there full.rest_late)
      (ap (λ (x : List ℕ). ended (walk_of F limit x)) (f ∙ ap (λ (x : List ℕ). x ++ end_to_end ws) z))
      (after_ends ws behind' (length field) true (free_spot s) e full.size) r
  between_good part z s (opens ws begun left behind' e h i f r) =
      let full = opens_full G w (free_spot s) field few ws begun left behind' e i f in
      midst_good G (ended (walk_of F limit field)) ws begun left behind' full.whole full.fit
      (opens_whole G w (free_spot s) field few ws begun left behind' e i f)
      (lost_full G (length field) (lost_free s) ws ((begun ++ left) ∷ behind') _ e full.whole full.fit full.size full.there full.rest_late)
      (ap (λ (x : List ℕ). ended (walk_of F limit x)) (f ∙ ap (λ (x : List ℕ). x ++ (end_to_end ws ++ begun)) z))
      (after_opens ws begun left behind' (length field) true (free_spot s) e (omega (arith, full.size)) h i) r

  -- holding the beginning of a packet: the walk over it and the field
  gathers_good : (held : List ℕ) → (length (held ++ q) ≤ limit) ⊎ (F.size held ≡ Wait) → Inside tail ps came held q behind true
      → Next q behind field rest → Good F limit (ended (walk_of F limit (held ++ field))) tail ps came (length field) rest
  gathers_good held o s (still a b e h f r) =
      let d : length field ≡ length a = ap length f in
      let i : length field < length q = omega (arith, ap length e, length-append a b) in
      let s' = still_inside a b (length field) true s e h d some in
      midst_good G (ended (walk_of F limit (held ++ field))) [] (held ++ a) b behind tt tt (inside_whole F s' w)
      (inside_none G (length field) s (spot_whole F (inside_spot s) w) i)
      (ap (λ (x : List ℕ). ended (walk_of F limit (held ++ x))) f) s' r
  gathers_good held o s (ends ws behind' e f r) =
      let full = ends_full G w (inside_spot s) field few ws behind' e f in
      let i = within G held q o (omega (arith, full.size)) in
      exact_good G (ended (walk_of F limit (held ++ field))) ((held ++ q) ∷ ws) behind' (inside_whole F s w, full.whole) (i, full.fit)
      (held_full G (length field) s ws behind' _ refl i e full.whole full.fit full.size full.there full.rest_late)
      (ap (λ (x : List ℕ). ended (walk_of F limit x)) (ap (λ (x : List ℕ). held ++ x) f ∙ sym (append_assoc held q (end_to_end ws))))
      (after_ends ws behind' (length field) true (inside_spot s) e full.size) r
  gathers_good held o s (opens ws begun left behind' e h i f r) =
      let full = opens_full G w (inside_spot s) field few ws begun left behind' e i f in
      let j = within G held q o (omega (arith, full.size)) in
      midst_good G (ended (walk_of F limit (held ++ field))) ((held ++ q) ∷ ws) begun left behind' (inside_whole F s w, full.whole) (j, full.fit)
      (opens_whole G w (inside_spot s) field few ws begun left behind' e i f)
      (held_full G (length field) s ws ((begun ++ left) ∷ behind') _ refl j e full.whole full.fit full.size full.there full.rest_late)
      (ap (λ (x : List ℕ). ended (walk_of F limit x))
      (ap (λ (x : List ℕ). held ++ x) f ∙ sym (append_assoc held q (end_to_end ws ++ begun))
      ∙ sym (append_assoc (held ++ q) (end_to_end ws) begun)))
      (after_opens ws begun left behind' (length field) true (inside_spot s) e (omega (arith, full.size)) h i) r

  -- the pointer agrees with what the held octets and the field tell
  gathers_agree : (held : List ℕ) {b : Bool} → Inside tail ps came held q behind b → Next q behind field rest
      → agrees (length field) (length held) (F.size (held ++ field)) pointer ≡ true
  gathers_agree held s n = go n
    where
      l : length (held ++ q) - length held ≡ length q
      l = omega (arith, length-append held q)

      told : F.size (held ++ field) ≡ Total (length (held ++ q)) → agrees (length field) (length held) (F.size (held ++ field)) pointer ≡ true
      told e = agrees_total (length field) (length held) (length (held ++ q)) _ pointer s.some e (points ∙ ap (called_at (length field)) (sym l))

      full : (x : List ℕ) → field ≡ q ++ x → agrees (length field) (length held) (F.size (held ++ field)) pointer ≡ true
      full x f =
          told (ap F.size (ap (λ (y : List ℕ). held ++ y) f ∙ sym (append_assoc held q x))
          ∙ G.laws.total_stays (held ++ q) x (length (held ++ q)) (inside_whole F s w))

      part : (a b : List ℕ) → q ≡ a ++ b → 1 ≤ length b → field ≡ a
          → (F.size (held ++ a) ≡ Wait) ⊎ (F.size (held ++ a) ≡ Total (length (held ++ a ++ b)))
          → agrees (length field) (length held) (F.size (held ++ field)) pointer ≡ true
      part a b e h f (inl z) =
          agrees_wait (length field) (length held) _ pointer s.some (ap (λ (y : List ℕ). F.size (held ++ y)) f ∙ z)
          (points ∙ called_beyond (length field) (length q) (omega (arith, ap length e, ap length f, length-append a b)))
      part a b e h f (inr z) =
          told (ap (λ (y : List ℕ). F.size (held ++ y)) f ∙ z
          ∙ ap (λ (y : List ℕ). Total (length y)) (append_assoc held a b ∙ ap (λ (y : List ℕ). held ++ y) (sym e)))

      go : Next q behind field rest → agrees (length field) (length held) (F.size (held ++ field)) pointer ≡ true
      go (still a b e h f r) =
          part a b e h f
          (begin_tells F G.laws (held ++ a) b
          (let v = inside_whole F s w in rw (append_assoc held a b, ← e) v))
      go (ends ws behind' e f r) = full (end_to_end ws) f
      go (opens ws begun left behind' e h i f r) = full (end_to_end ws ++ begun) f

  -- skipping a packet that is too long
  skips_good : (begun : List ℕ) {b : Bool} → limit < length (begun ++ q) → Inside tail ps came begun q behind b → Next q behind field rest
      → Good F limit (skipped F limit field pointer (length q)) tail ps came (length field) rest
  skips_good begun o s (still a b e h f r) =
      let d : length field ≡ length a = ap length f in
      let i : length field < length q = omega (arith, ap length e, length-append a b) in
      let j : length q - length field ≡ length b = omega (arith, ap length e, length-append a b) in
      let s' = still_inside a b (length field) true s e h d some in
      rw (skipped_on F limit field pointer (length q) points i, j)
      (record {
        ran = record {
          whole = sym (inside_none G (length field) s (spot_whole F (inside_spot s) w) i);
          none_foreign = refl;
          none_disagrees = refl;
        };
        to_come = b;
        behind = behind;
        rest_is = r;
        stands = λ part z. skips (begun ++ a) _ refl (omega (arith, length-append begun q, length-append a b, ap length e, length-append (begun ++ a) b, length-append begun a)) s';
      })
  skips_good begun o s (ends ws behind' e f r) =
      let full = ends_full G w (inside_spot s) field few ws behind' e f in
      exact_good G (skipped F limit field pointer (length q)) ws behind' full.whole full.fit
      (skip_full G (length field) s ws behind' _ o e full.whole full.fit full.size full.there full.rest_late)
      (skipped_past F limit field pointer (length q) points (omega (arith, full.size))
      ∙ ap (λ (x : List ℕ). ended (walk_of F limit x)) (ap (drop (length q)) f ∙ drop_at q (end_to_end ws) (length q) refl))
      (after_ends ws behind' (length field) true (inside_spot s) e full.size) r
  skips_good begun o s (opens ws begun' left behind' e h i f r) =
      let full = opens_full G w (inside_spot s) field few ws begun' left behind' e i f in
      midst_good G (skipped F limit field pointer (length q)) ws begun' left behind' full.whole full.fit
      (opens_whole G w (inside_spot s) field few ws begun' left behind' e i f)
      (skip_full G (length field) s ws ((begun' ++ left) ∷ behind') _ o e full.whole full.fit full.size full.there full.rest_late)
      (skipped_past F limit field pointer (length q) points (omega (arith, full.size))
      ∙ ap (λ (x : List ℕ). ended (walk_of F limit x)) (ap (drop (length q)) f ∙ drop_at q (end_to_end ws ++ begun') (length q) refl))
      (after_opens ws begun' left behind' (length field) true (inside_spot s) e (omega (arith, full.size)) h i) r

  -- steps 3 to 5, wherever the reader stands
  pub resumed_good : (σ : State) (part : List ℕ) → Stand F limit σ part tail ps came q behind → Next q behind field rest
      → Good F limit (resumed F limit part field pointer σ) tail ps came (length field) rest
  unfolding resumed
  resumed_good σ part (hunting e l) n = rw e (hunted_good l n)
  resumed_good σ part (between e z s) n =
      rw (
        e,
        gathered_on F limit part field pointer 0 (F.size (take 0 part ++ field))
            (agrees_none (length field) 0 (F.size (take 0 part ++ field)) pointer refl (points ∙ ap (λ (x : List ℕ). called_at (length field) (length x)) z)),
      )
      (between_good part z s n)
  resumed_good σ part (gathers held e h o s) n =
      rw (e, h, gathered_on F limit part field pointer (length held) (F.size (held ++ field)) (gathers_agree held s n), h) (gathers_good held o s n)
  resumed_good σ part (skips begun b e o s) n = rw e (skips_good begun o s n)
