-- Where the sender stands in its packets: what lies behind it, whether a packet is under way and whether all of its octets so far arrived,
-- how a frame moves it on, and which packets that frame finishes.
-- Assumes nothing.
use mathlib.Core.Path.{◌≡◌, refl, ◌∙◌, sym, ap, ap₂}
use mathlib.Core.Bool.{Bool, true, false, ◌&&◌}
use mathlib.Core.List.{List, [], ◌∷◌, ◌++◌, append_assoc, append-nil}
use mathlib.Core.Logic.{◌⊎◌, inl, inr}
use Prim.Native.Nat.{ℕ, ◌+◌, ◌≤◌, ◌<◌}
use native.Mathlib.Nat.{add-zero}
use native.Mathlib.Omega.{arith}
use lib.ListN.{length, take, drop, replicate, length-append, length-replicate, replicate-append-replicate}
use lib.Seq.{append_snoc, drop_at, take-append-add}
use Rattle.packet.specs.Family.{Family, Lawful, Whole, AllWhole}
use Rattle.packet.specs.Theorems.{end_to_end}
use Rattle.walk.specs.Theorems.{Roomy}
use Rattle.demands.specs.History.{all_arrived, last_in}
use Rattle.demands.proofs.Aligned.{AllFit}
use Rattle.demands.proofs.Due.{arrived_append, all_came, none_came, take_same, long, gone, due, late_all, late_first, early_all, due_all}
use Rattle.demands.proofs.Stream.{length_end, whole_right}

-- the packets `behind` begin where the octets sent so far and q, which is to come, end
pub record Spot (tail : List ℕ) (ps : List (List ℕ)) (came : List Bool) (q : List ℕ) (behind : List (List ℕ)) : Type 0 where
  pub done : List (List ℕ)
  pub split : ps ≡ done ++ behind
  pub place : length came + length q ≡ length tail + length (end_to_end done)

-- no packet is under way: q is of the tail, or nothing
pub record Free (tail : List ℕ) (ps : List (List ℕ)) (came : List Bool) (q : List ℕ) (behind : List (List ℕ)) : Type 0 where
  pub done : List (List ℕ)
  pub split : ps ≡ done ++ behind
  pub place : length came + length q ≡ length tail + length (end_to_end done)
  pub over : (done ≡ []) ⊎ (length q ≡ 0)

-- a packet is under way: `begun` was sent of it, and q is to come; b says whether all of `begun` arrived
pub record Inside (tail : List ℕ) (ps : List (List ℕ)) (came : List Bool) (begun q : List ℕ) (behind : List (List ℕ)) (b : Bool) : Type 0 where
  pub done : List (List ℕ)
  pub split : ps ≡ done ++ (begun ++ q) ∷ behind
  pub pre : List Bool
  pub mid : List Bool
  pub came_is : came ≡ pre ++ mid
  pub place : length pre ≡ length tail + length (end_to_end done)
  pub as_many : length mid ≡ length begun
  pub arrived : all_arrived mid ≡ b
  pub some : 1 ≤ length begun
  pub more : 1 ≤ length q

longer : (came : List Bool) (D : ℕ) (c : Bool) → length (came ++ replicate D c) ≡ length came + D
longer came D c = length-append came (replicate D c) ∙ ap (λ (n : ℕ). length came + n) (length-replicate D c)

all_same : (n : ℕ) (c : Bool) → 1 ≤ n → all_arrived (replicate n c) ≡ c
all_same n true h = all_came n
all_same n false h = none_came n h

-- the packets whose last octet an arriving frame of D octets brings
abbrev pub finishes : ℕ → List ℕ → List (List ℕ) → List Bool → ℕ → List (List ℕ)
finishes limit tail ps came D = last_in limit (length came) (length came + D) (came ++ replicate D true) (length tail) ps

-- of the packets behind q those that end within an arriving frame of D octets
behind_full : (F : Family) (laws : Lawful F) (limit : ℕ) (came : List Bool) (q : List ℕ) (behind : List (List ℕ)) (D : ℕ) (ws r : List (List ℕ)) (m : ℕ) → behind ≡ ws ++ r → AllWhole F ws → AllFit limit ws → D ≡ length q + m
    → length (end_to_end ws) ≤ m
    → last_in limit (length came) (length came + D) (came ++ replicate D true) (length came + length q) behind
    ≡ ws ++ last_in limit (length came) (length came + D) (came ++ replicate D true) (length came + length q + length (end_to_end ws)) r
behind_full F laws limit came q behind D ws r m e w f d h =
    let a : ℕ = length came in
    let pre : List Bool = came ++ replicate (length q) true in
    let same : pre ++ replicate m true ≡ came ++ replicate D true =
    append_assoc came (replicate (length q) true) (replicate m true)
    ∙ ap (λ (x : List Bool). came ++ x) (replicate-append-replicate (length q) m true ∙ ap (λ (n : ℕ). replicate n true) (sym d)) in
    ap₂ (λ (c : List Bool) (x : List (List ℕ)). last_in limit a (a + D) c (a + length q) x) (sym same) e
    ∙ due_all F laws limit a (a + D) pre m (a + length q) ws r w f (longer came (length q) true) (omega arith) h (omega arith)
    ∙ ap (λ (c : List Bool). ws ++ last_in limit a (a + D) c (a + length q + length (end_to_end ws)) r) same

module _ {tail : List ℕ} {ps : List (List ℕ)} {came : List Bool} {q : List ℕ} {behind : List (List ℕ)} where
  pub free_spot : Free tail ps came q behind → Spot tail ps came q behind
  free_spot s = record { done = s.done; split = s.split; place = s.place }

  pub inside_spot : {begun : List ℕ} {b : Bool} → Inside tail ps came begun q behind b → Spot tail ps came q behind
  inside_spot {begun} s =
      let p : List ℕ = begun ++ q in
      let l : length (end_to_end (s.done ++ p ∷ [])) ≡ length (end_to_end s.done) + length p =
      length_end s.done (p ∷ []) ∙ ap (λ (x : List ℕ). length (end_to_end s.done) + length x) (append-nil p) in
      let c : length came ≡ length s.pre + length s.mid = ap length s.came_is ∙ length-append s.pre s.mid in
      record {
        done = s.done ++ p ∷ [];
        split = s.split ∙ sym (append_snoc s.done p behind);
        place = omega (arith, length-append begun q, s.place, s.as_many, l, c);
      }

  pub spot_whole : (F : Family) → Spot tail ps came q behind → AllWhole F ps → AllWhole F behind
  spot_whole F s w = whole_right F s.done behind (rw s.split at w)

  pub inside_whole : (F : Family) {begun : List ℕ} {b : Bool} → Inside tail ps came begun q behind b → AllWhole F ps → Whole F (begun ++ q)
  inside_whole F {begun} s w = let v = whole_right F s.done ((begun ++ q) ∷ behind) (rw s.split at w) in v.0

  -- the frame stays within q
  still_free : (a b : List ℕ) (D : ℕ) (c : Bool) → Free tail ps came q behind → q ≡ a ++ b → 1 ≤ length b → D ≡ length a
      → Free tail ps (came ++ replicate D c) b behind
  still_free a b D c s e h d =
      record {
        done = s.done;
        split = s.split;
        place = omega (arith, longer came D c, ap length e, length-append a b, s.place);
        over = go s.over;
      }
    where
      go : (s.done ≡ []) ⊎ (length q ≡ 0) → (s.done ≡ []) ⊎ (length b ≡ 0)
      go (inl z) = inl z
      go (inr z) = absurd (omega (arith, ap length e, length-append a b))

  pub still_inside : {begun : List ℕ} {x : Bool} (a b : List ℕ) (D : ℕ) (c : Bool) → Inside tail ps came begun q behind x → q ≡ a ++ b
      → 1 ≤ length b → D ≡ length a → 1 ≤ D → Inside tail ps (came ++ replicate D c) (begun ++ a) b behind (x && c)
  still_inside {begun} {x} a b D c s e h d i =
      record {
        done = s.done;
        split = s.split ∙ ap (λ (l : List ℕ). s.done ++ l ∷ behind) (ap (λ (l : List ℕ). begun ++ l) e ∙ sym (append_assoc begun a b));
        pre = s.pre;
        mid = s.mid ++ replicate D c;
        came_is = ap (λ (l : List Bool). l ++ replicate D c) s.came_is ∙ append_assoc s.pre s.mid (replicate D c);
        place = s.place;
        as_many = omega (arith, longer s.mid D c, length-append begun a, s.as_many);
        arrived = arrived_append s.mid (replicate D c) ∙ ap₂ (λ (m n : Bool). m && n) s.arrived (all_same D c i);
        some = omega (arith, length-append begun a, s.some);
        more = h;
      }

  -- the frame ends with a packet's end, or in a packet that it begins
  pub after_ends : (ws behind' : List (List ℕ)) (D : ℕ) (c : Bool) → Spot tail ps came q behind → behind ≡ ws ++ behind'
      → D ≡ length q + length (end_to_end ws) → Free tail ps (came ++ replicate D c) [] behind'
  after_ends ws behind' D c s e d =
      record {
        done = s.done ++ ws;
        split = s.split ∙ ap (λ (x : List (List ℕ)). s.done ++ x) e ∙ sym (append_assoc s.done ws behind');
        place = omega (arith, longer came D c, length_end s.done ws, s.place);
        over = inr refl;
      }

  pub after_opens : (ws : List (List ℕ)) (begun left : List ℕ) (behind' : List (List ℕ)) (D : ℕ) (c : Bool) → Spot tail ps came q behind
      → behind ≡ ws ++ (begun ++ left) ∷ behind' → D ≡ length q + length (end_to_end ws) + length begun → 1 ≤ length begun → 1 ≤ length left
      → Inside tail ps (came ++ replicate D c) begun left behind' c
  after_opens ws begun left behind' D c s e d h i =
      let n : ℕ = length q + length (end_to_end ws) in
      record {
        done = s.done ++ ws;
        split = s.split ∙ ap (λ (x : List (List ℕ)). s.done ++ x) e ∙ sym (append_assoc s.done ws ((begun ++ left) ∷ behind'));
        pre = came ++ replicate n c;
        mid = replicate (length begun) c;
        came_is =
            ap (λ (x : List Bool). came ++ x) (ap (λ (m : ℕ). replicate m c) d ∙ sym (replicate-append-replicate n (length begun) c))
            ∙ sym (append_assoc came (replicate n c) (replicate (length begun) c));
        place = omega (arith, longer came n c, length_end s.done ws, s.place);
        as_many = length-replicate (length begun) c;
        arrived = all_same (length begun) c h;
        some = h;
        more = i;
      }

  -- the packets that an arriving frame finishes
  module _ {F : Family} {limit : ℕ} (G : Roomy F limit) (D : ℕ) where
    -- if none is under way, those behind q
    free_skips : Free tail ps came q behind → (b : ℕ) (c : List Bool)
        → last_in limit (length came) b c (length tail) ps ≡ last_in limit (length came) b c (length came + length q) behind
    free_skips s b c = go s.over
      where
        a : ℕ
        a = length came

        go : (s.done ≡ []) ⊎ (length q ≡ 0) → last_in limit a b c (length tail) ps ≡ last_in limit a b c (a + length q) behind
        go (inl z) =
            let l : a + length q ≡ length tail = s.place ∙ ap (λ (x : List (List ℕ)). length tail + length (end_to_end x)) z ∙ add-zero (length tail) in
            ap₂ (λ (n : ℕ) (x : List (List ℕ)). last_in limit a b c n x) (sym l) (s.split ∙ ap (λ (x : List (List ℕ)). x ++ behind) z)
        go (inr z) =
            ap (λ (x : List (List ℕ)). last_in limit a b c (length tail) x) s.split
            ∙ early_all limit a b c (length tail) s.done behind (omega (arith, s.place))
            ∙ ap (λ (n : ℕ). last_in limit a b c n behind) (sym s.place)

    module _ {begun : List ℕ} {x : Bool} (s : Inside tail ps came begun q behind x) where
      came_length : length came ≡ length s.pre + length s.mid
      came_length = ap length s.came_is ∙ length-append s.pre s.mid

      inside_skips : (b : ℕ) (c : List Bool)
          → last_in limit (length came) b c (length tail) ps ≡ last_in limit (length came) b c (length s.pre) ((begun ++ q) ∷ behind)
      inside_skips b c =
          let a : ℕ = length came in
          ap (λ (x : List (List ℕ)). last_in limit a b c (length tail) x) s.split
          ∙ early_all limit a b c (length tail) s.done ((begun ++ q) ∷ behind) (omega (arith, s.place, came_length))
          ∙ ap (λ (n : ℕ). last_in limit a b c n ((begun ++ q) ∷ behind)) (sym s.place)

      -- all of the packet under way arrived exactly when its octets so far did
      inside_arrived : length q ≤ D → all_arrived (take (length (begun ++ q)) (drop (length s.pre) (came ++ replicate D true))) ≡ x
      inside_arrived h =
          let l : length (begun ++ q) ≡ length s.mid + length q = length-append begun q ∙ ap (λ (n : ℕ). n + length q) (sym s.as_many) in
          ap₂ (λ (n : ℕ) (c : List Bool). all_arrived (take n (drop (length s.pre) c)))
          l (ap (λ (c : List Bool). c ++ replicate D true) s.came_is ∙ append_assoc s.pre s.mid (replicate D true))
          ∙ ap (λ (c : List Bool). all_arrived (take (length s.mid + length q) c))
          (drop_at s.pre (s.mid ++ replicate D true) (length s.pre) refl)
          ∙ ap all_arrived (take-append-add s.mid (replicate D true) (length q))
          ∙ arrived_append s.mid (take (length q) (replicate D true))
          ∙ ap₂ (λ (m n : Bool). m && n) s.arrived (ap all_arrived (take_same (length q) D true h) ∙ all_came (length q))
          ∙ and_true x
        where
          and_true : (y : Bool) → (y && true) ≡ y
          and_true true = refl
          and_true false = refl

      inside_place : length s.pre + length (begun ++ q) ≡ length came + length q
      inside_place = omega (arith, came_length, length-append begun q, s.as_many)

      gone_full : (ws r : List (List ℕ)) (m : ℕ) → x ≡ false → behind ≡ ws ++ r → AllWhole F ws → AllFit limit ws → D ≡ length q + m
          → length (end_to_end ws) ≤ m
          → last_in limit (length came) (length came + D) (came ++ replicate D true) (length came + length q + length (end_to_end ws)) r ≡ []
          → finishes limit tail ps came D ≡ ws
      gone_full ws r m y e w f d h z =
          let a : ℕ = length came in
          let c : List Bool = came ++ replicate D true in
          inside_skips (a + D) c
          ∙ gone limit a (a + D) c (length s.pre) (begun ++ q) behind (inside_arrived (omega arith) ∙ y)
          ∙ ap (λ (n : ℕ). last_in limit a (a + D) c n behind) inside_place
          ∙ behind_full F G.laws limit came q behind D ws r m e w f d h ∙ ap (λ (l : List (List ℕ)). ws ++ l) z ∙ append-nil ws

      pub skip_full : (ws r : List (List ℕ)) (m : ℕ) → limit < length (begun ++ q) → behind ≡ ws ++ r → AllWhole F ws → AllFit limit ws
          → D ≡ length q + m → length (end_to_end ws) ≤ m
          → last_in limit (length came) (length came + D) (came ++ replicate D true) (length came + length q + length (end_to_end ws)) r ≡ []
          → finishes limit tail ps came D ≡ ws
      skip_full ws r m y e w f d h z =
          let a : ℕ = length came in
          let c : List Bool = came ++ replicate D true in
          inside_skips (a + D) c
          ∙ long limit a (a + D) c (length s.pre) (begun ++ q) behind y
          ∙ ap (λ (n : ℕ). last_in limit a (a + D) c n behind) inside_place
          ∙ behind_full F G.laws limit came q behind D ws r m e w f d h ∙ ap (λ (l : List (List ℕ)). ws ++ l) z ∙ append-nil ws

      pub held_full : (ws r : List (List ℕ)) (m : ℕ) → x ≡ true → length (begun ++ q) ≤ limit → behind ≡ ws ++ r → AllWhole F ws
          → AllFit limit ws → D ≡ length q + m → length (end_to_end ws) ≤ m
          → last_in limit (length came) (length came + D) (came ++ replicate D true) (length came + length q + length (end_to_end ws)) r ≡ []
          → finishes limit tail ps came D ≡ (begun ++ q) ∷ ws
      held_full ws r m y i e w f d h z =
          let a : ℕ = length came in
          let c : List Bool = came ++ replicate D true in
          inside_skips (a + D) c
          ∙ due limit a (a + D) c (length s.pre) (begun ++ q) behind
          (omega (arith, inside_place, s.more)) (omega (arith, inside_place)) i (inside_arrived (omega arith) ∙ y)
          ∙ ap (λ (l : List (List ℕ)). (begun ++ q) ∷ l)
          (ap (λ (n : ℕ). last_in limit a (a + D) c n behind) inside_place
          ∙ behind_full F G.laws limit came q behind D ws r m e w f d h ∙ ap (λ (l : List (List ℕ)). ws ++ l) z ∙ append-nil ws)

      pub inside_none : AllWhole F behind → D < length q → finishes limit tail ps came D ≡ []
      inside_none w h =
          let a : ℕ = length came in
          let c : List Bool = came ++ replicate D true in
          inside_skips (a + D) c ∙ late_first F G.laws limit a (a + D) c (length s.pre) (begun ++ q) behind w (omega (arith, inside_place))

-- no packet is under way, or one that has lost an octet
pub data Lost (tail : List ℕ) (ps : List (List ℕ)) (came : List Bool) (q : List ℕ) (behind : List (List ℕ)) : Type 0 where
  lost_free : Free tail ps came q behind → Lost tail ps came q behind
  lost_inside : (begun : List ℕ) → Inside tail ps came begun q behind false → Lost tail ps came q behind

module _ {tail : List ℕ} {ps : List (List ℕ)} {came : List Bool} {q : List ℕ} {behind : List (List ℕ)} where
  pub lost_spot : Lost tail ps came q behind → Spot tail ps came q behind
  lost_spot (lost_free s) = free_spot s
  lost_spot (lost_inside begun s) = inside_spot s

  pub lost_none : {F : Family} {limit : ℕ} (G : Roomy F limit) (D : ℕ) → Lost tail ps came q behind → AllWhole F behind → D < length q
      → finishes limit tail ps came D ≡ []
  lost_none {F} {limit} G D (lost_free s) w h =
      let a : ℕ = length came in
      let c : List Bool = came ++ replicate D true in
      free_skips G D s (a + D) c ∙ late_all F G.laws limit a (a + D) c (a + length q) behind w (omega arith)
  lost_none {F} {limit} G D (lost_inside begun s) w h = inside_none G D s w h

  pub lost_full : {F : Family} {limit : ℕ} (G : Roomy F limit) (D : ℕ) → Lost tail ps came q behind → (ws r : List (List ℕ)) (m : ℕ)
      → behind ≡ ws ++ r → AllWhole F ws → AllFit limit ws
      → D ≡ length q + m → length (end_to_end ws) ≤ m
      → last_in limit (length came) (length came + D) (came ++ replicate D true) (length came + length q + length (end_to_end ws)) r ≡ []
      → finishes limit tail ps came D ≡ ws
  lost_full {F} {limit} G D (lost_free s) ws r m e w f d h z =
      let a : ℕ = length came in
      let c : List Bool = came ++ replicate D true in
      free_skips G D s (a + D) c
      ∙ behind_full F G.laws limit came q behind D ws r m e w f d h ∙ ap (λ (l : List (List ℕ)). ws ++ l) z ∙ append-nil ws
  lost_full {F} {limit} G D (lost_inside begun s) ws r m e w f d h z = gone_full G D s ws r m refl e w f d h z

  pub lost_still : (a b : List ℕ) (D : ℕ) (c : Bool) → Lost tail ps came q behind → q ≡ a ++ b → 1 ≤ length b → D ≡ length a → 1 ≤ D
      → Lost tail ps (came ++ replicate D c) b behind
  lost_still a b D c (lost_free s) e h d i = lost_free (still_free a b D c s e h d)
  lost_still a b D c (lost_inside begun s) e h d i = lost_inside (begun ++ a) (still_inside a b D c s e h d i)
