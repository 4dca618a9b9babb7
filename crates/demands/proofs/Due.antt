-- Which packets have their last octet in a frame, by their places in the stream; and what whole packets give to output and counts.
-- Assumes nothing.
use mathlib.Core.Path.{◌≡◌, refl, ◌∙◌, sym, ap, ap₂}
use mathlib.Core.Bool.{Bool, true, false, ◌&&◌}
use mathlib.Core.List.{List, [], ◌∷◌, ◌++◌, append_assoc}
use Prim.Native.Nat.{ℕ, zero, suc, ◌+◌, ◌-◌, ◌≤◌, ◌<◌}
use native.Mathlib.Nat.{add-zero}
use native.Mathlib.Omega.{arith}
use lib.Dec.{ltb, leb}
use lib.ListN.{length, take, drop, replicate, length-append, length-replicate, replicate-append-replicate}
use lib.Seq.{drop_at}
use borrow.Author.Tests.{lt-ltb, le-ltb, le-leb, lt-leb}
use Rattle.octets.specs.Pick.{pick}
use Rattle.packet.specs.Family.{Family, Lawful, AllWhole}
use Rattle.packet.specs.Theorems.{end_to_end}
use Rattle.walk.specs.declared.walking.Tally.{Tally}
use Rattle.walk.specs.Walk.{handed, handed_all, one_idle, one_delivered, tallied, tallied_all}
use Rattle.demands.specs.History.{all_arrived, last_in, wanted, unwanted}
use Rattle.demands.proofs.Aligned.{AllFit}
use Rattle.demands.proofs.Stream.{whole_some}

-- octets that arrived
pub arrived_append : (a b : List Bool) → all_arrived (a ++ b) ≡ (all_arrived a && all_arrived b)
unfolding all_arrived
arrived_append [] b = refl
arrived_append (true ∷ a) b = arrived_append a b
arrived_append (false ∷ a) b = refl

pub all_came : (n : ℕ) → all_arrived (replicate n true) ≡ true
unfolding all_arrived
all_came zero = refl
all_came (suc n) = all_came n

pub none_came : (n : ℕ) → 1 ≤ n → all_arrived (replicate n false) ≡ false
unfolding all_arrived
none_came zero h = absurd (omega arith)
none_came (suc n) h = refl

pub take_same : {A : Type 0} (n m : ℕ) (x : A) → n ≤ m → take n (replicate m x) ≡ replicate n x
take_same zero m x h = refl
take_same (suc n) zero x h = absurd (omega arith)
take_same (suc n) (suc m) x h = ap (λ (l : List _). x ∷ l) (take_same n m x (omega arith))

-- one packet at place s
not_second : {A : Type 0} (x y z : Bool) (u v : A) → y ≡ false → pick ((x && y) && z) u v ≡ v
not_second true y z u v e = rw e
not_second false y z u v e = refl

not_third : {A : Type 0} (x y z : Bool) (u v : A) → y ≡ false → pick (x && (y && z)) u v ≡ v
not_third true y z u v e = rw e
not_third false y z u v e = refl

not_fourth : {A : Type 0} (x y z : Bool) (u v : A) → z ≡ false → pick (x && (y && z)) u v ≡ v
not_fourth true true z u v e = rw e
not_fourth true false z u v e = refl
not_fourth false y z u v e = refl

module _ (limit a b : ℕ) (came : List Bool) (s : ℕ) (p : List ℕ) (ps : List (List ℕ)) where
  pub early : s + length p ≤ a → last_in limit a b came s (p ∷ ps) ≡ last_in limit a b came (s + length p) ps
  unfolding last_in
  early h = rw (le-ltb a (s + length p) h)

  pub late : b < s + length p → last_in limit a b came s (p ∷ ps) ≡ last_in limit a b came (s + length p) ps
  unfolding last_in
  late h = not_second (ltb a (s + length p)) (leb (s + length p) b) _ _ _ (lt-leb (s + length p) b h)

  pub long : limit < length p → last_in limit a b came s (p ∷ ps) ≡ last_in limit a b came (s + length p) ps
  unfolding last_in
  long h = not_third (ltb a (s + length p) && leb (s + length p) b) (leb (length p) limit) _ _ _ (lt-leb (length p) limit h)

  pub gone : all_arrived (take (length p) (drop s came)) ≡ false → last_in limit a b came s (p ∷ ps) ≡ last_in limit a b came (s + length p) ps
  unfolding last_in
  gone h = not_fourth (ltb a (s + length p) && leb (s + length p) b) (leb (length p) limit) _ _ _ h

  pub due : a < s + length p → s + length p ≤ b → length p ≤ limit → all_arrived (take (length p) (drop s came)) ≡ true
      → last_in limit a b came s (p ∷ ps) ≡ p ∷ last_in limit a b came (s + length p) ps
  unfolding last_in
  due h i j k = rw (lt-ltb a (s + length p) h, le-leb (s + length p) b i, le-leb (length p) limit j, k)

-- packets behind place b, and packets up to place a
pub late_all : (F : Family) (laws : Lawful F) (limit a b : ℕ) (came : List Bool) (s : ℕ) (ps : List (List ℕ)) → AllWhole F ps → b ≤ s
    → last_in limit a b came s ps ≡ []
unfolding last_in
late_all F laws limit a b came s [] w h = refl
late_all F laws limit a b came s (p ∷ ps) w h =
    late limit a b came s p ps (omega (arith, whole_some F laws p w.0)) ∙ late_all F laws limit a b came (s + length p) ps w.1 (omega arith)

pub late_first : (F : Family) (laws : Lawful F) (limit a b : ℕ) (came : List Bool) (s : ℕ) (p : List ℕ) (ps : List (List ℕ)) → AllWhole F ps
    → b < s + length p
    → last_in limit a b came s (p ∷ ps) ≡ []
late_first F laws limit a b came s p ps w h = late limit a b came s p ps h ∙ late_all F laws limit a b came (s + length p) ps w (omega arith)

pub early_all : (limit a b : ℕ) (came : List Bool) (s : ℕ) (ds ps : List (List ℕ)) → s + length (end_to_end ds) ≤ a
    → last_in limit a b came s (ds ++ ps) ≡ last_in limit a b came (s + length (end_to_end ds)) ps
early_all limit a b came s [] ps h = ap (λ (n : ℕ). last_in limit a b came n ps) (sym (add-zero s))
early_all limit a b came s (d ∷ ds) ps h =
    let l = length-append d (end_to_end ds) in
    early limit a b came s d (ds ++ ps) (omega arith) ∙ early_all limit a b came (s + length d) ds ps (omega arith)
    ∙ ap (λ (n : ℕ). last_in limit a b came n ps) (omega arith)

-- whole packets that lie where everything arrived
pub due_all : (F : Family) (laws : Lawful F) (limit a b : ℕ) (pre : List Bool) (m s : ℕ) (ws ps : List (List ℕ)) → AllWhole F ws
    → AllFit limit ws → length pre ≡ s → a ≤ s
    → length (end_to_end ws) ≤ m → s + length (end_to_end ws) ≤ b
    → last_in limit a b (pre ++ replicate m true) s (ws ++ ps) ≡ ws ++ last_in limit a b (pre ++ replicate m true) (s + length (end_to_end ws)) ps
due_all F laws limit a b pre m s [] ps w f e h i j = ap (λ (n : ℕ). last_in limit a b (pre ++ replicate m true) n ps) (sym (add-zero s))
due_all F laws limit a b pre m s (p ∷ ws) ps w f e h i j =
    let l = length-append p (end_to_end ws) in
    let k = whole_some F laws p w.0 in
    let n : length p + (m - length p) ≡ m = omega arith in
    let came : List Bool = pre ++ replicate m true in
    let same : pre ++ replicate (length p) true ++ replicate (m - length p) true ≡ came =
    append_assoc pre (replicate (length p) true) (replicate (m - length p) true)
    ∙ ap (λ (x : List Bool). pre ++ x) (replicate-append-replicate (length p) (m - length p) true ∙ ap (λ (x : ℕ). replicate x true) n) in
    let there : all_arrived (take (length p) (drop s came)) ≡ true =
    ap (λ (x : List Bool). all_arrived (take (length p) x)) (drop_at pre (replicate m true) s e)
    ∙ ap all_arrived (take_same (length p) m true (omega arith)) ∙ all_came (length p) in
    let more = due_all F laws limit a b (pre ++ replicate (length p) true) (m - length p) (s + length p) ws ps w.1 f.1
    (length-append pre (replicate (length p) true) ∙ ap₂ (λ (x y : ℕ). x + y) e (length-replicate (length p) true))
    (omega arith) (omega arith) (omega arith) in
    due limit a b came s p (ws ++ ps) (omega arith) (omega arith) f.0 there
    ∙ ap (λ (x : List (List ℕ)). p ∷ x)
    (ap (λ (c : List Bool). last_in limit a b c (s + length p) (ws ++ ps)) (sym same) ∙ more
    ∙ ap₂ (λ (c : List Bool) (n : ℕ). ws ++ last_in limit a b c n ps) same (omega arith))

-- what whole packets give to the output and to the counts
pub handed_wanted : (F : Family) (ws : List (List ℕ)) → handed_all F ws ≡ end_to_end (wanted F ws)
unfolding handed_all handed wanted
handed_wanted F [] = refl
handed_wanted F (p ∷ ws) = go (F.idle p) (handed_wanted F ws)
  where
    go : (b : Bool) → handed_all F ws ≡ end_to_end (wanted F ws) → pick b [] p ++ handed_all F ws ≡ end_to_end (pick b (wanted F ws) (p ∷ wanted F ws))
    go true h = h
    go false h = ap (λ (l : List ℕ). p ++ l) h

pub tally_wanted : (F : Family) (t : Tally) (ws : List (List ℕ)) → (tallied_all F t ws).delivered ≡ t.delivered + length (wanted F ws)
unfolding tallied_all tallied wanted
tally_wanted F t [] = sym (add-zero t.delivered)
tally_wanted F t (p ∷ ws) =
    tally_wanted F (pick (F.idle p) (one_idle t) (one_delivered t (length p))) ws ∙ go (F.idle p)
  where
    go : (b : Bool) → (pick {A = Tally} b (one_idle t) (one_delivered t (length p))).delivered + length (wanted F ws)
        ≡ t.delivered + length (pick b (wanted F ws) (p ∷ wanted F ws))
    go true = refl
    go false = omega arith

pub tally_unwanted : (F : Family) (t : Tally) (ws : List (List ℕ)) → (tallied_all F t ws).idle ≡ t.idle + length (unwanted F ws)
unfolding tallied_all tallied unwanted
tally_unwanted F t [] = sym (add-zero t.idle)
tally_unwanted F t (p ∷ ws) =
    tally_unwanted F (pick (F.idle p) (one_idle t) (one_delivered t (length p))) ws ∙ go (F.idle p)
  where
    go : (b : Bool) → (pick {A = Tally} b (one_idle t) (one_delivered t (length p))).idle + length (unwanted F ws)
        ≡ t.idle + length (pick b (p ∷ unwanted F ws) (unwanted F ws))
    go true = omega arith
    go false = refl
