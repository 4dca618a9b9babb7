-- What is due in all calls together: each packet that lies within the octets sent and all of whose octets arrived, once and in order.
-- Assumes nothing.
use mathlib.Core.Path.{◌≡◌, refl, ◌∙◌, sym, ap}
use mathlib.Core.Bool.{Bool, true, false, ◌&&◌}
use mathlib.Core.List.{List, [], ◌∷◌, ◌++◌, append_assoc, append-nil}
use Prim.Native.Nat.{ℕ, zero, suc, ◌+◌, ◌-◌, ◌≤◌, ◌<◌}
use native.Mathlib.Decide.{dec_lt}
use native.Mathlib.Omega.{arith}
use lib.Dec.{leb}
use lib.ListN.{length, get_or, take, drop, replicate, length-append, length-drop, length-replicate, get_or-replicate}
use lib.Seq.{drop-append-le, take-append-le, get_or-drop, get_or-append-add}
use borrow.Author.Tests.{lt-ltb, le-leb}
use Rattle.octets.specs.Pick.{pick}
use Rattle.packet.specs.Family.{Family, Lawful, AllWhole}
use Rattle.frame.specs.declared.set_up.SetUp.{SetUp}
use Rattle.demands.specs.History.{Event, all_arrived, arrived_whole, came_after, carried, last_in, wanted}
use Rattle.demands.specs.History.Event.{lost, arrives, other}
use Rattle.demands.proofs.Due.{early, late, gone, late_all}
use Rattle.demands.proofs.Stream.{whole_some}

-- a packet at place s fits, and all of it came
abbrev fits_and_came : ℕ → List Bool → ℕ → List ℕ → Bool
fits_and_came limit came s p = leb (length p) limit && all_arrived (take (length p) (drop s came))

-- so a packet that ends behind place a and not behind place b is due
module _ (limit a b : ℕ) (came : List Bool) (s : ℕ) (p : List ℕ) (ps : List (List ℕ)) where
  ends_in : a < s + length p → s + length p ≤ b
      → last_in limit a b came s (p ∷ ps)
      ≡ pick (fits_and_came limit came s p) (p ∷ last_in limit a b came (s + length p) ps) (last_in limit a b came (s + length p) ps)
  unfolding last_in
  ends_in h i = rw (lt-ltb a (s + length p) h, le-leb (s + length p) b i)

-- none ends
none_ends : (limit a b : ℕ) (came : List Bool) (s : ℕ) (ps : List (List ℕ)) → b ≤ a → last_in limit a b came s ps ≡ []
unfolding last_in
none_ends limit a b came s [] h = refl
none_ends limit a b came s (p ∷ ps) h = go (dec_lt b (s + length p)) (none_ends limit a b came (s + length p) ps h)
  where
    go : Dec (b < s + length p) → last_in limit a b came (s + length p) ps ≡ [] → last_in limit a b came s (p ∷ ps) ≡ []
    go (yes i) on = late limit a b came s p ps i ∙ on
    go (no i) on = early limit a b came s p ps (omega arith) ∙ on

-- two stretches one behind the other
pick_front : (t : Bool) (p : List ℕ) (x y z : List (List ℕ)) → x ++ y ≡ z → pick t (p ∷ x) x ++ y ≡ pick t (p ∷ z) z
pick_front true p x y z e = ap (λ (l : List (List ℕ)). p ∷ l) e
pick_front false p x y z e = e

pick_behind : (t : Bool) (p : List ℕ) (x y z : List (List ℕ)) → x ≡ [] → x ++ y ≡ z → x ++ pick t (p ∷ y) y ≡ pick t (p ∷ z) z
pick_behind t p x y z n e = rw n (go t (rw n at e))
  where
    go : (t : Bool) → y ≡ z → pick t (p ∷ y) y ≡ pick t (p ∷ z) z
    go true e = ap (λ (l : List (List ℕ)). p ∷ l) e
    go false e = e

module _ (F : Family) (laws : Lawful F) (limit a b c : ℕ) (h : a ≤ b) (i : b ≤ c) (came : List Bool) where
  pub joined : (s : ℕ) (ps : List (List ℕ)) → AllWhole F ps → last_in limit a b came s ps ++ last_in limit b c came s ps ≡ last_in limit a c came s ps
  unfolding last_in
  joined s [] w = refl
  joined s (p ∷ ps) w = go (dec_lt a (s + length p)) (dec_lt b (s + length p)) (dec_lt c (s + length p)) (joined (s + length p) ps w.1)
    where
      go : Dec (a < s + length p) → Dec (b < s + length p) → Dec (c < s + length p)
          → last_in limit a b came (s + length p) ps ++ last_in limit b c came (s + length p) ps ≡ last_in limit a c came (s + length p) ps
          → last_in limit a b came s (p ∷ ps) ++ last_in limit b c came s (p ∷ ps) ≡ last_in limit a c came s (p ∷ ps)
      go (no j) k l on =
          rw (early limit a b came s p ps (omega arith), early limit b c came s p ps (omega arith), early limit a c came s p ps (omega arith)) on
      go (yes j) (no k) l on =
          rw (ends_in limit a b came s p ps j (omega arith), early limit b c came s p ps (omega arith), ends_in limit a c came s p ps j (omega arith))
          (pick_front (fits_and_came limit came s p) p _ _ _ on)
      go (yes j) (yes k) (no l) on =
          rw (late limit a b came s p ps k, ends_in limit b c came s p ps k (omega arith), ends_in limit a c came s p ps j (omega arith))
          (pick_behind (fits_and_came limit came s p) p _ _ _ (late_all F laws limit a b came (s + length p) ps w.1 (omega arith)) on)
      go (yes j) (yes k) (yes l) on =
          rw (late limit a b came s p ps k, late limit b c came s p ps l, late limit a c came s p ps l) on

-- octets that are sent later change nothing
prefix_same : (came more : List Bool) (s n : ℕ) → s + n ≤ length came → take n (drop s (came ++ more)) ≡ take n (drop s came)
prefix_same came more s n h =
    ap (take n) (drop-append-le s came more (omega arith)) ∙ take-append-le n (drop s came) more (simp length-drop (omega arith))

sent_later : (limit a b : ℕ) (came more : List Bool) (s : ℕ) (ps : List (List ℕ)) → b ≤ length came
    → last_in limit a b (came ++ more) s ps ≡ last_in limit a b came s ps
unfolding last_in
sent_later limit a b came more s [] h = refl
sent_later limit a b came more s (p ∷ ps) h = go (dec_lt b (s + length p)) (sent_later limit a b came more (s + length p) ps h)
  where
    go : Dec (b < s + length p) → last_in limit a b (came ++ more) (s + length p) ps ≡ last_in limit a b came (s + length p) ps
        → last_in limit a b (came ++ more) s (p ∷ ps) ≡ last_in limit a b came s (p ∷ ps)
    go (yes i) on = late limit a b (came ++ more) s p ps i ∙ on ∙ sym (late limit a b came s p ps i)
    go (no i) on = rw (on, prefix_same came more s (length p) (omega arith))

-- an octet that did not come
and_no : (x : Bool) → (x && false) ≡ false
and_no true = refl
and_no false = refl

not_all : (n : ℕ) (l : List Bool) (i : ℕ) → i < n → get_or l i true ≡ false → all_arrived (take n l) ≡ false
unfolding all_arrived
not_all zero l i h e = absurd (omega arith)
not_all (suc n) [] i h e = e
not_all (suc n) (b ∷ l) zero h e = rw e
not_all (suc n) (b ∷ l) (suc i) h e = rw (not_all n l i (omega arith) e) (and_no b)

-- a packet whose last octet is lost
last_lost : (came : List Bool) (c s n : ℕ) → 1 ≤ n → length came < s + n → s + n ≤ length came + c
    → all_arrived (take n (drop s (came ++ replicate c false))) ≡ false
last_lost came c s n h i j =
    let k : s + (n - 1) ≡ length came + (s + n - 1 - length came) = omega arith in
    not_all n (drop s (came ++ replicate c false)) (n - 1) (omega arith)
    (get_or-drop s (came ++ replicate c false) (n - 1) true ∙ ap (λ (x : ℕ). get_or (came ++ replicate c false) x true) k
    ∙ get_or-append-add came (replicate c false) (s + n - 1 - length came) true
    ∙ get_or-replicate c (s + n - 1 - length came) false true (omega arith))

module _ (F : Family) (laws : Lawful F) (limit : ℕ) where
  -- a frame that is lost finishes nothing
  none_lost : (came : List Bool) (c s : ℕ) (ps : List (List ℕ)) → AllWhole F ps
      → last_in limit (length came) (length came + c) (came ++ replicate c false) s ps ≡ []
  unfolding last_in
  none_lost came c s [] w = refl
  none_lost came c s (p ∷ ps) w =
      go (dec_lt (length came) (s + length p)) (dec_lt (length came + c) (s + length p)) (none_lost came c (s + length p) ps w.1)
    where
      go : Dec (length came < s + length p) → Dec (length came + c < s + length p)
          → last_in limit (length came) (length came + c) (came ++ replicate c false) (s + length p) ps ≡ []
          → last_in limit (length came) (length came + c) (came ++ replicate c false) s (p ∷ ps) ≡ []
      go (no h) i on = early limit (length came) (length came + c) (came ++ replicate c false) s p ps (omega arith) ∙ on
      go (yes h) (yes i) on = late limit (length came) (length came + c) (came ++ replicate c false) s p ps i ∙ on
      go (yes h) (no i) on =
          gone limit (length came) (length came + c) (came ++ replicate c false) s p ps
          (last_lost came c s (length p) (whole_some F laws p w.0) h (omega arith))
          ∙ on

  -- what is due up to the end of all octets sent came whole
  pub arrived_whole_lem : (came : List Bool) (s : ℕ) (ps : List (List ℕ)) → AllWhole F ps
      → last_in limit 0 (length came) came s ps ≡ arrived_whole limit came s ps
  unfolding last_in arrived_whole
  arrived_whole_lem came s [] w = refl
  arrived_whole_lem came s (p ∷ ps) w =
      let h = whole_some F laws p w.0 in
      rw (lt-ltb 0 (s + length p) (omega arith), arrived_whole_lem came (s + length p) ps w.1)
      (ap (λ (t : Bool). pick t (p ∷ arrived_whole limit came (s + length p) ps) (arrived_whole limit came (s + length p) ps))
      (in_turn (leb (s + length p) (length came)) (leb (length p) limit) _))
    where
      in_turn : (x y z : Bool) → (x && (y && z)) ≡ (y && (x && z))
      in_turn true true z = refl
      in_turn true false z = refl
      in_turn false true z = refl
      in_turn false false z = refl

-- the octets sent in a history stand behind those before it
came_more : (u : SetUp) (es : List Event) (fs : List (List ℕ)) (came : List Bool) → (more : List Bool) × (came_after u came fs es ≡ came ++ more)
unfolding came_after
came_more u [] fs came = ([], sym (append-nil came))
came_more u (lost ∷ es) [] came = ([], sym (append-nil came))
came_more u (lost ∷ es) (f ∷ fs) came =
    let m = came_more u es fs (came ++ replicate (carried u f) false) in
    (replicate (carried u f) false ++ m.0, m.1 ∙ append_assoc came _ m.0)
came_more u (arrives out ∷ es) [] came = ([], sym (append-nil came))
came_more u (arrives out ∷ es) (f ∷ fs) came =
    let m = came_more u es fs (came ++ replicate (carried u f) true) in
    (replicate (carried u f) true ++ m.0, m.1 ∙ append_assoc came _ m.0)
came_more u (other u' lent out f ∷ es) fs came = came_more u es fs came

-- what is due from the octets sent so far to the end of a history
abbrev pub due_from : ℕ → SetUp → ℕ → List (List ℕ) → List Bool → List (List ℕ) → List Event → List (List ℕ)
due_from limit u s ps came fs es = last_in limit (length came) (length (came_after u came fs es)) (came_after u came fs es) s ps

pub none_yet : (limit a : ℕ) (came : List Bool) (s : ℕ) (ps : List (List ℕ)) → last_in limit a a came s ps ≡ []
none_yet limit a came s ps = none_ends limit a a came s ps (omega arith)

module _ (F : Family) (laws : Lawful F) (limit : ℕ) (u : SetUp) (s : ℕ) (ps : List (List ℕ)) (w : AllWhole F ps) (came : List Bool) (c : ℕ)
    (fs : List (List ℕ)) (es : List Event) where
  -- what the next c octets finish, and then what is due behind them
  pub due_on : (b : Bool)
      → last_in limit (length came) (length came + c) (came ++ replicate c b) s ps ++ due_from limit u s ps (came ++ replicate c b) fs es
      ≡ last_in limit (length came) (length (came_after u (came ++ replicate c b) fs es)) (came_after u (came ++ replicate c b) fs es) s ps
  due_on b =
      let now = came ++ replicate c b in
      let m = came_more u es fs now in
      let l : length now ≡ length came + c = length-append came (replicate c b) ∙ ap (λ (n : ℕ). length came + n) (length-replicate c b) in
      let n : length (came_after u now fs es) ≡ length now + length m.0 = ap length m.1 ∙ length-append now m.0 in
      let first : last_in limit (length came) (length now) (came_after u now fs es) s ps ≡ last_in limit (length came) (length came + c) now s ps =
      ap (λ (x : List Bool). last_in limit (length came) (length now) x s ps) m.1
      ∙ sent_later limit (length came) (length now) now m.0 s ps (omega arith)
      ∙ ap (λ (x : ℕ). last_in limit (length came) x now s ps) l in
      ap (λ (x : List (List ℕ)). x ++ due_from limit u s ps now fs es) (sym first)
      ∙ joined F laws limit (length came) (length now) (length (came_after u now fs es)) (omega arith) (omega arith) (came_after u now fs es) s ps w

  -- behind a frame that is lost
  pub due_behind : due_from limit u s ps (came ++ replicate c false) fs es
      ≡ last_in limit (length came) (length (came_after u (came ++ replicate c false) fs es)) (came_after u (came ++ replicate c false) fs es) s ps
  due_behind =
      sym (ap (λ (x : List (List ℕ)). x ++ due_from limit u s ps (came ++ replicate c false) fs es) (none_lost F laws limit came c s ps w)) ∙ due_on false

-- the wanted ones
pub wanted_append : (F : Family) (a b : List (List ℕ)) → wanted F (a ++ b) ≡ wanted F a ++ wanted F b
unfolding wanted
wanted_append F [] b = refl
wanted_append F (p ∷ a) b = go (F.idle p) (wanted_append F a b)
  where
    go : (t : Bool) → wanted F (a ++ b) ≡ wanted F a ++ wanted F b
        → pick t (wanted F (a ++ b)) (p ∷ wanted F (a ++ b)) ≡ pick t (wanted F a) (p ∷ wanted F a) ++ wanted F b
    go true e = e
    go false e = ap (λ (l : List (List ℕ)). p ∷ l) e
