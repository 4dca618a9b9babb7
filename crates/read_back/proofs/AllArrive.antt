-- Where every frame arrives: how many octets of the stream the frames carry together, and that all packets within them come out that fit.
-- Assumes nothing.
use mathlib.Core.Path.{◌≡◌, refl, ◌∙◌, sym, ap}
use mathlib.Core.Bool.{Bool, true, false, ◌&&◌}
use mathlib.Core.List.{List, [], ◌∷◌, ◌++◌, append-nil, map}
use Prim.Native.Nat.{ℕ, ◌+◌, ◌-◌, ◌≤◌}
use native.Mathlib.Nat.{add-zero, add_assoc}
use native.Mathlib.Omega.{arith}
use lib.Dec.{leb}
use lib.ListN.{length, take, drop, replicate, length-append, length-replicate, replicate-append-replicate}
use lib.Seq.{drop_at}
use borrow.Author.Tests.{le-leb}
use Rattle.octets.specs.Pick.{pick}
use Rattle.packet.specs.Size.{source, idle_of}
use Rattle.packet.specs.Theorems.{end_to_end}
use Rattle.frame.specs.declared.set_up.SetUp.{SetUp}
use Rattle.read_back.specs.Demand2.{fitting}
use Rattle.demands.specs.History.{all_arrived, arrived_whole, came_after, carried, wanted}
use Rattle.demands.specs.History.Event.{arrives}
use Rattle.demands.proofs.AllOut.{wanted_append}
use Rattle.demands.proofs.Due.{all_came, take_same}
use Rattle.read_back.proofs.Fillers.{AllIdle}

-- how many octets of the stream the frames carry together
pub total : SetUp → List (List ℕ) → ℕ
total u [] = 0
total u (f ∷ fs) = carried u f + total u fs

pub total_none : (u : SetUp) → total u [] ≡ 0
unfolding total
total_none u = refl

pub total_more : (u : SetUp) (f : List ℕ) (fs : List (List ℕ)) → total u (f ∷ fs) ≡ carried u f + total u fs
unfolding total
total_more u f fs = refl

pub total_append : (u : SetUp) (a b : List (List ℕ)) → total u (a ++ b) ≡ total u a + total u b
unfolding total
total_append u [] b = omega arith
total_append u (f ∷ a) b = let e = total_append u a b in omega arith

-- all of them came
pub came_all : (u : SetUp) (fs outs : List (List ℕ)) (n : ℕ) → length outs ≡ length fs
    → came_after u (replicate n true) fs (map arrives outs) ≡ replicate (n + total u fs) true
unfolding came_after total
came_all u [] [] n e = ap (λ (k : ℕ). replicate k true) (sym (add-zero n))
came_all u [] (o ∷ outs) n e = absurd (omega arith)
came_all u (f ∷ fs) [] n e = absurd (omega arith)
came_all u (f ∷ fs) (o ∷ outs) n e =
    ap (λ (l : List Bool). came_after u l fs (map arrives outs)) (replicate-append-replicate n (carried u f) true)
    ∙ came_all u fs outs (n + carried u f) (omega arith)
    ∙ ap (λ (k : ℕ). replicate k true) (add_assoc n (carried u f) (total u fs))

-- where all of n octets arrived
drop_same : (n s : ℕ) → s ≤ n → drop s (replicate n true) ≡ replicate (n - s) true
drop_same n s h =
    let z : s + (n - s) ≡ n = omega arith in
    ap (λ (k : ℕ). drop s (replicate k true)) (sym z)
    ∙ ap (drop s) (sym (replicate-append-replicate s (n - s) true))
    ∙ drop_at (replicate s true) (replicate (n - s) true) s (length-replicate s true)

all_there : (n s m : ℕ) → s + m ≤ n → all_arrived (take m (drop s (replicate n true))) ≡ true
all_there n s m h =
    ap (λ (l : List Bool). all_arrived (take m l)) (drop_same n s (omega arith)) ∙ ap all_arrived (take_same m (n - s) true (omega arith)) ∙ all_came m

-- idle packets give nothing
and_yes : (x : Bool) → (x && true) ≡ x
and_yes true = refl
and_yes false = refl

pub idle_none : (ps : List (List ℕ)) → AllIdle ps → wanted source ps ≡ []
unfolding wanted
idle_none [] i = refl
idle_none (p ∷ ps) i = rw i.0 (idle_none ps i.1)

idle_pick : (t : Bool) (p : List ℕ) (ps : List (List ℕ)) → AllIdle (p ∷ ps) → AllIdle (pick t (p ∷ ps) ps)
idle_pick true p ps i = i
idle_pick false p ps i = i.1

idle_arrived : (limit : ℕ) (came : List Bool) (s : ℕ) (ps : List (List ℕ)) → AllIdle ps → AllIdle (arrived_whole limit came s ps)
unfolding arrived_whole
idle_arrived limit came s [] i = tt
idle_arrived limit came s (p ∷ ps) i =
    idle_pick (leb (length p) limit && (leb (s + length p) (length came) && all_arrived (take (length p) (drop s came)))) p _
    (i.0, idle_arrived limit came (s + length p) ps i.1)

-- packets that lie within the octets that came give those that fit
pick_over : (t : Bool) (p : List ℕ) (x y : List (List ℕ)) → pick t (p ∷ (x ++ y)) (x ++ y) ≡ pick t (p ∷ x) x ++ y
pick_over true p x y = refl
pick_over false p x y = refl

within_fitting : (limit n s : ℕ) (ps gs : List (List ℕ)) → s + length (end_to_end ps) ≤ n
    → arrived_whole limit (replicate n true) s (ps ++ gs) ≡ fitting limit ps ++ arrived_whole limit (replicate n true) (s + length (end_to_end ps)) gs
unfolding arrived_whole fitting
within_fitting limit n s [] gs h = ap (λ (k : ℕ). arrived_whole limit (replicate n true) k gs) (sym (add-zero s))
within_fitting limit n s (p ∷ ps) gs h =
    let l = length-append p (end_to_end ps) in
    let z : s + length p + length (end_to_end ps) ≡ s + length (p ++ end_to_end ps) = omega arith in
    rw (
      length-replicate n true,
      le-leb (s + length p) n (omega arith),
      all_there n s (length p) (omega arith),
      and_yes (leb (length p) limit),
      within_fitting limit n (s + length p) ps gs (omega arith),
      z,
    )
    (pick_over (leb (length p) limit) p (fitting limit ps) _)

-- those that fit of the ones that are not idle
wanted_fitting : (limit : ℕ) (ps : List (List ℕ)) → wanted source (fitting limit ps) ≡ fitting limit (wanted source ps)
unfolding wanted fitting
wanted_fitting limit [] = refl
wanted_fitting limit (p ∷ ps) = go (leb (length p) limit) refl (idle_of p) refl (wanted_fitting limit ps)
  where
    go : (t : Bool) → leb (length p) limit ≡ t → (i : Bool) → idle_of p ≡ i → wanted source (fitting limit ps) ≡ fitting limit (wanted source ps)
        → wanted source (pick t (p ∷ fitting limit ps) (fitting limit ps)) ≡ fitting limit (pick i (wanted source ps) (p ∷ wanted source ps))
    go true e true j on = rw j on
    go true e false j on = rw (j, e) (ap (λ (l : List (List ℕ)). p ∷ l) on)
    go false e true j on = on
    go false e false j on = rw e on

pub fitting_same : (limit : ℕ) (a b : List (List ℕ)) → wanted source a ≡ wanted source b → wanted source (fitting limit a) ≡ wanted source (fitting limit b)
fitting_same limit a b e = wanted_fitting limit a ∙ ap (fitting limit) e ∙ sym (wanted_fitting limit b)

-- idle packets behind change nothing
pub idle_behind : (a b : List (List ℕ)) → AllIdle b → wanted source (a ++ b) ≡ wanted source a
idle_behind a b i =
    wanted_append source a b ∙ ap (λ (x : List (List ℕ)). wanted source a ++ x) (idle_none b i) ∙ append-nil (wanted source a)

-- n octets that came carry, from place s on, all packets that are not idle: all are idle, or all but idle ones at the end lie within
pub data Carries (s n : ℕ) (ps : List (List ℕ)) : Type 0 where
  only_idle : AllIdle ps → Carries s n ps
  as_far : (front back : List (List ℕ)) → ps ≡ front ++ back → AllIdle back → s + length (end_to_end front) ≤ n → Carries s n ps

-- so all come out that fit
pub all_carried : (limit : ℕ) {s n : ℕ} {ps : List (List ℕ)} → Carries s n ps
    → wanted source (arrived_whole limit (replicate n true) s ps) ≡ wanted source (fitting limit ps)
unfolding fitting wanted
all_carried limit {s} {n} {ps} (only_idle i) =
    idle_none (arrived_whole limit (replicate n true) s ps) (idle_arrived limit (replicate n true) s ps i) ∙ sym (fitting_same limit ps [] (idle_none ps i))
all_carried limit {s} {n} (as_far front back e i h) =
    ap (λ (x : List (List ℕ)). wanted source (arrived_whole limit (replicate n true) s x)) e
    ∙ ap (wanted source) (within_fitting limit n s front back h)
    ∙ idle_behind (fitting limit front) (arrived_whole limit (replicate n true) (s + length (end_to_end front)) back)
    (idle_arrived limit (replicate n true) (s + length (end_to_end front)) back i)
    ∙ sym (fitting_same limit (front ++ back) front (idle_behind front back i))
    ∙ ap (λ (x : List (List ℕ)). wanted source (fitting limit x)) (sym e)
