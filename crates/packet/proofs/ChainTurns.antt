-- A run as a chain of whole packets, one turn at a time: the chain test, the distance, and what each turn of a loop over them keeps.
-- Assumes nothing.
use mathlib.Core.Path.{◌≡◌, refl, ◌∙◌, sym, ap}
use mathlib.Core.Bool.{Bool, true, false}
use mathlib.Core.List.{List}
use Rattle.std.specs.Prelude.{Some, None, unwrap_or, IsSome}
use Prim.Native.Nat.{ℕ, zero, suc, ◌+◌, ◌-◌, ◌≤◌, ◌<◌}
use native.Mathlib.Decide.{dec_lt, ℕ_discrete}
use native.Mathlib.Omega.{arith}
use lib.Dec.{eqb, leb}
use lib.ListN.{length, take, drop, length-drop}
use lib.Seq.{take_all, drop-drop}
use borrow.Author.Tests.{eq-eqb, ne_eqb, le-leb, lt-leb, leb-true}
use Rattle.octets.specs.Pick.{pick}
use Rattle.packet.specs.declared.source.Size.{Size}
use Rattle.packet.specs.declared.source.Size.TheVariants.{Wait, Foreign, Total}
use Rattle.packet.specs.Chain.{whole_in, front_of, option_of, chain_in, chain_of, distance_in, distance_of}
use Rattle.packet.specs.Size.{size_of}
use Rattle.packet.proofs.Laws.{source_lawful}

-- the front of a run, case by case
module _ (d : List ℕ) where
  pub front_waits : size_of d ≡ Wait → None ≡ option_of (front_of d)
  unfolding front_of whole_in option_of
  front_waits e = rw e

  module _ (n : ℕ) (e : size_of d ≡ Total n) where
    pub front_whole : n ≤ length d → n ≡ front_of d
    unfolding front_of whole_in
    front_whole h = rw (e, le-leb n (length d) h)

    pub front_some : n ≤ length d → Some n ≡ option_of (front_of d)
    unfolding option_of
    front_some h = let l : 7 ≤ n = source_lawful.total_least d n e in
        rw (← front_whole h, ne_eqb n 0 (λ z. omega arith))

    pub front_cut : length d < n → None ≡ option_of (front_of d)
    unfolding front_of whole_in option_of
    front_cut h = rw (e, lt-leb n (length d) h)

-- what an option of octets tells
pub option_some : (k n : ℕ) → Some n ≡ option_of k → (n ≡ k) × (1 ≤ n)
unfolding option_of
option_some k n e = go (ℕ_discrete k 0)
  where
    go : Dec (k ≡ 0) → (n ≡ k) × (1 ≤ n)
    go (yes z) = let f : Some n ≡ None = rw (eq-eqb k 0 z) at e in cc
    go (no z) =
        let f : Some n ≡ Some k = rw (ne_eqb k 0 z) at e in
        let t : n ≡ k = cc in
        (t, omega arith)

pub option_none : (k : ℕ) → None ≡ option_of k → k ≡ 0
unfolding option_of
option_none k e = go (ℕ_discrete k 0)
  where
    go : Dec (k ≡ 0) → k ≡ 0
    go (yes z) = z
    go (no z) = let f : None ≡ Some k = rw (ne_eqb k 0 z) at e in cc

pub option_or : (k : ℕ) → unwrap_or (option_of k) 0 ≡ k
unfolding option_of
option_or k = go (ℕ_discrete k 0)
  where
    go : Dec (k ≡ 0) → unwrap_or (option_of k) 0 ≡ k
    go (yes z) = rw (eq-eqb k 0 z) (sym z)
    go (no z) = rw (ne_eqb k 0 z)

-- a whole packet at the front: its total is there
pub record Stands (d : List ℕ) (n : ℕ) : Type 0 where
  pub told : size_of d ≡ Total n
  pub there : n ≤ length d
  pub least : 7 ≤ n

whole_in_lem : (s : Size) (k n : ℕ) → n ≡ whole_in s k → 1 ≤ n → (s ≡ Total n) × (n ≤ k)
unfolding whole_in
whole_in_lem Wait k n e h = absurd (omega arith)
whole_in_lem Foreign k n e h = absurd (omega arith)
whole_in_lem (Total t) k n e h = go (leb t k) refl e
  where
    go : (b : Bool) → leb t k ≡ b → n ≡ pick b t 0 → (Total t ≡ Total n) × (n ≤ k)
    go true p q = (ap Total (sym q), omega (arith, leb-true t k p))
    go false p q = absurd (omega arith)

pub stands : (d : List ℕ) → 1 ≤ front_of d → Stands d (front_of d)
unfolding front_of
stands d h =
    let w = whole_in_lem (size_of d) (length d) (front_of d) refl h in
    record { told = w.0; there = w.1; least = source_lawful.total_least d (front_of d) w.0 }

-- the run behind the packet at the front
abbrev pub behind : List ℕ → List ℕ
behind d = drop (front_of d) d

shorter : (d : List ℕ) → 1 ≤ front_of d → length (behind d) < length d
shorter d h = let s = stands d h in simp length-drop (omega arith)

-- what holds of a run that begins with no whole packet, and goes from behind a whole packet to its front, holds of every run
run_within : (P : List ℕ → Type 0) → ((d : List ℕ) → front_of d ≡ 0 → P d) → ((d : List ℕ) → 1 ≤ front_of d → P (behind d) → P d)
    → (f : ℕ) (d : List ℕ) → length d < f → P d
run_within P none whole zero d h = absurd (omega arith)
run_within P none whole (suc f) d h =
    go (ℕ_discrete (front_of d) 0) (λ s. run_within P none whole f (behind d) (omega (arith, shorter d s)))
  where
    go : Dec (front_of d ≡ 0) → (1 ≤ front_of d → P (behind d)) → P d
    go (yes e) on = none d e
    go (no e) on = let s : 1 ≤ front_of d = omega arith in whole d s (on s)

pub run_ind : (P : List ℕ → Type 0) → ((d : List ℕ) → front_of d ≡ 0 → P d) → ((d : List ℕ) → 1 ≤ front_of d → P (behind d) → P d)
    → (d : List ℕ) → P d
run_ind P none whole d = run_within P none whole (suc (length d)) d (omega arith)

-- a turn needs of the rest its answer behind a whole packet, and enough turns give one answer
unless : {A : Type 0} (n : ℕ) (a x y : A) → (1 ≤ n → x ≡ y) → pick (eqb n 0) a x ≡ pick (eqb n 0) a y
unless n a x y h = go (ℕ_discrete n 0)
  where
    go : Dec (n ≡ 0) → pick (eqb n 0) a x ≡ pick (eqb n 0) a y
    go (yes e) = rw (eq-eqb n 0 e)
    go (no e) = rw (ne_eqb n 0 e) (h (omega arith))

chain_enough : (f g : ℕ) (d : List ℕ) → length d < f → length d < g → chain_in f d ≡ chain_in g d
unfolding chain_in
chain_enough zero g d hf hg = absurd (omega arith)
chain_enough (suc f) zero d hf hg = absurd (omega arith)
chain_enough (suc f) (suc g) d hf hg =
    ap (pick (eqb (length d) 0) true)
    (unless (front_of d) false (chain_in f (behind d)) (chain_in g (behind d))
    (λ s. chain_enough f g (behind d) (omega (arith, shorter d s)) (omega (arith, shorter d s))))

-- one turn of the chain test
pub chain_none : (d : List ℕ) → length d ≡ 0 → chain_of d ≡ true
unfolding chain_of chain_in
chain_none d e = rw (eq-eqb (length d) 0 e)

pub chain_stop : (d : List ℕ) → 1 ≤ length d → front_of d ≡ 0 → chain_of d ≡ false
unfolding chain_of chain_in
chain_stop d h e = rw (ne_eqb (length d) 0 (λ z. omega arith), eq-eqb (front_of d) 0 e)

pub chain_more : (d : List ℕ) → 1 ≤ front_of d → chain_of d ≡ chain_of (behind d)
unfolding chain_of chain_in
chain_more d h =
    let s = stands d h in
    rw (ne_eqb (length d) 0 (λ z. omega arith), ne_eqb (front_of d) 0 (λ z. omega arith))
    (chain_enough (length d) (suc (length (behind d))) (behind d) (shorter d h) (omega arith))

-- before its end a chain begins with a whole packet
pub chain_front : (d : List ℕ) → chain_of d ≡ true → 1 ≤ length d → 1 ≤ front_of d
chain_front d c h = go (ℕ_discrete (front_of d) 0)
  where
    go : Dec (front_of d ≡ 0) → 1 ≤ front_of d
    go (yes e) = absurd (let f = chain_stop d h e in let z : ◌≡◌ {A = ℕ} 0 1 = cc in omega arith)
    go (no e) = omega arith

-- one turn of the distance
distance_stuck : (f : ℕ) (d : List ℕ) (o : ℕ) → front_of d ≡ 0 → distance_in f d o ≡ 0
unfolding distance_in
distance_stuck zero d o e = refl
distance_stuck (suc f) d o e = rw e (go (leb o 0) (eqb o 0) (distance_stuck f d (o - 0) e))
  where
    go : (a b : Bool) → distance_in f d (o - 0) ≡ 0 → pick a (pick b 0 (0 - o)) (distance_in f d (o - 0)) ≡ 0
    go true true h = refl
    go true false h = omega arith
    go false b h = h

distance_enough : (f g : ℕ) (d : List ℕ) (o : ℕ) → length d < f → length d < g → distance_in f d o ≡ distance_in g d o
unfolding distance_in
distance_enough zero g d o hf hg = absurd (omega arith)
distance_enough (suc f) zero d o hf hg = absurd (omega arith)
distance_enough (suc f) (suc g) d o hf hg =
    go (ℕ_discrete (front_of d) 0)
    (λ s. distance_enough f g (behind d) (o - front_of d) (omega (arith, shorter d s)) (omega (arith, shorter d s)))
  where
    go : Dec (front_of d ≡ 0) → (1 ≤ front_of d → distance_in f (behind d) (o - front_of d) ≡ distance_in g (behind d) (o - front_of d))
        → distance_in (suc f) d o ≡ distance_in (suc g) d o
    go (yes e) on = distance_stuck (suc f) d o e ∙ sym (distance_stuck (suc g) d o e)
    go (no e) on = ap (pick (leb o (front_of d)) (pick (eqb o 0) 0 (front_of d - o))) (on (omega arith))

pub distance_here : (d : List ℕ) → distance_of d 0 ≡ 0
unfolding distance_of distance_in
distance_here d = rw (le-leb 0 (front_of d) (omega arith))

pub distance_in_lem : (d : List ℕ) (o : ℕ) → 1 ≤ o → o ≤ front_of d → distance_of d o ≡ front_of d - o
unfolding distance_of distance_in
distance_in_lem d o a b = rw (le-leb o (front_of d) b, ne_eqb o 0 (λ z. omega arith))

pub distance_past : (d : List ℕ) (o : ℕ) → 1 ≤ front_of d → front_of d < o → distance_of d o ≡ distance_of (behind d) (o - front_of d)
unfolding distance_of distance_in
distance_past d o a b =
    rw (lt-leb o (front_of d) b)
    (distance_enough (length d) (suc (length (behind d))) (behind d) (o - front_of d) (shorter d a) (omega arith))

-- no distance is longer than the run
pub front_fits : (d : List ℕ) → front_of d ≤ length d
front_fits d = go (ℕ_discrete (front_of d) 0)
  where
    go : Dec (front_of d ≡ 0) → front_of d ≤ length d
    go (yes e) = omega arith
    go (no e) = (stands d (omega arith)).there

within : (f : ℕ) (d : List ℕ) (o : ℕ) → distance_in f d o ≤ length d
unfolding distance_in
within zero d o = omega arith
within (suc f) d o = go (leb o (front_of d)) (eqb o 0) (within f (behind d) (o - front_of d))
  where
    go : (a b : Bool) → distance_in f (behind d) (o - front_of d) ≤ length (behind d)
        → pick a (pick b 0 (front_of d - o)) (distance_in f (behind d) (o - front_of d)) ≤ length d
    go true true h = omega arith
    go true false h = omega (arith, front_fits d)
    go false b h = omega (arith, length-drop (front_of d) d)

pub distance_within : (d : List ℕ) (o : ℕ) → distance_of d o ≤ length d
unfolding distance_of
distance_within d o = within (suc (length d)) d o

-- the front of what is left of a run
pub looked : (run : List ℕ) (at : ℕ) → front_of (take (length run - at) (drop at run)) ≡ front_of (drop at run)
looked run at = ap front_of (take_all (length run - at) (drop at run) (simp length-drop (omega arith)))

pub looked_some : (run : List ℕ) (at n : ℕ) → Some n ≡ option_of (front_of (take (length run - at) (drop at run)))
    → (n ≡ front_of (drop at run)) × (1 ≤ n)
looked_some run at n e = option_some (front_of (drop at run)) n (e ∙ ap option_of (looked run at))

-- a packet of n octets at the front of what is left
module _ (rest : List ℕ) (n : ℕ) (e : Some n ≡ option_of (front_of rest)) where
  pub packet_fits : (1 ≤ n) × (n ≤ length rest)
  packet_fits = let t = option_some (front_of rest) n e in
      (t.1, rw t.0 (stands rest (omega arith)).there)

  pub chain_behind : chain_of (take (length rest - n) (drop n rest)) ≡ chain_of rest
  chain_behind =
      let t = option_some (front_of rest) n e in
      let a : take (length rest - n) (drop n rest) ≡ drop n rest = take_all (length rest - n) (drop n rest) (simp length-drop (omega arith)) in
      let b : chain_of rest ≡ chain_of (drop n rest) = rw t.0 (chain_more rest (omega arith)) in
      ap chain_of a ∙ sym b

-- where no packet is at the front, the rest is a chain exactly if it is empty
pub chain_ends : (rest : List ℕ) → None ≡ option_of (front_of rest) → chain_of rest ≡ eqb (length rest) 0
chain_ends rest e = go (ℕ_discrete (length rest) 0)
  where
    go : Dec (length rest ≡ 0) → chain_of rest ≡ eqb (length rest) 0
    go (yes z) = chain_none rest z ∙ sym (eq-eqb (length rest) 0 z)
    go (no z) = chain_stop rest (omega arith) (option_none (front_of rest) e) ∙ sym (ne_eqb (length rest) 0 z)

-- what every turn of the distance keeps: place `at` is a packet's start or the end, and the distance is counted from it
abbrev onward : List ℕ → ℕ → ℕ → ℕ
onward run offset at = pick (leb offset at) (at - offset) (distance_of (drop at run) (offset - at))

pub record Passed (run : List ℕ) (offset at : ℕ) : Type 0 where
  pub inside : at ≤ length run
  pub chain : chain_of (drop at run) ≡ true
  pub same : onward run offset at ≡ distance_of run offset

-- a turn over the packet of n octets at place `at`
module _ (run : List ℕ) (at n : ℕ) (e : n ≡ front_of (drop at run)) (h : 1 ≤ n) where
  pub packet_is_fit : (7 ≤ n) × (at + n ≤ length run)
  packet_is_fit =
      let s = stands (drop at run) (omega arith) in
      (omega arith, omega (arith, length-drop at run))

  on : drop (at + n) run ≡ behind (drop at run)
  on = sym (drop-drop n at run) ∙ ap (λ (m : ℕ). drop m (drop at run)) e

  chain_on : chain_of (drop (at + n) run) ≡ chain_of (drop at run)
  chain_on = ap chain_of on ∙ sym (chain_more (drop at run) (omega arith))

  onward_more : (offset : ℕ) → at < offset → Dec (at + n < offset) → onward run offset (at + n) ≡ onward run offset at
  onward_more offset l (yes b) =
      let z : offset - (at + n) ≡ offset - at - front_of (drop at run) = omega arith in
      rw (lt-leb offset (at + n) b, lt-leb offset at l, on, z)
      (sym (distance_past (drop at run) (offset - at) (omega arith) (omega arith)))
  onward_more offset l (no b) =
      let z : at + n - offset ≡ front_of (drop at run) - (offset - at) = omega arith in
      rw (le-leb offset (at + n) (omega arith), lt-leb offset at l, z)
      (sym (distance_in_lem (drop at run) (offset - at) (omega arith) (omega arith)))

  pub passed_more : (offset : ℕ) → at < offset → Passed run offset at → Passed run offset (at + n)
  passed_more offset l k =
      record {
        inside = packet_is_fit.1;
        chain = chain_on ∙ k.chain;
        same = onward_more offset l (dec_lt (at + n) offset) ∙ k.same;
      }

-- where the distance begins, and where it ends
module _ (run : List ℕ) where
  module _ (offset : ℕ) where
    pub passed_start : chain_of run ≡ true → Passed run offset 0
    passed_start c = record { inside = omega arith; chain = c; same = go (ℕ_discrete offset 0) }
      where
        go : Dec (offset ≡ 0) → onward run offset 0 ≡ distance_of run offset
        go (yes e) = rw e (sym (distance_here run))
        go (no e) =
            let z : offset - 0 ≡ offset = omega arith in
            rw (lt-leb offset 0 (omega arith), z)

    module _ (at : ℕ) (k : Passed run offset at) where
      -- before the offset a packet stands
      pub passed_front : at < offset → offset ≤ length run → IsSome (option_of (front_of (take (length run - at) (drop at run))))
      unfolding option_of
      passed_front l h =
          let some : 1 ≤ front_of (drop at run) = chain_front (drop at run) k.chain (omega (arith, length-drop at run)) in
          rw (looked run at, ne_eqb (front_of (drop at run)) 0 (λ z. omega arith))

      pub passed_end : offset ≤ at → at - offset ≡ distance_of run offset
      passed_end l = rw (le-leb offset at l) at k.same
