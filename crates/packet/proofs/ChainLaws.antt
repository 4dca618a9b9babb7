-- The laws of chains and distances (specs/Theorems).
-- Assumes nothing.
use mathlib.Core.Path.{◌≡◌, refl, ◌∙◌, sym, ap, ap₂}
use mathlib.Core.Bool.{true}
use mathlib.Core.List.{List, [], ◌∷◌, ◌++◌, append-nil}
use Prim.Native.Nat.{ℕ, ◌+◌, ◌-◌, ◌≤◌}
use native.Mathlib.Decide.{ℕ_discrete}
use native.Mathlib.Nat.{add-zero, zero-add, add_assoc}
use native.Mathlib.Omega.{arith}
use lib.ListN.{length, take, length-append, take-append-drop}
use lib.Seq.{drop_at, length-take-le}
use Rattle.packet.specs.declared.source.Size.TheVariants.{Total}
use Rattle.packet.specs.Chain.{front_of, chain_of, distance_of}
use Rattle.packet.specs.Size.{size_of, source}
use Rattle.packet.specs.Family.{Whole, AllWhole}
use Rattle.packet.specs.Theorems.{end_to_end, ChainExactly, DistanceExactly, DistanceAtEnd}
use Rattle.packet.proofs.Laws.{source_lawful}
use Rattle.packet.proofs.ChainTurns.{front_whole, stands, behind, run_ind, chain_none, chain_more, chain_front, distance_here, distance_in_lem, distance_past}

-- packets laid end to end are a chain
front_of_first : (p r : List ℕ) → Whole source p → front_of (p ++ r) ≡ length p
front_of_first p r w =
    sym (front_whole (p ++ r) (length p) (source_lawful.total_stays p r (length p) w) (simp length-append (omega arith)))

module _ (p r : List ℕ) (w : Whole source p) where
  front_some : 1 ≤ front_of (p ++ r)
  front_some = omega (arith, front_of_first p r w, source_lawful.total_least p (length p) w)

  behind_first : behind (p ++ r) ≡ r
  behind_first = drop_at p r (front_of (p ++ r)) (sym (front_of_first p r w))

  -- past a whole packet the distance is that in the rest
  distance_over : (k : ℕ) → distance_of (p ++ r) (length p + k) ≡ distance_of r k
  distance_over k = go (ℕ_discrete k 0)
    where
      f : front_of (p ++ r) ≡ length p
      f = front_of_first p r w

      go : Dec (k ≡ 0) → distance_of (p ++ r) (length p + k) ≡ distance_of r k
      go (yes e) =
          let z : front_of (p ++ r) - (length p + k) ≡ 0 = omega (arith, f) in
          distance_in_lem (p ++ r) (length p + k) (omega (arith, f, front_some)) (omega (arith, f)) ∙ z ∙ sym (distance_here r) ∙ ap (distance_of r) (sym e)
      go (no e) =
          let z : length p + k - front_of (p ++ r) ≡ k = omega (arith, f) in
          distance_past (p ++ r) (length p + k) front_some (omega (arith, f)) ∙ ap₂ distance_of behind_first z

chain_of_lem : (ps : List (List ℕ)) → AllWhole source ps → chain_of (end_to_end ps) ≡ true
chain_of_lem [] a = chain_none [] refl
chain_of_lem (p ∷ ps) a =
    chain_more (p ++ end_to_end ps) (front_some p (end_to_end ps) a.0) ∙ ap chain_of (behind_first p (end_to_end ps) a.0) ∙ chain_of_lem ps a.1

-- and a chain is packets laid end to end
abbrev Packets : List ℕ → Type 0
Packets d = (ps : List (List ℕ)) × ((end_to_end ps ≡ d) × AllWhole source ps)

nothing_there : (d : List ℕ) → length d ≡ 0 → [] ≡ d
nothing_there [] h = refl
nothing_there (x ∷ d) h = absurd (omega arith)

packets_none : (d : List ℕ) → front_of d ≡ 0 → chain_of d ≡ true → Packets d
packets_none d e c = go (ℕ_discrete (length d) 0)
  where
    go : Dec (length d ≡ 0) → Packets d
    go (yes h) = ([], (nothing_there d h, tt))
    go (no h) = absurd (omega (arith, chain_front d c (omega arith)))

packets_more : (d : List ℕ) → 1 ≤ front_of d → Packets (behind d) → Packets d
packets_more d h q =
    let n : ℕ = front_of d in
    let s = stands d h in
    let back : take n d ++ behind d ≡ d = take-append-drop n d in
    let l : length (take n d) ≡ n = length-take-le n d s.there in
    let told : size_of (take n d ++ behind d) ≡ Total n = ap size_of back ∙ s.told in (
      take n d ∷ q.0,
      (
        ap (λ (r : List ℕ). take n d ++ r) q.1.0 ∙ back,
        (source_lawful.last_tells (take n d) (behind d) n told (omega arith) ∙ ap Total (sym l), q.1.1),
      ),
    )

pub chain_exactly : ChainExactly
chain_exactly run = (
  run_ind (λ d. chain_of d ≡ true → Packets d) packets_none
      (λ d h on c. packets_more d h (on (sym (chain_more d h) ∙ c))) run,
  λ q. ap chain_of (sym q.1.0) ∙ chain_of_lem q.0 q.1.1,
)

distance_behind : (before after : List (List ℕ)) (k : ℕ) → AllWhole source before
    → distance_of (end_to_end (before ++ after)) (length (end_to_end before) + k) ≡ distance_of (end_to_end after) k
distance_behind [] after k a = ap (distance_of (end_to_end after)) (zero-add k)
distance_behind (p ∷ ps) after k a =
    let r = end_to_end (ps ++ after) in
    rw (length-append p (end_to_end ps), add_assoc) (distance_over p r a.0 (length (end_to_end ps) + k)) ∙ distance_behind ps after k a.1

pub distance_exactly : DistanceExactly
distance_exactly before p behind a w b =
    let r = p ++ end_to_end behind in
    let f = front_of_first p (end_to_end behind) w in (
      rw add-zero at (distance_behind before (p ∷ behind) 0 a ∙ distance_here r),
      λ i h l. distance_behind before (p ∷ behind) i a ∙ distance_in_lem r i h (omega arith) ∙ ap (λ (n : ℕ). n - i) f,
    )

pub distance_at_end : DistanceAtEnd
distance_at_end ps a =
    rw (append-nil, add-zero) at (distance_behind ps [] 0 a ∙ distance_here [])
