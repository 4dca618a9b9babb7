-- The octets of a cut packet are the last of the walk's run, and so of the field in which the walk began.
-- Assumes nothing.
use mathlib.Core.Path.{◌≡◌, refl, ◌∙◌, sym, ap}
use mathlib.Core.Bool.{Bool, true, false}
use mathlib.Core.List.{List, [], ◌∷◌}
use Prim.Native.Nat.{ℕ, ◌+◌, ◌-◌, ◌≤◌}
use native.Mathlib.Omega.{arith}
use lib.Dec.{eqb, ltb, leb}
use lib.ListN.{length, drop, length-drop}
use lib.Seq.{drop-drop}
use Rattle.octets.specs.Pick.{pick}
use Rattle.packet.specs.Family.{Family, Lawful}
use Rattle.packet.specs.declared.source.Size.{Size}
use Rattle.packet.specs.declared.source.Size.TheVariants.{Wait, Foreign, Total}
use Rattle.walk.specs.declared.walking.End.{End}
use Rattle.walk.specs.declared.walking.Ended.{Ended}
use Rattle.std.specs.Prelude.{Result, Err, Ok}
use Rattle.walk.specs.declared.walking.Tally.{Tally}
use Rattle.walk.specs.Inside.{CutFits, held_by}
use Rattle.walk.specs.Walk.{front, seen_of, cut_of, walk_of, ended_with, ended_by}
use Rattle.walk.proofs.WalkLaws.{CutRest, sees_end, walk_ind, walk_stop, walk_whole}

-- a walk that stops at a cut packet has all of it, and at least one octet
front_cut : (limit : ℕ) (s : Size) (n k : ℕ) → front limit s n ≡ Err (End.Cut k) → n ≡ k
unfolding front
front_cut limit Wait n k e = go (eqb n 0) e
  where
    go : (b : Bool) → ◌≡◌ {A = Result ℕ End} (Err (pick b End.Exact (End.Cut n))) (Err (End.Cut k)) → n ≡ k
    go true e = cc
    go false e = cc
front_cut limit Foreign n k e = cc
front_cut limit (Total t) n k e = go (ltb limit t) (leb t n) e
  where
    go : (a b : Bool) → ◌≡◌ {A = Result ℕ End} (pick a (Err (End.Oversize (t - n))) (pick b (Ok t) (Err (End.Cut n)))) (Err (End.Cut k)) → n ≡ k
    go true b e = cc
    go false true e = cc
    go false false e = cc

cut_some : (F : Family) (laws : Lawful F) (limit : ℕ) (d : List ℕ) (k : ℕ) → seen_of F limit d ≡ Err (End.Cut k) → (length d ≡ 0 → ⊥)
cut_some F laws limit [] k e h =
    let s = sees_end F limit [] laws.empty_waits refl in
    let z : ◌≡◌ {A = ℕ} 0 1 = cc in
    omega arith
cut_some F laws limit (o ∷ d) k e h = omega arith

-- the octets of a cut packet are the last of the run
pub cut_rest : (F : Family) (laws : Lawful F) (limit : ℕ) (d : List ℕ) (k : ℕ) → (walk_of F limit d).end ≡ End.Cut k → CutRest F limit d k
unfolding cut_of seen_of
cut_rest F laws limit =
    walk_ind F laws limit (λ d. (k : ℕ) → (walk_of F limit d).end ≡ End.Cut k → CutRest F limit d k)
    (λ d e s k h.
    let w = walk_stop F laws limit d e s in
    let g : e ≡ End.Cut k = rw w at h in
    let f : seen_of F limit d ≡ Err (End.Cut k) = s ∙ ap Err g in
    let c : length d ≡ k = front_cut limit (F.size d) (length d) k f in
    let z : length d - k ≡ 0 = omega arith in
    record { last = rw (w, g, z); some = omega (arith, cut_some F laws limit d k f); there = omega arith })
    (λ d n s on k h.
    let w = walk_whole F laws limit d n s in
    let c = on k (rw w at h) in
    let l = length-drop n d in
    let z : n + (length (drop n d) - k) ≡ length d - k = omega (arith, c.there) in
    record { last = rw (w, ← z) (c.last ∙ drop-drop (length (drop n d) - k) n d); some = c.some; there = omega (arith, c.there) })

-- a walk over the field from a place on: what is held at its end are the field's last octets, and they fit where the field fits
module _ (F : Family) (laws : Lawful F) (limit : ℕ) (field : List ℕ) (from : ℕ) (inside : from ≤ length field) where
  cut_in : (k : ℕ) → (walk_of F limit (drop from field)).end ≡ End.Cut k
      → ((walk_of F limit (drop from field)).rest ≡ drop (length field - k) field) × (k ≤ length field)
  cut_in k h =
      let c = cut_rest F laws limit (drop from field) k h in
      let l = length-drop from field in
      let z : from + (length (drop from field) - k) ≡ length field - k = omega (arith, c.there) in
      (rw (← z) (c.last ∙ drop-drop (length (drop from field) - k) from field), omega (arith, c.there))

  pub held_in : (e : End) → (walk_of F limit (drop from field)).end ≡ e → (ws : List (List ℕ))
      → (ended_by e ws (walk_of F limit (drop from field)).rest).held ≡ held_by e field
  unfolding ended_by held_by
  held_in End.Foreign h ws = refl
  held_in End.Exact h ws = refl
  held_in (End.Cut k) h ws = (cut_in k h).0
  held_in (End.Oversize r) h ws = refl

  cut_fits_at : (part : List ℕ) → length field ≤ length part → (e : End) → (walk_of F limit (drop from field)).end ≡ e → CutFits e field part
  unfolding CutFits
  cut_fits_at part r End.Foreign h = tt
  cut_fits_at part r End.Exact h = tt
  cut_fits_at part r (End.Cut k) h = let c = (cut_in k h).1 in (c, omega arith)
  cut_fits_at part r (End.Oversize s) h = tt

  pub cut_fits : (part : List ℕ) → length field ≤ length part → (t : Tally) (e : Ended) → e ≡ ended_with F t (walk_of F limit (drop from field))
      → CutFits e.end field part
  unfolding ended_with
  cut_fits part r t e h = cut_fits_at part r e.end (sym (ap (λ (x : Ended). x.end) h))
