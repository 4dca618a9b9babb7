-- The parts of the store: each lies inside, and another part for one channel changes that channel's and no other.
-- Assumes nothing.
use mathlib.Core.Path.{◌≡◌, ◌∙◌, sym, ap}
use mathlib.Core.List.{List, [], ◌∷◌, ◌++◌, append_assoc}
use Prim.Native.Nat.{ℕ, ◌+◌, ◌-◌, ◌*◌, ◌≤◌, ◌<◌, min}
use native.Mathlib.Decide.{dec_lt}
use native.Mathlib.Nat.{mul-suc, mul-le-mul_left}
use native.Mathlib.Omega.{arith}
use lib.ListN.{length, take, drop, length-append, length-take, length-drop, take-append-drop}
use lib.Seq.{take-add, take_all, take-nil, take_at, drop_at, length-take-le}
use Rattle.channel.specs.Store.{part_place, part_of, with_part}
use Rattle.channel.specs.Theorems.{PartInside, PartOwn, PartLength, PartApart, PartSame}
use Rattle.channel.proofs.ListLaws.{part_before, part_behind}

-- a part ends where the next begins, or before
pub apart : (limit : ℕ) {v w : ℕ} → v < w → limit * v + limit ≤ limit * w
apart limit {v} {w} h = rw (← mul-suc) (mul-le-mul_left limit h)

-- of no octets any number is none, and of some the least of two numbers is both of them
nothing : (n : ℕ) (l : List ℕ) → length l ≡ 0 → take n l ≡ []
nothing n [] h = take-nil n
nothing n (x ∷ l) h = absurd (omega arith)

take_min : (n : ℕ) (l : List ℕ) → take (min n (length l)) l ≡ take n l
take_min n l = go (dec_lt n (length l))
  where
    go : Dec (n < length l) → take (min n (length l)) l ≡ take n l
    go (yes h) = let e : min n (length l) ≡ n = omega arith in rw e
    go (no h) = take_all (min n (length l)) l (omega arith) ∙ sym (take_all n l (omega arith))

-- the part that code cuts out from its place to its end
pub cut_part : (limit v at : ℕ) (store : List ℕ) → at ≡ part_place limit v → take (at + limit - at) (drop at store) ≡ part_of limit v store
unfolding part_of
cut_part limit v at store e =
    let l : at + limit - at ≡ limit = omega arith in
    rw (l, e)

-- and from its place to its end in a store that may be too short
pub short_part : (limit v place at end : ℕ) (store : List ℕ) → place ≡ part_place limit v → at ≡ min place (length store)
    → end ≡ min (place + limit) (length store) → take (end - at) (drop at store) ≡ part_of limit v store
unfolding part_of
short_part limit v place at end store e ea ee = go (dec_lt place (length store))
  where
    go : Dec (place < length store) → take (end - at) (drop at store) ≡ take limit (drop (part_place limit v) store)
    go (yes h) =
        let a : at ≡ place = omega arith in
        let n : end - at ≡ min limit (length (drop place store)) = omega (arith, length-drop place store) in
        rw (n, a, ← e) (take_min limit (drop place store))
    go (no h) =
        rw (← e) (nothing (end - at) (drop at store) (omega (arith, length-drop at store)) ∙ sym (nothing limit (drop place store) (omega (arith, length-drop place store))))

pub part_inside : PartInside
unfolding part_of part_place
part_inside limit v store e h =
    let i : limit * v + limit ≤ limit * 8 = apart limit h in
    length-take-le limit (drop (limit * v) store) (simp length-drop (omega arith))

pub part_own : PartOwn
unfolding part_of with_part part_place
part_own limit v store part e h l =
    let i : limit * v + limit ≤ limit * 8 = apart limit h in
    let j : length (take (limit * v) store) ≡ limit * v = length-take-le (limit * v) store (omega arith) in
    rw (append_assoc, drop_at (take (limit * v) store) (part ++ drop (limit * v + limit) store) (limit * v) j)
    (take_at part (drop (limit * v + limit) store) limit l)

pub part_length : PartLength
unfolding with_part part_place
part_length limit v store part e h l =
    let i : limit * v + limit ≤ limit * 8 = apart limit h in
    simp (length-append, length-take, length-drop) (omega arith)

pub part_apart : PartApart
unfolding part_of with_part part_place
part_apart limit v w store part e h k l n = go (dec_lt w v)
  where
    i : limit * v + limit ≤ limit * 8
    i = apart limit h

    behind : List ℕ
    behind = drop (limit * v + limit) store

    go : Dec (w < v) → take limit (drop (limit * w) (take (limit * v) store ++ part ++ behind)) ≡ take limit (drop (limit * w) store)
    go (yes less) =
        rw append_assoc
        (part_before store (part ++ behind) (limit * w) limit (limit * v) (apart limit less) (omega (arith, i)))
    go (no more) =
        ap (take limit)
        (part_behind store (take (limit * v) store ++ part) (limit * w) (limit * v + limit) (apart limit (omega arith))
        (simp (length-append, length-take) (omega (arith, i))))

pub part_same : PartSame
unfolding part_of with_part part_place
part_same limit v store e h = rw (← take-add (limit * v) limit store) (take-append-drop (limit * v + limit) store)
