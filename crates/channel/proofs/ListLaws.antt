-- Laws of lists that other files cite: a length through a conversion, and a part of a list beside which another part is replaced.
-- Assumes nothing.
use mathlib.Core.Path.{◌≡◌, ◌∙◌, sym, ap}
use mathlib.Core.List.{List, ◌++◌, map}
use Prim.Native.Nat.{ℕ, ◌+◌, ◌-◌, ◌≤◌}
use native.Mathlib.Omega.{arith}
use lib.ListN.{length, take, drop, length-take, length-drop, length-map, take-append-drop}
use lib.Seq.{take-append-le, drop-append-le, drop-append-add, drop-drop}

-- the length of an array whose elements stand converted in what is known of it
pub length_any : (X Y : Type 0) (f : X → Y) (l : List X) (n : ℕ) → length (map f l) ≡ n → length l ≡ n
length_any X Y f l n e = sym (length-map l f) ∙ e

-- n elements from place a on, all before place p, are the same whatever follows place p
pub part_before : (l m : List ℕ) (a n p : ℕ) → a + n ≤ p → p ≤ length l → take n (drop a (take p l ++ m)) ≡ take n (drop a l)
part_before l m a n p h k = cut m ∙ sym (cut (drop p l)) ∙ ap (λ (x : List ℕ). take n (drop a x)) (take-append-drop p l)
  where
    cut : (x : List ℕ) → take n (drop a (take p l ++ x)) ≡ take n (drop a (take p l))
    cut x =
        let i : a ≤ length (take p l) = simp length-take (omega arith) in
        let j : n ≤ length (drop a (take p l)) = simp (length-drop, length-take) (omega arith) in
        ap (take n) (drop-append-le a (take p l) x i) ∙ take-append-le n (drop a (take p l)) x j

-- what stands behind place p is the same whatever replaces the p elements before it
pub part_behind : (l m : List ℕ) (a p : ℕ) → p ≤ a → length m ≡ p → drop a (m ++ drop p l) ≡ drop a l
part_behind l m a p h e =
    let i : length m + (a - p) ≡ a = omega arith in
    let j : p + (a - p) ≡ a = omega arith in
    ap (λ (k : ℕ). drop k (m ++ drop p l)) (sym i) ∙ drop-append-add m (drop p l) (a - p) ∙ drop-drop (a - p) p l
    ∙ ap (λ (k : ℕ). drop k l) j
