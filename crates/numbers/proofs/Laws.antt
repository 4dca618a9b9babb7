-- The eight octets of a number, and its last n.
use Rattle.std.proofs.Common.{◌≡◌, refl, ◌∙◌, sym, ap, ap₂, ℕ, zero, suc, ◌+◌, ◌-◌, ◌^◌, ◌≤◌, ◌<◌, List, ◌++◌, length, take, drop, arith}
use native.Mathlib.Nat.{zero-add, suc-add, div-one, one-le-pow, pow-le-pow_right}
use lib.Seq.{take_all, take_at}
use Rattle.std.specs.Int.{w64, to_be_bytes, from_be_bytes}
use Rattle.std.proofs.lemmas.Nat.{from_be_bytes-to_be_bytes_8}
use Rattle.octets.specs.Laid.{laid}
use Rattle.octets.specs.Numbers.{number_at, octets_of}
use Rattle.octets.specs.Octets.{Octets}
use Rattle.octets.proofs.Runs.{laid_last, length_octets, number_lt, octets_append, octets_at}

eight : (v : ℕ) → to_be_bytes w64 v ≡ octets_of 8 v
unfolding octets_of
eight v = rw div-one refl

last_octets : (m n v : ℕ) → drop m (octets_of (m + n) v) ≡ octets_of n v
unfolding octets_of
last_octets zero n v = rw zero-add refl
last_octets (suc m) n v = rw suc-add (last_octets m n v)

-- the last n of the eight octets of a number are its octets as a number of n
pub last_of_eight : (n v : ℕ) (l : List ℕ) → n ≤ 8 → l ≡ to_be_bytes w64 v → take (8 - (8 - n)) (drop (8 - n) l) ≡ octets_of n v
last_of_eight n v l h b =
    let e : 8 ≡ 8 - n + n = omega arith in
    let d : drop (8 - n) l ≡ octets_of n v =
    ap (drop (8 - n)) (b ∙ eight v ∙ ap (λ (k : ℕ). octets_of k v) e) ∙ last_octets (8 - n) n v in
    ap (take (8 - (8 - n))) d ∙ take_all (8 - (8 - n)) (octets_of n v) (omega (arith, length_octets n v))

zeros_before : (n : ℕ) → n ≤ 8 → take (8 - n) (to_be_bytes w64 0) ≡ octets_of (8 - n) 0
zeros_before n h =
    let a : octets_of (8 - n) 0 ++ octets_of n 0 ≡ to_be_bytes w64 0 =
    octets_append (8 - n) n 0 0 (one-le-pow n 256 (omega arith))
    ∙ ap₂ octets_of (omega arith) (omega arith)
    ∙ sym (eight 0) in
    ap (take (8 - n)) (sym a) ∙ take_at (octets_of (8 - n) 0) (octets_of n 0) (8 - n) (length_octets (8 - n) 0)

-- n octets laid at the end of eight that are zero make the number that they hold
pub number_of_eight :
    (l d : List ℕ) (at n r : ℕ) → Octets l → n ≤ 8 → at + n ≤ length l
    → d ≡ laid (to_be_bytes w64 0) (8 - n) (take (at + n - at) (drop at l)) → r ≡ from_be_bytes w64 d
    → (r ≡ number_at l at n) × (r < 256 ^ n)
number_of_eight l d at n r o h k e f =
    let y = number_at l at n in
    let lt : y < 256 ^ n = number_lt l at n o in
    let p : take (at + n - at) (drop at l) ≡ octets_of n y =
    ap (λ (i : ℕ). take i (drop at l)) (omega arith) ∙ sym (octets_at n l at o k) in
    let w : d ≡ to_be_bytes w64 y =
    e
    ∙ ap (laid (to_be_bytes w64 0) (8 - n)) p
    ∙ laid_last (to_be_bytes w64 0) (octets_of n y) (8 - n) (rw length_octets (omega arith))
    ∙ ap (λ (z : List ℕ). z ++ octets_of n y) (zeros_before n h)
    ∙ octets_append (8 - n) n 0 y lt
    ∙ ap₂ octets_of (omega arith) (omega arith)
    ∙ sym (eight y) in
    let top : 256 ^ n ≤ 256 ^ 8 = pow-le-pow_right (omega arith) h in
    let q : r ≡ y = f ∙ ap (from_be_bytes w64) w ∙ from_be_bytes-to_be_bytes_8 y (omega (arith, lt, top)) in
    (q, rw q lt)
