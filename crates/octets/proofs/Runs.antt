-- Runs of octets laid one behind the other, and numbers read back from their octets.
-- Assumes nothing.
use mathlib.Core.Path.{◌≡◌, refl, ◌∙◌, sym, ap, ap₂}
use mathlib.Core.List.{List, [], ◌∷◌, ◌++◌, append_assoc, append-nil}
use Prim.Native.Nat.{ℕ, zero, suc, ◌+◌, ◌*◌, ◌/◌, ◌%◌, ◌^◌, ◌≤◌, ◌<◌}
use native.Mathlib.Nat.{add-zero, zero-add, add_assoc, suc-add, add-suc, add_comm, mul_assoc, pow-suc, pow-succ', one-le-pow, mod-lt, mod-eq_of_lt, mod-one, div-div-eq-div-mul, mul-add-div_right, mul-add-mod_self_right}
use native.Mathlib.Omega.{arith}
use lib.Arith.{digits_lt, digits_div, mod-mul}
use lib.ListN.{length, get_or, take, drop, length-append, length-take, length-drop, take-append-drop, get_or-append}
use lib.Pow.{pow-add}
use lib.Seq.{length-take-le, take_at, drop-drop, drop-length, take-append-add, drop-append-add, get_or-append-add}
use Rattle.octets.specs.Laid.{laid}
use Rattle.octets.specs.Numbers.{number_at, octets_of}
use Rattle.octets.specs.Octets.{Octets}
use Rattle.octets.proofs.OctetLaws.{octets_drop, octets_take}

-- nothing laid changes nothing
pub laid_nil : (d : List ℕ) (at : ℕ) → laid d at [] ≡ d
unfolding laid
laid_nil d at = simp (append-nil, add-zero) (take-append-drop at d)

-- a run laid behind another makes one run with it
pub laid_behind : (d : List ℕ) (at next : ℕ) (s t : List ℕ) → at + length s ≤ length d → next ≡ at + length s
    → laid (laid d at s) next t ≡ laid d at (s ++ t)
unfolding laid
laid_behind d at next s t h e =
    let p = take at d ++ s in
    let r = drop (at + length s) d in
    let n : length p ≡ next = simp (length-append, length-take) (omega arith) in
    ap₂ (λ (a b : List ℕ). a ++ t ++ b)
    (take_at p r next n)
    (ap (λ (k : ℕ). drop (k + length t) (p ++ r)) (sym n) ∙ drop-append-add p r (length t) ∙ drop-drop (length t) (at + length s) d)
    ∙ simp (append_assoc, length-append, add_assoc)

-- a run laid at the start, and one laid n octets behind it
pub laid_around : (d s t : List ℕ) (n : ℕ)
    → laid (laid d 0 s) (length s + n) t ≡ s ++ take n (drop (length s) d) ++ t ++ drop (length s + n + length t) d
unfolding laid
laid_around d s t n =
    let r = drop (length s) d in
    rw (zero-add, add_assoc) (ap₂ (λ (a b : List ℕ). a ++ t ++ b)
    (take-append-add s r n)
    (drop-append-add s r (n + length t) ∙ drop-drop (n + length t) (length s) d))

-- a run laid at the end
pub laid_last : (d s : List ℕ) (at : ℕ) → at + length s ≡ length d → laid d at s ≡ take at d ++ s
unfolding laid
laid_last d s at e = rw (e, drop-length, append-nil)

pub length_octets : (n v : ℕ) → length (octets_of n v) ≡ n
unfolding octets_of
length_octets zero v = refl
length_octets (suc n) v = ap suc (length_octets n v)

pow_pos : (n : ℕ) → 0 < 256 ^ n
pow_pos n = one-le-pow n 256 (omega arith)

-- n octets hold what a number has below 256^n
octets_low : (n x y : ℕ) → octets_of n (x * 256 ^ n + y) ≡ octets_of n y
unfolding octets_of
octets_low zero x y = refl
octets_low (suc n) x y =
    let e : x * 256 ^ suc n ≡ x * 256 * 256 ^ n = rw (pow-succ', mul_assoc) in
    rw e (ap₂ (λ (o : ℕ) (l : List ℕ). o ∷ l)
    (ap (λ (k : ℕ). k % 256) (mul-add-div_right (pow_pos n) (x * 256) y) ∙ mul-add-mod_self_right x 256 (y / 256 ^ n))
    (octets_low n (x * 256) y))

-- the octets of two numbers one behind the other are those of one number
pub octets_append : (m n x y : ℕ) → y < 256 ^ n → octets_of m x ++ octets_of n y ≡ octets_of (m + n) (x * 256 ^ n + y)
unfolding octets_of
octets_append zero n x y h = rw zero-add (sym (octets_low n x y))
octets_append (suc m) n x y h =
    let v = x * 256 ^ n + y in
    let e : v / 256 ^ (m + n) ≡ x / 256 ^ m =
    ap (λ (k : ℕ). v / k) (ap (λ (k : ℕ). 256 ^ k) (add_comm m n) ∙ pow-add 256 n m)
    ∙ sym (div-div-eq-div-mul v (256 ^ n) (256 ^ m))
    ∙ ap (λ (k : ℕ). k / 256 ^ m) (digits_div x h) in
    rw suc-add (ap₂ (λ (o : ℕ) (l : List ℕ). o % 256 ∷ l) (sym e) (octets_append m n x y h))

-- a number that stands behind p
number_behind : (p l : List ℕ) (at n : ℕ) → number_at (p ++ l) (length p + at) n ≡ number_at l at n
unfolding number_at
number_behind p l at zero = refl
number_behind p l at (suc n) =
    ap₂ (λ (a b : ℕ). a * 256 + b)
    (number_behind p l at n)
    (ap (λ (k : ℕ). get_or (p ++ l) k 0) (add_assoc (length p) at n) ∙ get_or-append-add p l (at + n) 0)

-- a number by its first octet
number_cons : (o : ℕ) (l : List ℕ) (n : ℕ) → number_at (o ∷ l) 0 (suc n) ≡ o * 256 ^ n + number_at l 0 n
unfolding number_at
number_cons o l zero = omega arith
number_cons o l (suc n) = rw (number_cons o l n, zero-add, zero-add, pow-suc) (omega arith)

number_first : (n v : ℕ) (r : List ℕ) → number_at (octets_of n v ++ r) 0 n ≡ v % 256 ^ n
unfolding number_at octets_of
number_first zero v r = sym (mod-one v)
number_first (suc n) v r =
    number_cons (v / 256 ^ n % 256) (octets_of n v ++ r) n
    ∙ ap (λ (k : ℕ). v / 256 ^ n % 256 * 256 ^ n + k) (number_first n v r)
    ∙ sym (mod-mul v (omega arith) (pow_pos n))
    ∙ ap (λ (k : ℕ). v % k) (sym (pow-succ' 256 n))

-- a number is read back from its octets
pub number_back : (p r : List ℕ) (at n v : ℕ) → length p ≡ at → v < 256 ^ n → number_at (p ++ octets_of n v ++ r) at n ≡ v
number_back p r at n v e h =
    ap₂ (λ (l : List ℕ) (k : ℕ). number_at l k n) (append_assoc p (octets_of n v) r) (sym e ∙ sym (add-zero (length p)))
    ∙ number_behind p (octets_of n v ++ r) 0 n
    ∙ number_first n v r
    ∙ mod-eq_of_lt h

-- the octets of a number are octets
pub octets_lt : (n v : ℕ) → Octets (octets_of n v)
unfolding octets_of
octets_lt zero v i = omega arith
octets_lt (suc n) v zero = mod-lt (v / 256 ^ n) (omega arith)
octets_lt (suc n) v (suc i) = octets_lt n v i

-- n octets hold less than 256^n
pub number_lt : (l : List ℕ) (at n : ℕ) → Octets l → number_at l at n < 256 ^ n
unfolding number_at
number_lt l at zero o = omega arith
number_lt l at (suc n) o = rw pow-suc (digits_lt (number_lt l at n o) (o (at + n)))

-- the octets of the number in a list of octets are that list
octets_back : (n : ℕ) (l : List ℕ) → Octets l → length l ≡ n → octets_of n (number_at l 0 n) ≡ l
unfolding octets_of
octets_back zero [] o e = refl
octets_back zero (a ∷ l) o e = cc
octets_back (suc n) [] o e = cc
octets_back (suc n) (a ∷ l) o e =
    let y = number_at l 0 n in
    let lt : y < 256 ^ n = number_lt l 0 n (λ i. o (suc i)) in
    rw (number_cons a l n)
    (ap₂ (λ (b : ℕ) (t : List ℕ). b ∷ t)
    (ap (λ (k : ℕ). k % 256) (digits_div a lt) ∙ mod-eq_of_lt (o 0))
    (octets_low n a y ∙ octets_back n l (λ i. o (suc i)) (omega arith)))

-- a number of m + n octets, by its first m and its last n
pub number_append : (l : List ℕ) (at m n : ℕ) → number_at l at (m + n) ≡ number_at l at m * 256 ^ n + number_at l (at + m) n
unfolding number_at
number_append l at m zero = rw (add-zero m) (omega arith)
number_append l at m (suc n) =
    let g : get_or l (at + (m + n)) 0 ≡ get_or l (at + m + n) 0 = ap (λ (k : ℕ). get_or l k 0) (sym (add_assoc at m n)) in
    rw (add-suc, number_append l at m n, pow-suc) (omega arith)

-- a number that stands between p and r
pub number_between : (p l r : List ℕ) (at n : ℕ) → at + n ≤ length l → number_at (p ++ l ++ r) (length p + at) n ≡ number_at l at n
unfolding number_at
number_between p l r at zero h = refl
number_between p l r at (suc n) h =
    ap₂ (λ (a b : ℕ). a * 256 + b)
    (number_between p l r at n (omega arith))
    (ap₂ (λ (t : List ℕ) (k : ℕ). get_or t k 0) (append_assoc p l r) (add_assoc (length p) at n)
    ∙ get_or-append-add p (l ++ r) (at + n) 0
    ∙ get_or-append l r 0 (at + n) (omega arith))

-- the octets of the number in a part of a list of octets are that part
pub octets_at : (n : ℕ) (l : List ℕ) (at : ℕ) → Octets l → at + n ≤ length l → octets_of n (number_at l at n) ≡ take n (drop at l)
octets_at n l at o h =
    let p = take at l in
    let m = take n (drop at l) in
    let r = drop n (drop at l) in
    let lp : length p ≡ at = length-take-le at l (omega arith) in
    let lm : length m ≡ n = length-take-le n (drop at l) (omega (arith, length-drop at l)) in
    let e : l ≡ p ++ m ++ r =
    sym (take-append-drop at l) ∙ ap (λ (t : List ℕ). p ++ t) (sym (take-append-drop n (drop at l))) ∙ sym (append_assoc p m r) in
    ap (octets_of n) (ap₂ (λ (t : List ℕ) (k : ℕ). number_at t k n) e (sym lp ∙ sym (add-zero (length p))) ∙ number_between p m r 0 n (omega arith))
    ∙ octets_back n m (octets_take (drop at l) n (octets_drop l at o)) lm
