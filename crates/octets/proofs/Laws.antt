-- Laws of `laid`, of octets copied one by one, of numbers in octets, and of a choice.
-- Assumes nothing.
use mathlib.Core.Path.{◌≡◌, refl, ◌∙◌, sym, ap}
use mathlib.Core.Bool.{Bool, true, false}
use mathlib.Core.List.{List, ◌++◌}
use Prim.Native.Nat.{ℕ, zero, suc, ◌+◌, ◌-◌, ◌*◌, ◌≤◌, ◌<◌}
use native.Mathlib.Nat.{add-zero, add_assoc}
use native.Mathlib.Numerals.{add-one}
use native.Mathlib.Omega.{arith}
use lib.ListN.{length, get_or, set, take, drop, replicate, length-append, length-take, length-drop, get_or-append}
use lib.Seq.{paste, paste-suc, take-length, get_or-append-add}
use Rattle.octets.specs.Laid.{laid}
use Rattle.octets.specs.Numbers.{number_at}
use Rattle.octets.specs.Pick.{pick}

pub length_laid : (d : List ℕ) (at : ℕ) (s : List ℕ) → at + length s ≤ length d → length (laid d at s) ≡ length d
unfolding laid
length_laid d at s h = simp (length-append, length-take, length-drop) (omega arith)

-- a turn of a loop that copies s into d₀, of which d has i octets already
pub copied : (d₀ d s : List ℕ) (at i v : ℕ) → at + i < length d₀ → i < length s → v ≡ get_or s i 0 → d ≡ paste d₀ at s i
    → set d (at + i) v ≡ paste d₀ at s (i + 1)
copied d₀ d s at i v hd hs hv e = rw (e, hv, add-one) (paste-suc d₀ at s i 0 hd hs)

-- a copy of all of s is s laid
pub paste_all : (d : List ℕ) (at : ℕ) (s : List ℕ) (n : ℕ) → n ≡ length s → paste d at s n ≡ laid d at s
unfolding laid
paste_all d at s n e = rw e (ap (λ (l : List ℕ). take at d ++ l ++ drop (at + length s) d) (take-length s))

-- a number in one octet, in two and in four
pub number_one : (l : List ℕ) (at : ℕ) → number_at l at 1 ≡ get_or l at 0
unfolding number_at
number_one l at = rw add-zero (omega arith)

pub number_two : (l : List ℕ) (at : ℕ) → number_at l at 2 ≡ get_or l at 0 * 256 + get_or l (at + 1) 0
unfolding number_at
number_two l at = rw add-zero (omega arith)

pub number_four : (l : List ℕ) (at : ℕ) → number_at l at 4 ≡ number_at l at 2 * 65536 + number_at l (at + 2) 2
unfolding number_at
number_four l at = simp (add-zero, add_assoc) (omega arith)

-- two octets hold less than 2^16
pub number_two_lt : (l : List ℕ) (at : ℕ) → get_or l at 0 < 256 → get_or l (at + 1) 0 < 256 → number_at l at 2 < 65536
number_two_lt l at a b = omega (arith, number_two l at)

-- a choice between a number and 0 is at most the number
pub pick_le : (b : Bool) (n : ℕ) → pick b n 0 ≤ n
pick_le true n = omega arith
pick_le false n = omega arith

-- an octet of two runs lies in the first, or in the second
pub in_first_run : (a b : List ℕ) (at : ℕ) → at < length a → get_or a at 0 ≡ get_or (a ++ b) at 0
in_first_run a b at h = sym (get_or-append a b 0 at h)

pub in_second_run : (a b : List ℕ) (at : ℕ) → length a ≤ at → get_or b (at - length a) 0 ≡ get_or (a ++ b) at 0
in_second_run a b at h =
    let e : length a + (at - length a) ≡ at = omega arith in
    sym (get_or-append-add a b (at - length a) 0) ∙ ap (λ (n : ℕ). get_or (a ++ b) n 0) e

-- a run of zeros is 0 at every place
pub zeros_all : (n i : ℕ) → ◌≡◌ {A = ℕ} (get_or (replicate n 0) i 0) 0
zeros_all zero i = refl
zeros_all (suc n) zero = refl
zeros_all (suc n) (suc i) = zeros_all n i
