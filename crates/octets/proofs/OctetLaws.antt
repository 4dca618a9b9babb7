-- Runs of octets: their parts, two of them one behind the other, one laid over another, and an octet many times.
-- Assumes nothing.
use mathlib.Core.List.{List, [], ◌++◌}
use Prim.Native.Nat.{ℕ, zero, suc, ◌+◌, ◌-◌, ◌≤◌, ◌<◌}
use native.Mathlib.Decide.{dec_lt}
use native.Mathlib.Omega.{arith}
use lib.ListN.{length, get_or, take, drop, replicate, length-take, get_or-append, get_or-eq_default}
use lib.Seq.{get_or-take, get_or-drop, get_or-append_right}
use Rattle.octets.specs.Laid.{laid}
use Rattle.octets.specs.Octets.{Octets}

pub no_octets : Octets []
no_octets i = omega arith

pub octets_drop : (l : List ℕ) (n : ℕ) → Octets l → Octets (drop n l)
octets_drop l n h i = rw get_or-drop (h (n + i))

pub octets_take : (l : List ℕ) (n : ℕ) → Octets l → Octets (take n l)
octets_take l n h i = go (dec_lt i n)
  where
    go : Dec (i < n) → get_or (take n l) i 0 < 256
    go (yes k) = rw get_or-take (h i)
    go (no k) =
        let e : length (take n l) ≤ i = omega (arith, length-take n l) in
        rw (get_or-eq_default (take n l) 0 e) (omega arith)

pub octets_append : (a b : List ℕ) → Octets a → Octets b → Octets (a ++ b)
octets_append a b h k i = go (dec_lt i (length a))
  where
    go : Dec (i < length a) → get_or (a ++ b) i 0 < 256
    go (yes l) = rw (get_or-append a b 0 i l) (h i)
    go (no l) = rw (get_or-append_right a b i 0 (omega arith)) (k (i - length a))

pub octets_laid : (d : List ℕ) (at : ℕ) (s : List ℕ) → Octets d → Octets s → Octets (laid d at s)
unfolding laid
octets_laid d at s h k =
    octets_append (take at d ++ s) (drop (at + length s) d) (octets_append (take at d) s (octets_take d at h) k)
    (octets_drop d (at + length s) h)

pub octets_same : (n o : ℕ) → o < 256 → Octets (replicate n o)
octets_same zero o h i = omega arith
octets_same (suc n) o h zero = h
octets_same (suc n) o h (suc i) = octets_same n o h i
