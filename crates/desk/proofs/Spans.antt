-- Laws of the octets that the first packets of an output take, in the form that the loop over the packets uses.
use mathlib.Core.List.{List}
use mathlib.Core.Path.{◌≡◌, ap}
use Prim.Native.Nat.{ℕ, zero, suc, ◌+◌, ◌≤◌}
use native.Mathlib.Numerals.{add-one}
use native.Mathlib.Omega.{arith}
use lib.ListN.{length, length-drop, drop}
use lib.Seq.{drop-drop}
use Rattle.packet.specs.Chain.{front_of}
use Rattle.packet.proofs.ChainTurns.{front_fits}
use Rattle.desk.specs.Saving.{span_of}

span_fits : (k : ℕ) (o : List ℕ) → span_of k o ≤ length o
unfolding span_of
span_fits zero o = omega arith
span_fits (suc k) o = omega (arith, front_fits o, length-drop (front_of o) o, span_fits k (drop (front_of o) o))

-- one packet more, behind the ones that were passed
span_last : (k : ℕ) (o : List ℕ) → span_of (suc k) o ≡ span_of k o + front_of (drop (span_of k o) o)
unfolding span_of
span_last zero o = omega arith
span_last (suc k) o = omega (arith, span_last k (drop (front_of o) o), ap front_of (drop-drop (span_of k (drop (front_of o) o)) (front_of o) o))

module _ (k : ℕ) (o : List ℕ) (at n : ℕ) (e : n ≡ front_of (drop at o)) (h : at ≡ span_of k o) where
  pub span_more : (at + n ≡ span_of (k + 1) o) × (at + n ≤ length o)
  span_more =
      let s : at + n ≡ span_of (suc k) o = omega (arith, span_last k o, ap (λ (x : ℕ). front_of (drop x o)) h) in
      (rw add-one s, omega (arith, span_fits (suc k) o))
