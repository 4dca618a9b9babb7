-- row 7.
use Rattle.frame.specs.Header.{version_of}
use Rattle.frame.specs.Opening.{row7}
use mathlib.Core.Path.{◌≡◌}
use Prim.Native.Nat.{◌/◌}
use native.Mathlib.Omega.{arith}
use Rattle.frame.proofs.HeaderLaws.{version_is}
use Rattle.opening.proofs.other_version.Goals as goal

pub returns : goal.returns
unfolding row7
returns c = let f = c.args.octets.now in
    let g = c.type_inv.octets in
    let e : c.number.result / 16384 ≡ version_of f = omega (arith, version_is f (λ i. omega (arith, g i))) in
    rw e
