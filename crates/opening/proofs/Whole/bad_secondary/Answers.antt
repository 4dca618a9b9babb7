-- row 9.
use mathlib.Core.Path.{◌≡◌, ◌∙◌}
use Prim.Native.Nat.{◌/◌}
use native.Mathlib.Omega.{arith}
use Rattle.frame.proofs.HeaderLaws.{secondary_version_is}
use Rattle.frame.proofs.RowLaws.{row9_tested, row9_passed}
use Rattle.frame.specs.Opening.{secondary_version}
use Rattle.opening.proofs.Whole.bad_secondary.Goals as goal

pub returns-then-self : goal.returns-then-self
returns-then-self c = let f = c.args.self.now.octets.now in
    let e : c.octet.result / 64 ≡ secondary_version f = omega (arith, secondary_version_is f (omega arith)) in
    row9_tested _ f _ c.if-self.true e

pub returns-else-self : goal.returns-else-self
returns-else-self c = c.if-self.false ∙ row9_passed _ _ c.if-self.false
