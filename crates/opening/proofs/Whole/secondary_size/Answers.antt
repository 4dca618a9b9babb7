-- s.
use mathlib.Core.Path.{◌≡◌}
use Prim.Native.Nat.{◌+◌, ◌%◌}
use Rattle.octets.specs.Layout.{value_in}
use Rattle.frame.proofs.HeaderLaws.{secondary_length_is}
use native.Mathlib.Omega.{arith}
use Rattle.frame.specs.Header.{secondary_header, length_less_one}
use Rattle.frame.proofs.RowLaws.{size_there, size_none}
use Rattle.opening.proofs.Whole.secondary_size.Goals as goal

pub returns-then-self : goal.returns-then-self
returns-then-self c = let f = c.args.self.now.octets.now in
    let e : c.octet.result % 64 + 1 ≡ value_in secondary_header f 6 length_less_one + 1 = omega (arith, secondary_length_is f) in
    (size_there _ f _ c.if-self.true e, omega arith)

pub returns-else-self : goal.returns-else-self
returns-else-self c = (size_none _ _ c.if-self.false, omega arith)
