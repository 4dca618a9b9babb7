-- its two numbers of 16 bits and the octets between hold all fields.
use mathlib.Core.Path.{refl}
use native.Mathlib.Omega.{arith}
use Rattle.frame.proofs.HeaderLaws.{header_is}
use Rattle.opening.proofs.header_of.Goals as goal

pub returns : goal.returns
returns c = let f = c.args.frame.now in
    let g = c.type_inv.frame in
    header_is f _ _ _ _
    (λ i. omega (arith, g i))
    c.number-first.ensures.0
    c.number-last.ensures.0
    refl
    refl
