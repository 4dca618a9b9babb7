-- the three parts of the field are laid one behind the other.
use Prim.Native.Nat.{◌≤◌}
use native.Mathlib.Omega.{arith}
use Rattle.writing.proofs.LayingLaws.{filled_few, field_laid}
use Rattle.laying.proofs.lay.Goals as goal

pub overflow_add-result : goal.overflow_add-result
overflow_add-result c = let f = c.lay_filler-begun in
    let few : f.result ≤ 6 = filled_few c.copy.new.dst _ f.result _ (f.ensures.left, f.ensures.field) in
    omega (arith, c.requires.0)

pub returns : goal.returns
returns c = let a = c.args in
    let l = c.lay_left_over-placed in
    let n = c.min-n in
    let f = c.lay_filler-begun in let r = field_laid a.field.now a.run.now a.offset a.left_over _ _ _ l.result n.result f.result c.requires.0
    l.ensures.placed n.ensures l.ensures.field c.copy.ensures (f.ensures.left, f.ensures.field) in record { goes = r.0; field = r.1 }
