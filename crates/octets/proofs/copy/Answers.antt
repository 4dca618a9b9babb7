-- One octet more is pasted in each turn, and all of them are what is laid.
use Rattle.std.proofs.Common.{◌∙◌, refl, arith}
use Rattle.octets.proofs.Laws.{copied, paste_all}
use Rattle.octets.proofs.copy.Goals as goal

pub loop-i-preserved : goal.loop-i-preserved
loop-i-preserved c = let l = c.loop-i in
    let a = c.args in
    copied a.dst.now l.dst a.src.now a.at l.i _ (omega arith) (omega arith) refl l.invariant

pub returns : goal.returns
returns c = let l = c.loop-i in
    let a = c.args in
    l.invariant ∙ paste_all a.dst.now a.at a.src.now l.i (omega arith)
