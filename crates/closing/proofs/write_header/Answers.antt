-- its three numbers of 16 bits are the header.
use mathlib.Core.Path.{◌∙◌, sym, ap}
use native.Mathlib.Omega.{arith}
use Rattle.octets.specs.Laid.{laid}
use Rattle.frame.proofs.ClosingLaws.{from_bool_bit, header_three, three_laid}
use Rattle.frame.proofs.SetUpLaws.{in_range}
use Rattle.closing.proofs.write_header.Goals as goal

pub returns : goal.returns
returns c = let s = c in
    let a = s.args in
    three_laid a.output.now _ _ _ _ _ _ s.requires.2 (rw (c.from.ensures, from_bool_bit) at c.put.ensures) c.put-2.ensures c.put-3.ensures
    ∙ ap (laid a.output.now 0) (sym (header_three a.set a.channel a.master a.count a.flagged a.pointer
    (omega (arith, (in_range _).0 s.requires.0)) s.requires.1 (omega arith) (omega arith)))
