-- the last of its eight octets are laid.
use mathlib.Core.Path.{◌∙◌, ap}
use Rattle.octets.specs.Laid.{laid}
use Rattle.numbers.proofs.Laws.{last_of_eight}
use Rattle.numbers.proofs.put.Goals as goal

pub returns : goal.returns
returns g c = let a = c.args in
    let v = c.to_be_bytes-all in
    c.copy.ensures ∙ ap (laid a.s.now a.at) (last_of_eight g.row.N a.v v.result c.requires.width v.ensures)
