-- the octets are laid at the end of eight.
use Rattle.numbers.proofs.Laws.{number_of_eight}
use Rattle.numbers.proofs.number.Goals as goal

pub returns : goal.returns
returns g c = let a = c.args in
    number_of_eight a.s.now _ a.at g.row.N _ (λ i. (c.type_inv.s i).fits) c.requires.width c.requires.place c.copy.ensures c.from_be_bytes.ensures
