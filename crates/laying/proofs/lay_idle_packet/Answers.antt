-- its header, its length and its octets, one behind the other.
use Rattle.writing.proofs.LayingLaws.{idle_laid}
use Rattle.laying.proofs.lay_idle_packet.Goals as goal

pub returns : goal.returns
returns c = let a = c.args in
    let p = c.requires in
    idle_laid a.field.now _ _ _ a.at a.n p.0 p.2 c.put.ensures c.put-2.ensures c.fill.ensures
