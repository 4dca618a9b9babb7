-- the first six octets lie in `head`, and no others tell.
use mathlib.Core.Path.{refl, ◌∙◌, ap}
use native.Mathlib.Omega.{arith}
use Rattle.packet.specs.Size.{size_of}
use Rattle.packet.proofs.Laws.{held_tell, across, head_is}
use borrow.Author.Rules.{rules}
use Rattle.packet.proofs.source.Packet.size_across.Goals as goal

pub returns-then-held-ge-HEADER : goal.returns-then-held-ge-HEADER
returns-then-held-ge-HEADER c = c.size.ensures ∙ held_tell _ _ (search rules)

pub returns : goal.returns
returns c = let a = c.args in
    let l = c.lesser-there in
    c.size-2.ensures
    ∙ ap size_of (head_is _ _ _ a.held.now a.more.now l.result refl (omega arith) l.ensures c.copy.ensures c.copy-2.ensures)
    ∙ across a.held.now a.more.now l.result (omega arith) l.ensures
