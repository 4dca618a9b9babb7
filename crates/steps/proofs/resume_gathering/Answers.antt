-- the packet under way goes on, or disagrees.
use Rattle.packet.specs.Size.{source}
use Rattle.walk.proofs.DoneLaws.{did_as, did_disagreed}
use Rattle.walk.proofs.GatherLaws.{held_there}
use Rattle.walk.proofs.StepLaws.{agreed, gathers_on, gathers_apart}
use Rattle.steps.proofs.resume_gathering.Goals as goal

pub slice_bounds-size_across-end : goal.slice_bounds-size_across-end
slice_bounds-size_across-end c = (held_there _ _ _ c.requires.ready.fit.whole_part c.requires.follows).0

pub slice_bounds-size_across-end-2 : goal.slice_bounds-size_across-end-2
slice_bounds-size_across-end-2 c = (held_there _ _ _ c.requires.ready.fit.whole_part c.requires.follows).1

pub returns-then-agreeing : goal.returns-then-agreeing
returns-then-agreeing c = let i = c in
    did_as (gathers_on source _ _ _ _ _ (agreed _ _ _ i.size_across-size.ensures i.agreeing.ensures i.if-agreeing.true))
    c.gather.ensures

pub returns : goal.returns
returns c = let i = c in
    did_as (gathers_apart source _ _ _ _ _ (agreed _ _ _ i.size_across-size.ensures i.agreeing.ensures i.if-agreeing.false))
    (did_disagreed _ c.hunt.ensures c.disagreement.ensures)
