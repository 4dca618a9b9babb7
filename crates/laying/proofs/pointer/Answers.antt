-- at each return the tests that led there say which of the three it is.
use Rattle.writing.proofs.LayingLaws.{points_idle, points_first, points_none}
use Rattle.laying.proofs.pointer.Goals as goal

pub returns-then-nothing : goal.returns-then-nothing
returns-then-nothing c = points_idle _ _ _ _ c.if-nothing.true

pub returns-then-start-d : goal.returns-then-start-d
returns-then-start-d c = points_first _ _ _ _ c.if-nothing.false c.if-start-d.true

pub returns-else-start-d : goal.returns-else-start-d
returns-else-start-d c = points_none _ _ _ _ c.if-nothing.false c.if-start-d.false
