-- the check over all octets before it, in the last two.
use mathlib.Core.Path.{◌∙◌}
use Rattle.frame.proofs.ClosingLaws.{check_laid, check_none}
use Rattle.closing.proofs.write_check.Goals as goal

pub returns-then-set : goal.returns-then-set
returns-then-set c = rw c.syndrome-field.ensures at c.put.ensures ∙ check_laid _ _ c.if-set.true c.requires

pub returns-else-set : goal.returns-else-set
returns-else-set c = check_none _ _ c.if-set.false
