-- D.
use mathlib.Core.Path.{◌∙◌, ap}
use Rattle.frame.proofs.ClosingLaws.{flagged_by_some}
use Rattle.frame.specs.Closing.{close_size}
use Rattle.frame.specs.Opening.{data_size}
use Rattle.closing.proofs.data_size_for.Goals as goal

pub returns : goal.returns
unfolding close_size
returns c = c.data_size.ensures ∙ ap (data_size _ 0) (c.is_some.ensures ∙ flagged_by_some _)
