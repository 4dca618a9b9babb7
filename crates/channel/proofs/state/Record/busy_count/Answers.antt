-- the ones of the mask.
use mathlib.Core.Path.{◌∙◌, ap}
use lib.Count.{ones}
use Rattle.channel.proofs.MaskLaws.{mask_ones}
use Rattle.channel.proofs.state.Record.busy_count.Goals as goal

pub returns : goal.returns
returns c = ap ones c.busy.ensures ∙ mask_ones _
