-- the zeros below the mask's lowest bit.
use mathlib.Core.Path.{◌∙◌, ap}
use lib.Count.{count_trailing_zeros}
use borrow.Author.Rules.{rules}
use Rattle.channel.proofs.ListLaws.{length_any}
use Rattle.channel.proofs.MaskLaws.{mask_lowest}
use Rattle.channel.proofs.state.Record.lowest_busy.Goals as goal

pub returns : goal.returns
returns c = ap (count_trailing_zeros 8) c.busy.ensures ∙ mask_lowest 8 c.args.self.channels (search (rules, length_any) depth 7)
