-- the last octets of the shortest idle packet, as many as fit.
use mathlib.Core.Path.{◌∙◌, ap}
use lib.ListN.{length}
use Rattle.octets.specs.Laid.{laid}
use Rattle.writing.proofs.LayingLaws.{left_taken}
use Rattle.laying.proofs.lay_left_over.Goals as goal

pub returns : goal.returns
returns c = let a = c.args in
    let n = c.min-n in record { placed = n.ensures; field = c.copy.ensures ∙ ap (laid a.field.now 0) (left_taken (length a.field.now) a.left_over n.result c.requires n.ensures) }
