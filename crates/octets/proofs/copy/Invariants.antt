-- After i turns dst is what it was with the first i octets of src pasted at its place.
use mathlib.Core.Path.{◌≡◌}
use lib.Seq.{paste}
use Rattle.octets.proofs.copy.Given as goal

abbrev pub invariant-loop-i : goal.invariant-loop-i
invariant-loop-i l = l.dst ≡ paste l.initial.dst l.at l.src l.i
