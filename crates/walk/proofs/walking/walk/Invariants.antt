-- what the walk gives from the start is what it gives from here, after what is done.
use Prim.Native.Nat.{◌-◌}
use lib.ListN.{length}
use Rattle.packet.specs.Size.{source}
use Rattle.walk.proofs.WalkLaws.{Kept}
use Rattle.walk.proofs.walking.walk.Given as goal

abbrev pub invariant-loop-e : goal.invariant-loop-e
invariant-loop-e l = Kept source l.limit l.field l.from l.initial.out l.initial.t l.out l.t l.at

abbrev pub decreases-loop-e : goal.decreases-loop-e
decreases-loop-e l = length l.field - l.at
