-- before the offset the distance is counted from a packet's start, and behind it by difference.
use Prim.Native.Nat.{◌-◌}
use Rattle.packet.proofs.ChainTurns.{Passed}
use Rattle.chain.proofs.distance.Given as goal

abbrev pub invariant-loop-at : goal.invariant-loop-at
invariant-loop-at l = Passed l.run l.offset l.at

abbrev pub decreases-loop-at : goal.decreases-loop-at
decreases-loop-at l = l.offset - l.at
