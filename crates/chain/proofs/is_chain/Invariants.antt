-- what the test comes to from the start is what it comes to from the rest.
use mathlib.Core.Path.{◌≡◌}
use lib.ListN.{length}
use Rattle.packet.specs.Chain.{chain_of}
use Rattle.chain.proofs.is_chain.Given as goal

abbrev pub invariant-loop-n : goal.invariant-loop-n
invariant-loop-n l = chain_of l.rest ≡ chain_of l.fn.run

abbrev pub decreases-loop-n : goal.decreases-loop-n
decreases-loop-n l = length l.rest
