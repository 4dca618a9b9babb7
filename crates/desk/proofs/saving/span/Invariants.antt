-- the octets passed are those of the packets so far.
use mathlib.Core.Path.{◌≡◌}
use Prim.Native.Nat.{◌≤◌}
use lib.ListN.{length}
use Rattle.desk.specs.Saving.{span_of}
use Rattle.desk.proofs.saving.span.Given as goal

abbrev pub invariant-loop : goal.invariant-loop
invariant-loop l = (l.at ≡ span_of l.counter l.output) × (l.at ≤ length l.output)
