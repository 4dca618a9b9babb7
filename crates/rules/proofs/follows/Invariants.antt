-- the record follows exactly when the channels not passed yet do.
use mathlib.Core.Path.{◌≡◌}
use lib.ListN.{drop}
use Rattle.packet.specs.Size.{most, source}
use Rattle.channel.specs.Rules.{record_follows, all_follow}
use Rattle.rules.proofs.follows.Given as goal

abbrev pub invariant-loop-v : goal.invariant-loop-v
invariant-loop-v l = record_follows source most l.fn.store l.fn.rec ≡ all_follow source most l.fn.store l.v (drop l.v l.fn.rec.channels)
