-- the channels are those still to come, from the last down, and those passed, whose mask stands.
use mathlib.Core.Path.{◌≡◌}
use mathlib.Core.List.{List, ◌++◌}
use Rattle.channel.specs.declared.state.Channel.{Channel}
use Rattle.channel.specs.Busy.{mask_of}
use Rattle.channel.proofs.state.Record.busy.Given as goal

abbrev pub invariant-loop-channel : goal.invariant-loop-channel
invariant-loop-channel l =
    (passed : List Channel) × ((l.channel-iterator.iter.rest.now ++ passed ≡ l.fn.self.channels) × (l.mask ≡ mask_of passed))
