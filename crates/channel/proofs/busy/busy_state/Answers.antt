-- the state's variant decides.
use Rattle.channel.specs.Busy.{busy_state}
use Rattle.channel.proofs.busy.busy_state.Goals as goal

pub returns-in-Hunting : goal.returns-in-Hunting
unfolding busy_state
returns-in-Hunting c = cc

pub returns-in-Gathering : goal.returns-in-Gathering
unfolding busy_state
returns-in-Gathering c = cc

pub returns-in-Skipping : goal.returns-in-Skipping
unfolding busy_state
returns-in-Skipping c = cc
