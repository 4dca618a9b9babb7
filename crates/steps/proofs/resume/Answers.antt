-- state by state.
use mathlib.Core.Path.{◌≡◌}
use Rattle.channel.specs.declared.state.State.TheVariants.{Hunting}
use Rattle.walk.specs.Steps.{resumed}
use Rattle.steps.proofs.resume.Goals as goal

pub returns-in-Hunting : goal.returns-in-Hunting
unfolding resumed
returns-in-Hunting c = let e : c.args.state ≡ Hunting = c.in-Hunting.is in
    rw e c.hunt.ensures
