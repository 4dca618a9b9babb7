use mathlib.Core.Path.{refl}
use Rattle.channel.specs.Store.{part_place}
use Rattle.channel.proofs.store.Store.place.Goals as goal

pub returns : goal.returns
unfolding part_place
returns c = refl
