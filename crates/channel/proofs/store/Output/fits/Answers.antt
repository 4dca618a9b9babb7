use mathlib.Core.Path.{refl}
use Rattle.channel.specs.Store.{output_fits}
use Rattle.channel.proofs.store.Output.fits.Goals as goal

pub returns : goal.returns
unfolding output_fits
returns c = refl
