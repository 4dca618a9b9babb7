use mathlib.Core.Path.{refl}
use Rattle.channel.specs.Store.{store_fits}
use Rattle.channel.proofs.store.Store.fits.Goals as goal

pub returns : goal.returns
unfolding store_fits
returns c = refl
