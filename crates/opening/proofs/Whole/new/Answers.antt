-- rows 1 and 5.
use mathlib.Core.Path.{◌∙◌, sym}
use native.Mathlib.Omega.{arith}
use Rattle.frame.proofs.SetUpLaws.{in_range}
use Rattle.opening.proofs.Whole.new.Goals as goal

pub header_of-header-requires : goal.header_of-header-requires
header_of-header-requires c = omega (arith, (in_range _).0 (sym c.fits.ensures ∙ c.if-not-fits.false))

pub invariant_of-result : goal.invariant_of-result
invariant_of-result c = let fits = sym c.fits.ensures ∙ c.if-not-fits.false in
    record { fits = fits; whole = c.if-octets-set.false; long = omega (arith, (in_range _).0 fits); told = c.header_of-header.ensures }
