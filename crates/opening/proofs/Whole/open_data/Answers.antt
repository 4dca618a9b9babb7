-- rows 10 to 12, and what the frame gives.
use native.Mathlib.Omega.{arith}
use Rattle.frame.proofs.OpeningSteps.{filled}
use Rattle.frame.proofs.SetUpLaws.{in_range}
use Rattle.opening.proofs.Whole.open_data.Goals as goal

pub overflow_add-place-2 : goal.overflow_add-place-2
overflow_add-place-2 c = omega (arith, (in_range _).0 c.args.self.now.fits, filled _ _ _ _ c.data_size-size.ensures (omega arith))

pub word_at-word-requires : goal.word_at-word-requires
word_at-word-requires c = λ flagged. omega (arith, c.args.self.now.whole, rw flagged at (filled _ _ _ _ c.data_size-size.ensures (omega arith)))
