-- The reader's own bound, for source packets.
-- Assumes nothing.
use native.Mathlib.Omega.{arith}
use Rattle.packet.specs.Size.{most, source}
use Rattle.packet.proofs.Laws.{source_lawful}
use Rattle.reading.proofs.Laws.{few_enough as bound}
use Rattle.demands.specs.FewEnough.{FewEnough}

pub few_enough : FewEnough
few_enough u rec store out f a e = omega (arith, bound source most source_lawful u rec store out f a e)
