-- Source packets of up to 4,096 octets are a family and a limit of which all above holds.
-- Assumes nothing.
use native.Mathlib.Omega.{arith}
use Rattle.packet.specs.Size.{most, source}
use Rattle.packet.proofs.Laws.{source_lawful}
use Rattle.walk.specs.Theorems.{Roomy}

pub source_roomy : Roomy source most
source_roomy = record { laws = source_lawful; wide = omega arith }
