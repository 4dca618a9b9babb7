-- The register is the syndrome of the octets so far.
use mathlib.Core.Path.{◌≡◌}
use lib.ListN.{take}
use Rattle.crc.specs.Register.{syndrome_of}
use Rattle.crc.proofs.syndrome.Given as goal

abbrev pub invariant-loop-octet : goal.invariant-loop-octet
invariant-loop-octet l = l.r ≡ syndrome_of (take l.octet-index l.bytes)
