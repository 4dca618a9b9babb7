-- One answer for `take` (specs/Theorems).
-- Assumes nothing.
use native.Mathlib.Omega.{arith}
use Rattle.desk.specs.Theorems.{TakeOnce}

pub take_once : TakeOnce
take_once u desk store out f t t₂ store' store₂ out' out₂ r q o r₂ q₂ o₂ = grind arith
