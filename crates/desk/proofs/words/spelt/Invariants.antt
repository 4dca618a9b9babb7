-- the digits left, after those that n stands for, give what the word gives.
use mathlib.Core.Path.{◌≡◌}
use Prim.Native.Nat.{◌≤◌}
use lib.ListN.{drop}
use Rattle.desk.specs.Numbers.{largest, digits_from, decimal_of}
use Rattle.desk.proofs.words.spelt.Given as goal

abbrev pub invariant-loop-b : goal.invariant-loop-b
invariant-loop-b l = (l.n ≤ largest) × (digits_from l.n (drop l.b-index l.word) ≡ decimal_of l.word)
