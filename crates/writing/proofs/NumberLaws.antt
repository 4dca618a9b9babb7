-- A number tells its refusal: no two have the same, and none has 0, which says that there is none.
-- Assumes nothing.
use mathlib.Core.Path.{◌≡◌, refl, ◌∙◌, sym, ap}
use mathlib.Core.List.{[], ◌∷◌}
use Prim.Native.Nat.{ℕ, ◌-◌, ◌<◌}
use native.Mathlib.Omega.{arith}
use lib.ListN.{get_or}
use Rattle.writing.specs.declared.Refusal.{Refusal}
use Rattle.writing.specs.declared.Refusal.TheVariants.{SetUpRange, ChannelAbove, RunLength, NotAChain, OffsetPast, LeftOver, OutputLength}
use Rattle.writing.specs.Answers.{number_of}

-- the refusal that stands at its number
abbrev case_of : ℕ → Refusal
case_of n = get_or (SetUpRange ∷ ChannelAbove ∷ RunLength ∷ NotAChain ∷ OffsetPast ∷ LeftOver ∷ OutputLength ∷ []) (n - 19) SetUpRange

pub case_back : (r : Refusal) → (case_of (number_of r) ≡ r) × (0 < number_of r)
case_back SetUpRange = (refl, omega arith)
case_back ChannelAbove = (refl, omega arith)
case_back RunLength = (refl, omega arith)
case_back NotAChain = (refl, omega arith)
case_back OffsetPast = (refl, omega arith)
case_back LeftOver = (refl, omega arith)
case_back OutputLength = (refl, omega arith)

pub number_one : (s r : Refusal) → number_of s ≡ number_of r → s ≡ r
number_one s r e = sym (case_back s).0 ∙ ap case_of e ∙ (case_back r).0
