-- A number tells its refusal: no two have the same, and none has 0, which says that there is none.
-- Assumes nothing.
use Rattle.std.proofs.Common.{◌≡◌, ℕ, ◌<◌, eqb, [], ◌∷◌, get_or, sym, refl, ap, ◌∙◌, arith}
use Rattle.octets.specs.Pick.{pick}
use Rattle.frame.specs.declared.closing.CloseRefusal.{CloseRefusal}
use Rattle.frame.specs.declared.opening.Refusal.{Refusal}
use Rattle.frame.specs.declared.opening.Refusal.TheVariants.{SetUpRange, FrameLength, FrameCheck, FrameVersion, OtherSpacecraft, SecondaryHeader, NoData, OrderOrSegment, PointerPlace}
use Rattle.frame.specs.Answers.{number_of, close_number_of}
use Rattle.frame.specs.Theorems.{NumberOne, NumberSome, CloseNumberOne, CloseNumberSome}

-- opening: the refusal that stands at its number
abbrev case_of : ℕ → Refusal
case_of n = get_or
    (SetUpRange ∷ SetUpRange ∷ SetUpRange ∷ SetUpRange ∷ SetUpRange ∷ FrameLength ∷ FrameCheck ∷ FrameVersion ∷ OtherSpacecraft
    ∷ SecondaryHeader ∷ NoData ∷ OrderOrSegment ∷ PointerPlace ∷ []) n SetUpRange

case_back : (r : Refusal) → (case_of (number_of r) ≡ r) × (0 < number_of r)
case_back SetUpRange = (refl, omega arith)
case_back FrameLength = (refl, omega arith)
case_back FrameCheck = (refl, omega arith)
case_back FrameVersion = (refl, omega arith)
case_back OtherSpacecraft = (refl, omega arith)
case_back SecondaryHeader = (refl, omega arith)
case_back NoData = (refl, omega arith)
case_back OrderOrSegment = (refl, omega arith)
case_back PointerPlace = (refl, omega arith)

pub number_one : NumberOne
number_one s r e = sym (case_back s).0 ∙ ap case_of e ∙ (case_back r).0

pub number_some : NumberSome
number_some r = (case_back r).1

-- closing
abbrev close_case_of : ℕ → CloseRefusal
close_case_of n = pick (eqb n 1) CloseRefusal.SetUpRange (pick (eqb n 20) CloseRefusal.ChannelAbove CloseRefusal.OutputLength)

close_case_back : (r : CloseRefusal) → (close_case_of (close_number_of r) ≡ r) × (0 < close_number_of r)
close_case_back CloseRefusal.SetUpRange = (refl, omega arith)
close_case_back CloseRefusal.ChannelAbove = (refl, omega arith)
close_case_back CloseRefusal.OutputLength = (refl, omega arith)

pub close_number_one : CloseNumberOne
close_number_one s r e = sym (close_case_back s).0 ∙ ap close_case_of e ∙ (close_case_back r).0

pub close_number_some : CloseNumberSome
close_number_some r = (close_case_back r).1
