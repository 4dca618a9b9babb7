-- The paper's number and values for each case of the answers (01, "When the desk says no").
use Rattle.std.specs.Prelude.{ℕ, Bool, List, [], ◌∷◌, ◌++◌, replicate, Result, Ok, Err}
use Rattle.octets.specs.Pick.{pick}
use Rattle.frame.specs.declared.closing.CloseRefusal.{CloseRefusal}
use Rattle.frame.specs.declared.header.Header.{Header}
use Rattle.frame.specs.declared.opening.Frame.{Frame}
use Rattle.frame.specs.declared.opening.Refusal.{Refusal}
use Rattle.frame.specs.declared.opening.Refusal.TheVariants.{SetUpRange, FrameLength, FrameCheck, FrameVersion, OtherSpacecraft, SecondaryHeader, NoData, OrderOrSegment, PointerPlace}

-- the number of each refusal
abbrev pub number_of : Refusal → ℕ
number_of SetUpRange = 1
number_of FrameLength = 5
number_of FrameCheck = 6
number_of FrameVersion = 7
number_of OtherSpacecraft = 8
number_of SecondaryHeader = 9
number_of NoData = 10
number_of OrderOrSegment = 11
number_of PointerPlace = 12

abbrev pub close_number_of : CloseRefusal → ℕ
close_number_of CloseRefusal.SetUpRange = 1
close_number_of CloseRefusal.ChannelAbove = 20
close_number_of CloseRefusal.OutputLength = 25

-- a flag as a number
abbrev pub bit : Bool → ℕ
bit b = pick b 1 0

-- spacecraft, channel, control-word flag, master count, channel count, secondary header flag, synchronisation flag, order flag,
-- segment id, pointer
abbrev pub header_values : Header → List ℕ
header_values h =
    h.spacecraft ∷ h.channel ∷ bit h.flagged ∷ h.master.0 ∷ h.count.0 ∷ bit h.secondary ∷ bit h.synchronisation
    ∷ bit h.order ∷ h.segment ∷ h.pointer ∷ []

-- opening: the number (0: accepted), the header values, the control word, place and length of the data field;
-- "A refusal returns its number [..] every other returned value is zero"
unfoldable pub values_of : Result Frame Refusal → List ℕ
values_of (Err r) = number_of r ∷ replicate 13 0
values_of (Ok x) = 0 ∷ header_values x.header ++ (x.word ∷ x.place ∷ x.size ∷ [])

-- closing: the number (0: written)
unfoldable pub close_value_of : Result (Unit {0}) CloseRefusal → ℕ
close_value_of (Err r) = close_number_of r
close_value_of (Ok _) = 0
