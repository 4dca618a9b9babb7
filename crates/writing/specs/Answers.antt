-- The paper's number and values for each case of a writing's answer (01, "When the desk says no").
use Rattle.std.specs.Prelude.{List, [], ◌∷◌, ℕ, Result, Ok, Err}
use Rattle.writing.specs.declared.Place.{Place}
use Rattle.writing.specs.declared.Refusal.{Refusal}
use Rattle.writing.specs.declared.Refusal.TheVariants.{SetUpRange, ChannelAbove, RunLength, NotAChain, OffsetPast, LeftOver, OutputLength}

abbrev pub number_of : Refusal → ℕ
number_of SetUpRange = 1
number_of ChannelAbove = 20
number_of RunLength = 21
number_of NotAChain = 22
number_of OffsetPast = 23
number_of LeftOver = 24
number_of OutputLength = 25

-- the number of an answer, 0 for a frame that was written
abbrev pub answer_number : Result (Unit {0}) Refusal → ℕ
answer_number (Err r) = number_of r
answer_number (Ok _) = 0

-- number, offset, left-over, master count, channel count; `next` is what comes back: as given on a refusal
unfoldable pub values_of : Result (Unit {0}) Refusal → Place → List ℕ
values_of a next = answer_number a ∷ next.offset ∷ next.left_over ∷ next.master.0 ∷ next.count.0 ∷ []
