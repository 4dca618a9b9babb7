-- The paper's number and values for each case of a reading's answer (01, "When the desk says no", "What an accepted frame does").
use Rattle.std.specs.Prelude.{List, [], ◌∷◌, ◌++◌, ℕ, replicate, Result, Ok, Err}
use Rattle.frame.specs.Answers.{number_of as frame_number_of, header_values}
use Rattle.reading.specs.declared.Report.{Report}
use Rattle.reading.specs.declared.Refusal.{Refusal}
use Rattle.reading.specs.declared.Refusal.TheVariants.{OfFrame, StoreLength, OutputLength, BrokenRecord}
use Rattle.reading.specs.declared.Kind.{Kind}
use Rattle.reading.specs.declared.Kind.TheVariants.{Packets, Idle, Private}

-- the number of each refusal
abbrev pub number_of : Refusal → ℕ
number_of (OfFrame r) = frame_number_of r
number_of StoreLength = 2
number_of OutputLength = 3
number_of BrokenRecord = 4

-- 0 stands for a refusal
abbrev pub kind_number : Kind → ℕ
kind_number Packets = 1
kind_number Idle = 2
kind_number Private = 3

-- number (0: accepted), kind, header values, control word, gap, and the counts delivered, idle, broken, disagreement, foreign,
-- oversize; "In reading, every other returned value is zero"
unfoldable pub values_of : Result Report Refusal → List ℕ
values_of (Err r) = number_of r ∷ replicate 19 0
values_of (Ok a) =
    0 ∷ kind_number a.kind ∷ header_values a.header
    ++ (a.word ∷ a.gap ∷ a.delivered ∷ a.idle ∷ a.broken ∷ a.disagreement ∷ a.foreign ∷ a.oversize ∷ [])
