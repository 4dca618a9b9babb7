-- Writing one frame: the table of refusals (01, "When the desk says no", "Writing, in order") and what one call answers and leaves.
use Rattle.std.specs.Prelude.{Bool, not, ◌&&◌, ◌||◌, List, [], ◌∷◌, ◌≡◌, ℕ, ◌+◌, eqb, ltb, length, Option, Result, Ok, Err}
use Rattle.packet.specs.Chain.{chain_of, distance_of}
use Rattle.frame.specs.Closing.{close_size, frame_around, row20, row25}
use Rattle.frame.specs.Counts.{after}
use Rattle.frame.specs.Opening.{row1}
use Rattle.table.specs.Table.{Row, row, first_cause}
use Rattle.frame.specs.declared.closing.ControlWord.{ControlWord}
use Rattle.frame.specs.declared.set_up.SetUp.{SetUp}
use Rattle.writing.specs.declared.Place.{Place}
use Rattle.writing.specs.declared.Refusal.{Refusal}
use Rattle.writing.specs.declared.Refusal.TheVariants.{SetUpRange, ChannelAbove, RunLength, NotAChain, OffsetPast, LeftOver, OutputLength}
use Rattle.writing.specs.Laying.{field_of, left_over_after, most_left, nothing_of, pointer_of, run_part}

-- "run over 65,536 octets"
abbrev pub most_run : ℕ
most_run = 65536

unfoldable pub row21 : List ℕ → Bool
row21 run = ltb most_run (length run)

-- "run not a chain of whole version 000 packets (an empty run is one)"
unfoldable pub row22 : List ℕ → Bool
row22 run = not (chain_of run)

-- "offset past the run's end"
unfoldable pub row23 : List ℕ → ℕ → Bool
row23 run offset = ltb (length run) offset

-- "left-over above 6, or not zero while the offset is neither 0 nor the run's end"
unfoldable pub row24 : ℕ → ℕ → ℕ → Bool
row24 end offset left = ltb most_left left || (not (eqb left 0) && (not (eqb offset 0) && not (eqb offset end)))

-- rows 1 and 20 to 25, in the paper's order
unfoldable pub write_table : SetUp → ℕ → Place → List ℕ → List ℕ → List (Row Refusal)
write_table u channel p run out =
    row SetUpRange (row1 u) ∷ row ChannelAbove (row20 channel) ∷ row RunLength (row21 run) ∷ row NotAChain (row22 run)
    ∷ row OffsetPast (row23 run p.offset) ∷ row LeftOver (row24 (length run) p.offset p.left_over)
    ∷ row OutputLength (row25 u out) ∷ []

-- the data field and the pointer of the frame
abbrev pub laid_field : SetUp → Option ControlWord → List ℕ → Place → List ℕ
laid_field u w run p = field_of (close_size u w) run p.offset p.left_over

abbrev pub laid_pointer : SetUp → Option ControlWord → List ℕ → Place → ℕ
laid_pointer u w run p =
    pointer_of (close_size u w) (distance_of run p.offset) p.left_over (nothing_of run p.offset p.left_over)

-- the frame: header, data field, control word, check
unfoldable pub frame_written : SetUp → ℕ → Place → Option ControlWord → List ℕ → List ℕ
frame_written u channel p w run = frame_around u channel p.master p.count w (laid_pointer u w run p) (laid_field u w run p)

-- "New offset, left-over and counts are returned": "counts go up by one modulo 256"
unfoldable pub next_place : SetUp → Place → Option ControlWord → List ℕ → Place
next_place u p w run =
    record {
      offset = p.offset + length (run_part (close_size u w) run p.offset p.left_over);
      left_over = left_over_after (close_size u w) run p.offset p.left_over;
      master = record { 0 = after p.master.0 };
      count = record { 0 = after p.count.0 };
    }

-- one call: its answer, what the next call is given, and the output; on a refusal both as they were
unfoldable pub answer_of : SetUp → ℕ → Place → List ℕ → List ℕ → Result (Unit {0}) Refusal
answer_of u channel p run out = first_cause (write_table u channel p run out) Err (Ok tt)

unfoldable pub next_of : SetUp → ℕ → Place → Option ControlWord → List ℕ → List ℕ → Place
next_of u channel p w run out = first_cause (write_table u channel p run out) (λ _. p) (next_place u p w run)

unfoldable pub output_of : SetUp → ℕ → Place → Option ControlWord → List ℕ → List ℕ → List ℕ
output_of u channel p w run out = first_cause (write_table u channel p run out) (λ _. out) (frame_written u channel p w run)

-- what a call must answer and leave behind
pub record Wrote (u : SetUp) (channel : ℕ) (p : Place) (w : Option ControlWord) (run out : List ℕ) (answer : Result (Unit {0}) Refusal) (next : Place) (out' : List ℕ) : Type 0 where
  pub answers : answer ≡ answer_of u channel p run out
  pub goes_on : next ≡ next_of u channel p w run out
  pub output_left : out' ≡ output_of u channel p w run out
