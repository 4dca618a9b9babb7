-- Demand 1: a refusal gives one number of the paper's table, by the paper's order, never without its cause, and changes nothing. Each field is a
-- theorem of the crate that it is about; the proof is in proofs/Demand1.antt.
use Rattle.packet.specs.Size.{most, source}
use Rattle.frame.specs.Theorems as frame
use Rattle.reading.specs.Theorems as reader
use Rattle.writing.specs.Theorems as writer

pub record Demand1 : Type 0 where
  -- reading: a number is given exactly when its cause holds and no earlier one does; a frame is accepted exactly when no cause holds
  pub reading_numbers : reader.NumberExactly source most
  pub reading_accepts : reader.AcceptedExactly source most
  -- "record, store and output are untouched"; "every other returned value is zero"
  pub reading_untouched : reader.RefusedUntouched source most
  pub reading_zero : reader.RefusedZero source most
  -- writing: the same; "the offset, left-over and both counts come back as given", and the output is untouched
  pub writing_numbers : writer.NumberExactly
  pub writing_accepts : writer.WrittenExactly
  pub writing_untouched : writer.RefusedUntouched
  -- the frame part by itself: opening and closing
  pub opening_numbers : frame.NumberExactly
  pub opening_accepts : frame.AcceptedExactly
  pub opening_zero : frame.RefusedZero
  pub closing_numbers : frame.CloseExactly
  pub closing_writes : frame.CloseWritten
  pub closing_untouched : frame.CloseUntouched
