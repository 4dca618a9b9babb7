-- Demand 1, from the theorems of the crates.
-- Assumes nothing.
use Rattle.packet.specs.Size.{most, source}
use Rattle.frame.proofs.Laws as frame
use Rattle.reading.proofs.Laws as reader
use Rattle.writing.proofs.Laws as writer
use Rattle.demands.specs.Demand1.{Demand1}

pub demand1 : Demand1
demand1 =
    record {
      reading_numbers = reader.number_exactly source most;
      reading_accepts = reader.accepted_exactly source most;
      reading_untouched = reader.refused_untouched source most;
      reading_zero = reader.refused_zero source most;
      writing_numbers = writer.number_exactly;
      writing_accepts = writer.written_exactly;
      writing_untouched = writer.refused_untouched;
      opening_numbers = frame.number_exactly;
      opening_accepts = frame.accepted_exactly;
      opening_zero = frame.refused_zero;
      closing_numbers = frame.close_exactly;
      closing_writes = frame.close_written;
      closing_untouched = frame.close_untouched;
    }
