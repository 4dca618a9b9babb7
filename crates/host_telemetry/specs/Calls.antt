-- What a call of reading, writing or the busy mask returns and leaves behind.
use Rattle.std.specs.Prelude.{List, [], ◌∷◌, ◌≡◌, ℕ, Option}
use Rattle.frame.specs.declared.closing.ControlWord.{ControlWord}
use Rattle.frame.specs.declared.set_up.SetUp.{SetUp}
use Rattle.channel.specs.Busy.{mask_of, count_of, lowest_of}
use Rattle.channel.specs.declared.state.Channel.{Channel}
use Rattle.reading.specs.Answers.{values_of as read_values}
use Rattle.reading.specs.Reading.{answer_of as read_answer, record_of, store_of, output_of as read_output}
use Rattle.writing.specs.Answers.{answer_number, values_of as write_values}
use Rattle.writing.specs.Writing.{answer_of as write_answer, next_of, output_of as write_output}
use Rattle.writing.specs.declared.Place.{Place}
use Rattle.host.specs.Answer.{laid_words}
use Rattle.host_answers.specs.Answer.{read_number, saved_by}
use Rattle.host_words.specs.Busy.{seen}
use Rattle.host_words.specs.Words.{unpacked}

-- scowdeck_read: the reader's answer for the record that the words are; its 20 words are those of `read_values`, in that order
pub record ReadCall (u : SetUp) (words store out f answer : List ℕ) (r : ℕ) (words' store' out' answer' : List ℕ) : Type 0 where
  pub number : r ≡ read_number (read_answer u (unpacked words) store out f)
  pub record_left : words' ≡ saved_by (read_answer u (unpacked words) store out f) words (record_of u (unpacked words) store out f)
  pub store_left : store' ≡ store_of u (unpacked words) store out f
  pub output_left : out' ≡ read_output u (unpacked words) store out f
  pub answer_left : answer' ≡ laid_words answer (read_values (read_answer u (unpacked words) store out f))

-- scowdeck_write: the writer's answer, and where the next call goes on; its 5 words are those of `write_values`
pub record WriteCall (u : SetUp) (channel : ℕ) (p : Place) (w : Option ControlWord) (run out answer : List ℕ) (r : ℕ) (out' answer' : List ℕ) : Type 0 where
  pub number : r ≡ answer_number (write_answer u channel p run out)
  pub output_left : out' ≡ write_output u channel p w run out
  pub answer_left : answer' ≡ laid_words answer (write_values (write_answer u channel p run out) (next_of u channel p w run out))

-- mask, how many ones, lowest channel
abbrev pub busy_values : List Channel → List ℕ
busy_values cs = mask_of cs ∷ count_of cs ∷ lowest_of cs ∷ []

-- scowdeck_busy: the mask of the states seen; its 3 words are those of `busy_values`
pub record BusyCall (words answer : List ℕ) (r : ℕ) (answer' : List ℕ) : Type 0 where
  pub mask : r ≡ mask_of (seen words)
  pub answer_left : answer' ≡ laid_words answer (busy_values (seen words))
