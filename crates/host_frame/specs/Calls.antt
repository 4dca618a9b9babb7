-- What a call of opening or closing returns and leaves behind.
use Rattle.std.specs.Prelude.{List, ◌≡◌, ℕ, Option}
use Rattle.frame.specs.Answers.{values_of as open_values, close_value_of}
use Rattle.frame.specs.Closing.{close_of, output_of as close_output}
use Rattle.frame.specs.Opening.{open_of}
use Rattle.frame.specs.declared.closing.ControlWord.{ControlWord}
use Rattle.frame.specs.declared.counts.ChannelCount.{ChannelCount}
use Rattle.frame.specs.declared.counts.MasterCount.{MasterCount}
use Rattle.frame.specs.declared.set_up.SetUp.{SetUp}
use Rattle.host.specs.Answer.{laid_words}
use Rattle.host_frame.specs.Answer.{open_number}

-- scowdeck_open: what frame's opening answers; its 14 words are those of `open_values`, in that order
pub record OpenCall (u : SetUp) (f answer : List ℕ) (r : ℕ) (answer' : List ℕ) : Type 0 where
  pub number : r ≡ open_number (open_of u f)
  pub answer_left : answer' ≡ laid_words answer (open_values (open_of u f))

-- scowdeck_close: what frame's closing answers, and the frame around the data field that lies in its place in the output already
pub record CloseCall (u : SetUp) (channel : ℕ) (m : MasterCount) (c : ChannelCount) (w : Option ControlWord) (p : ℕ) (out : List ℕ) (r : ℕ) (out' : List ℕ) : Type 0 where
  pub number : r ≡ close_value_of (close_of u channel out)
  pub output_left : out' ≡ close_output u channel m c w p out
