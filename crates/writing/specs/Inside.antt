-- What only the code's proofs need: what the part of a writing behind the tests answers and leaves, and what it may rely on. No public operation's
-- promise needs this file.
use Rattle.std.specs.Prelude.{true, List, ◌≡◌, ℕ, ◌≤◌, ◌<◌, length, Option, Result, Ok}
use Rattle.packet.specs.Chain.{chain_of}
use Rattle.frame.specs.Header.{channels}
use Rattle.frame.specs.SetUp.{fits_of}
use Rattle.frame.specs.declared.closing.ControlWord.{ControlWord}
use Rattle.frame.specs.declared.set_up.SetUp.{SetUp}
use Rattle.writing.specs.declared.Refusal.{Refusal}
use Rattle.writing.specs.declared.Place.{Place}
use Rattle.writing.specs.Laying.{most_left}
use Rattle.writing.specs.Writing.{most_run, next_place, frame_written}

-- what a call that passed all tests must answer and leave behind
pub record WroteBy (u : SetUp) (channel : ℕ) (p : Place) (w : Option ControlWord) (run : List ℕ) (answer : Result (Unit {0}) Refusal) (next : Place) (out' : List ℕ) : Type 0 where
  pub answers : answer ≡ Ok tt
  pub goes_on : next ≡ next_place u p w run
  pub output_left : out' ≡ frame_written u channel p w run

-- what the frame's writing may rely on
pub record Ready (u : SetUp) (channel : ℕ) (p : Place) (run out : List ℕ) : Type 0 where
  pub fits : fits_of u ≡ true
  pub channel_fits : channel < channels
  pub run_fits : length run ≤ most_run
  pub chain : chain_of run ≡ true
  pub inside : p.offset ≤ length run
  pub left_fits : p.left_over ≤ most_left
  pub output_whole : length out ≡ u.length
