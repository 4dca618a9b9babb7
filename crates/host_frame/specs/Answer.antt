-- What an opening returns, and what must fit a word.
use Rattle.std.specs.Prelude.{ℕ, ◌^◌, ◌<◌, Result, Ok, Err}
use Rattle.frame.specs.Answers.{number_of as open_refusal}
use Rattle.frame.specs.declared.opening.Frame.{Frame}
use Rattle.frame.specs.declared.opening.Refusal.{Refusal}

-- what an opening returns: the paper's number, 0 when the frame is accepted
abbrev pub open_number : Result Frame Refusal → ℕ
open_number (Err r) = open_refusal r
open_number (Ok x) = 0

-- the values of a frame that are wider than a word in the frame part fit one
pub record FrameFits (x : Frame) : Type 0 where
  pub channel : x.header.channel < 2 ^ 32
  pub pointer : x.header.pointer < 2 ^ 32
  pub place : x.place < 2 ^ 32
  pub size : x.size < 2 ^ 32

abbrev pub OpenFits : Result Frame Refusal → Type 0
OpenFits (Err r) = Unit {0}
OpenFits (Ok x) = FrameFits x
