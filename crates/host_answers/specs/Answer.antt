-- What a reading or a writing takes and returns as words, and what must fit a word.
use Rattle.std.specs.Prelude.{List, ◌≡◌, ℕ, ◌^◌, ◌<◌, length, Result, Ok, Err}
use Rattle.channel.specs.declared.state.Record.{Record}
use Rattle.reading.specs.Answers.{number_of}
use Rattle.reading.specs.declared.Refusal.{Refusal}
use Rattle.reading.specs.declared.Report.{Report}
use Rattle.writing.specs.declared.Place.{Place}
use Rattle.host_words.specs.Words.{NumbersFit, packed}
use Rattle.host.specs.Answer.{given_master, given_count}

-- where a writing goes on, and the counts of its frame
abbrev pub given_place : ℕ → ℕ → ℕ → ℕ → Place
given_place master count offset left =
    record { offset = offset; left_over = left; master = given_master master; count = given_count count }

-- what a reading returns: the paper's number, 0 when it is accepted
abbrev pub read_number : Result Report Refusal → ℕ
read_number (Err r) = number_of r
read_number (Ok a) = 0

-- the saved record: on a refusal as it was, else the new record's words
abbrev pub saved_by : Result Report Refusal → List ℕ → Record → List ℕ
saved_by (Err r) words after = words
saved_by (Ok a) words after = packed after

-- the values of a report that are wider than a word in the reader fit one
pub record ReportFits (a : Report) : Type 0 where
  pub channel : a.header.channel < 2 ^ 32
  pub pointer : a.header.pointer < 2 ^ 32
  pub delivered : a.delivered < 2 ^ 32
  pub idle : a.idle < 2 ^ 32
  pub broken : a.broken < 2 ^ 32
  pub disagreement : a.disagreement < 2 ^ 32
  pub foreign : a.foreign < 2 ^ 32
  pub oversize : a.oversize < 2 ^ 32

-- what an answer must be for its words to be laid down: if it is accepted, all fits, and the saved record has its 32 words
abbrev pub Lays : Result Report Refusal → Record → List ℕ → Type 0
Lays (Err r) after words = Unit {0}
Lays (Ok a) after words = ReportFits a × (NumbersFit after) × (length words ≡ 32)
