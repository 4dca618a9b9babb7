-- What every group of the boundary has: the words that an answer leaves of those lent for it, set-ups and control words as numbers.
use Rattle.std.specs.Prelude.{not, List, ◌++◌, ℕ, eqb, length, take, drop, Option, Some, None}
use Rattle.octets.specs.Pick.{pick}
use Rattle.frame.specs.declared.closing.ControlWord.{ControlWord}
use Rattle.frame.specs.declared.counts.ChannelCount.{ChannelCount}
use Rattle.frame.specs.declared.counts.MasterCount.{MasterCount}
use Rattle.frame.specs.declared.set_up.SetUp.{SetUp}

-- a shorter `answer` gets the words that fit, a longer one keeps the rest
unfoldable pub laid_words : List ℕ → List ℕ → List ℕ
laid_words old new = take (length old) new ++ drop (length new) old

-- 0 is no, anything else yes
abbrev pub set_up_of : ℕ → ℕ → ℕ → SetUp
set_up_of octets spacecraft check = record { length = octets; spacecraft = spacecraft; error_control = not (eqb check 0) }

abbrev pub given_word : ℕ → ℕ → Option ControlWord
given_word has word = pick (eqb has 0) None (Some (record { 0 = word }))

-- the two counts, each of its own type
abbrev pub given_master : ℕ → MasterCount
given_master master = record { 0 = master }

abbrev pub given_count : ℕ → ChannelCount
given_count count = record { 0 = count }
