-- What is proved of reading and writing over the boundary besides the functions' contracts. The proofs are in proofs/Laws.antt, under these names in lower case.
use Rattle.std.specs.Prelude.{◌≡◌, true, false, List, ℕ, ◌*◌, ◌<◌, length, get_or, take, drop, Option, Result, Ok, Err}
use Rattle.octets.specs.Octets.{Octets}
use Rattle.packet.specs.Size.{most, source}
use Rattle.frame.specs.Opening.{row1}
use Rattle.frame.specs.declared.closing.ControlWord.{ControlWord}
use Rattle.frame.specs.declared.set_up.SetUp.{SetUp}
use Rattle.channel.specs.Busy.{mask_of}
use Rattle.channel.specs.Rules.{record_follows}
use Rattle.channel.specs.declared.state.Channel.{Channel}
use Rattle.channel.specs.declared.state.Record.{Record}
use Rattle.reading.specs.Answers.{values_of as read_values}
use Rattle.reading.specs.Reading.{answer_of as read_answer, record_of, row2, row3}
use Rattle.reading.specs.declared.Refusal.{Refusal}
use Rattle.reading.specs.declared.Refusal.TheVariants.{BrokenRecord}
use Rattle.reading.specs.declared.Report.{Report}
use Rattle.writing.specs.Answers.{answer_number, values_of as write_values}
use Rattle.writing.specs.Writing.{answer_of as write_answer}
use Rattle.writing.specs.declared.Refusal.{Refusal as WriteRefusal}
use Rattle.writing.specs.declared.Place.{Place}
use Rattle.host.specs.Answer.{laid_words}
use Rattle.host_words.specs.Busy.{seen}
use Rattle.host_answers.specs.Answer.{read_number}
use Rattle.host_telemetry.specs.Calls.{ReadCall, WriteCall, busy_values}
use Rattle.host_words.specs.Words.{packed, unpacked}
use Rattle.host_words.specs.Theorems.{Odd}

-- they are refused by 4, after 1, 2 and 3
abbrev pub OddRefused : Type 0
OddRefused = (u : SetUp) (words store out f : List ℕ) → row1 u ≡ false → row2 most store ≡ false → row3 most out ≡ false → Odd words
    → read_answer u (unpacked words) store out f ≡ Err BrokenRecord

-- the words that a reading leaves are those of the record that the reader leaves, so calls over words go on as calls over records do
abbrev pub SavedUnpacks : Type 0
SavedUnpacks = (u : SetUp) (words store out f answer : List ℕ) (r : ℕ) (words' store' out' answer' : List ℕ)
    → ReadCall u words store out f answer r words' store' out' answer' → unpacked words' ≡ record_of u (unpacked words) store out f

-- and with the store that an accepted call leaves they pass test 4 again
abbrev pub SavedFollows : Type 0
SavedFollows = (u : SetUp) (words store out f answer : List ℕ) (r : ℕ) (words' store' out' answer' : List ℕ) → Octets store → Octets f
    → ReadCall u words store out f answer r words' store' out' answer' → r ≡ 0 → record_follows source most store' (unpacked words') ≡ true

-- channels that an accepted frame is not of keep their words
abbrev pub OthersKeep : Type 0
OthersKeep = (u : SetUp) (words store out f answer : List ℕ) (r : ℕ) (words' store' out' answer' : List ℕ) (a : Report) (w : ℕ)
    → ReadCall u words store out f answer r words' store' out' answer'
    → read_answer u (unpacked words) store out f ≡ Ok a → w < 8 → (w ≡ a.header.channel → ⊥)
    → take 4 (drop (4 * w) words') ≡ take 4 (drop (4 * w) words)

-- on a refusal nothing but `answer` is written
abbrev pub ReadRefused : Type 0
ReadRefused = (u : SetUp) (words store out f answer : List ℕ) (r : ℕ) (words' store' out' answer' : List ℕ)
    → ReadCall u words store out f answer r words' store' out' answer' → (r ≡ 0 → ⊥) → (words' ≡ words) × (store' ≡ store) × (out' ≡ out)

abbrev pub WriteRefused : Type 0
WriteRefused = (u : SetUp) (channel : ℕ) (p : Place) (w : Option ControlWord) (run out answer : List ℕ) (r : ℕ) (out' answer' : List ℕ)
    → WriteCall u channel p w run out answer r out' answer' → (r ≡ 0 → ⊥)
    → (out' ≡ out) × (answer' ≡ laid_words answer (write_values (write_answer u channel p run out) p))

-- how many words an answer is
abbrev pub AnswerSizes : Type 0
AnswerSizes = ((a : Result Report Refusal) → length (read_values a) ≡ 20) × ((a : Result (Unit {0}) WriteRefusal) (p : Place) → length (write_values a p) ≡ 5)
    × ((cs : List Channel) → length (busy_values cs) ≡ 3)

-- and the number that is returned is the first
abbrev pub NumberFirst : Type 0
NumberFirst = ((a : Result Report Refusal) → get_or (read_values a) 0 0 ≡ read_number a) × ((a : Result (Unit {0}) WriteRefusal) (p : Place) → get_or (write_values a p) 0 0 ≡ answer_number a)
    × ((cs : List Channel) → get_or (busy_values cs) 0 0 ≡ mask_of cs)

-- the busy mask's answer for a record that was packed is the record's mask, count and lowest channel
abbrev pub BusyPacked : Type 0
BusyPacked = (rec : Record) → length rec.channels ≡ 8 → busy_values (seen (packed rec)) ≡ busy_values rec.channels
