-- What is proved of opening and closing over the boundary besides the functions' contracts. The proofs are in proofs/Laws.antt, under these names in lower case.
use Rattle.std.specs.Prelude.{◌≡◌, List, [], ◌∷◌, ◌↔◌, ℕ, ◌^◌, ◌<◌, eqb, length, get_or, take, drop, replicate, Option, Result, Ok}
use Rattle.octets.specs.Pick.{pick}
use Rattle.frame.specs.Answers.{number_of as open_refusal, values_of as open_values, close_number_of}
use Rattle.frame.specs.Closing.{close_size, close_table, field_in}
use Rattle.frame.specs.Opening.{frame_of, open_table}
use Rattle.frame.specs.Theorems.{Points}
use Rattle.frame.specs.declared.closing.CloseRefusal.{CloseRefusal}
use Rattle.frame.specs.declared.closing.ControlWord.{ControlWord}
use Rattle.frame.specs.declared.counts.ChannelCount.{ChannelCount}
use Rattle.frame.specs.declared.counts.MasterCount.{MasterCount}
use Rattle.frame.specs.declared.opening.Frame.{Frame}
use Rattle.frame.specs.declared.opening.Refusal.{Refusal as OpenRefusal}
use Rattle.frame.specs.declared.set_up.SetUp.{SetUp}
use Rattle.table.specs.Table.{First, None}
use Rattle.host.specs.Answer.{laid_words, given_count, given_master, given_word}
use Rattle.host_frame.specs.Answer.{open_number}
use Rattle.host_frame.specs.Calls.{CloseCall, OpenCall}

-- an opening's answer is 14 words, and the number that is returned is the first
abbrev pub OpenWords : Type 0
OpenWords = (o : Result Frame OpenRefusal) → (length (open_values o) ≡ 14) × (get_or (open_values o) 0 0 ≡ open_number o)

-- opening: a number is given exactly when its cause holds and no earlier one does, and 0 exactly when no cause holds
abbrev pub OpenReturns : Type 0
OpenReturns = (u : SetUp) (f answer : List ℕ) (r : ℕ) (answer' : List ℕ) → OpenCall u f answer r answer'
    → ((x : OpenRefusal) → r ≡ open_refusal x ↔ First (open_table u f) x) × (r ≡ 0 ↔ None (open_table u f))

-- then the words are those of what the frame gives
abbrev pub OpenAccepted : Type 0
OpenAccepted = (u : SetUp) (f answer : List ℕ) (r : ℕ) (answer' : List ℕ) → OpenCall u f answer r answer' → r ≡ 0
    → answer' ≡ laid_words answer (open_values (Ok (frame_of u f)))

-- on a refusal all but the number are zero
abbrev pub OpenRefused : Type 0
OpenRefused = (u : SetUp) (f answer : List ℕ) (r : ℕ) (answer' : List ℕ) → OpenCall u f answer r answer' → (r ≡ 0 → ⊥)
    → answer' ≡ laid_words answer (r ∷ replicate 13 0)

-- closing: a number is given exactly when its cause holds and no earlier one does, and 0 exactly when no cause holds
abbrev pub CloseReturns : Type 0
CloseReturns = (u : SetUp) (channel : ℕ) (m : MasterCount) (c : ChannelCount) (w : Option ControlWord) (p : ℕ) (out : List ℕ) (r : ℕ) (out' : List ℕ)
    → CloseCall u channel m c w p out r out'
    → ((x : CloseRefusal) → r ≡ close_number_of x ↔ First (close_table u channel out) x) × (r ≡ 0 ↔ None (close_table u channel out))

-- a refused closing leaves the output
abbrev pub CloseRefused : Type 0
CloseRefused = (u : SetUp) (channel : ℕ) (m : MasterCount) (c : ChannelCount) (w : Option ControlWord) (p : ℕ) (out : List ℕ) (r : ℕ) (out' : List ℕ)
    → CloseCall u channel m c w p out r out' → (r ≡ 0 → ⊥) → out' ≡ out

-- a frame that was closed opens with the values given, around the data field that lay in the output: no secondary header, synchronisation
-- and order flags 0, segment id 11, and the control word or none
abbrev pub CloseOpens : Type 0
CloseOpens = (u : SetUp) (channel m c has word p : ℕ) (out out' answer : List ℕ) (r : ℕ) (answer' : List ℕ) → m < 256 → c < 256 → word < 2 ^ 32
    → Points p (close_size u (given_word has word)) → CloseCall u channel (given_master m) (given_count c) (given_word has word) p out 0 out'
    → OpenCall u out' answer r answer'
    → (r ≡ 0)
    × (answer' ≡ laid_words answer
    (0 ∷ u.spacecraft ∷ channel ∷ pick (eqb has 0) 0 1 ∷ m ∷ c ∷ 0 ∷ 0 ∷ 0 ∷ 3 ∷ p ∷ pick (eqb has 0) 0 word ∷ 6 ∷ close_size u (given_word has word) ∷ []))
    × (take (close_size u (given_word has word)) (drop 6 out') ≡ field_in u (given_word has word) out)
