-- A saved record as words: 32 words, 4 for each channel in order.
use Rattle.std.specs.Prelude.{true, List, [], ◌∷◌, ◌++◌, ℕ, ◌+◌, ◌*◌, ◌^◌, ◌<◌, eqb, ltb, length, get_or, replicate}
use Rattle.octets.specs.Pick.{pick}
use Rattle.frame.specs.Answers.{bit}
use Rattle.channel.specs.State.{fresh_channel}
use Rattle.channel.specs.declared.state.Channel.{Channel}
use Rattle.channel.specs.declared.state.Record.{Record}
use Rattle.channel.specs.declared.state.State.{State}
use Rattle.channel.specs.declared.state.State.TheVariants.{Hunting, Gathering, Skipping}

-- 0 hunting, 1 gathering, 2 skipping
abbrev pub state_word : State → ℕ
state_word Hunting = 0
state_word (Gathering k) = 1
state_word (Skipping r) = 2

-- k or r, 0 when hunting
abbrev pub number_word : State → ℕ
number_word Hunting = 0
number_word (Gathering k) = k
number_word (Skipping r) = r

-- a channel's four words: heard (0 or 1), last channel count, state, number
abbrev pub packed_channel : Channel → List ℕ
packed_channel c = bit c.heard ∷ c.last.0 ∷ state_word c.state ∷ number_word c.state ∷ []

-- the channels' words, in order
unfoldable pub packed_all : List Channel → List ℕ
packed_all [] = []
packed_all (c ∷ cs) = packed_channel c ++ packed_all cs

abbrev pub packed : Record → List ℕ
packed rec = packed_all rec.channels

-- what breaks the rules of every channel, heard or not: it stands for words that no channel has, so that test 4 finds them
abbrev pub broken_state : State
broken_state = Skipping 0

abbrev pub broken_channel : Channel
broken_channel = record { heard = true; last = record { 0 = 0 }; state = broken_state }

-- no channel has a state above 2, or hunts with a number that is not 0
unfoldable pub unpacked_state : ℕ → ℕ → State
unpacked_state state number =
    pick (eqb state 1) (Gathering number)
    (pick (eqb state 2) (Skipping number) (pick (eqb state 0) (pick (eqb number 0) Hunting broken_state) broken_state))

-- or heard above 1, or a count above 255
unfoldable pub unpacked_channel : ℕ → ℕ → ℕ → ℕ → Channel
unpacked_channel heard count state number =
    pick (ltb 1 heard) broken_channel
    (pick (ltb 255 count) broken_channel
    (record { heard = eqb heard 1; last = record { 0 = count }; state = unpacked_state state number }))

-- the words of channel v begin at word 4 v
unfoldable pub channel_at : List ℕ → ℕ → Channel
channel_at words v =
    unpacked_channel (get_or words (4 * v) 0) (get_or words (4 * v + 1) 0) (get_or words (4 * v + 2) 0) (get_or words (4 * v + 3) 0)

-- channels 0 to 7
abbrev pub each_channel : (ℕ → Channel) → List Channel
each_channel f = f 0 ∷ f 1 ∷ f 2 ∷ f 3 ∷ f 4 ∷ f 5 ∷ f 6 ∷ f 7 ∷ []

-- the record that words are; another number of words than 32 is none that follows the rules
unfoldable pub unpacked : List ℕ → Record
unpacked words = record { channels = pick (eqb (length words) 32) (each_channel (channel_at words)) (replicate 8 broken_channel) }

-- each channel's number fits a word
abbrev pub NumbersFit : Record → Type 0
NumbersFit rec = (v : ℕ) → v < 8 → number_word (get_or rec.channels v fresh_channel).state < 2 ^ 32
