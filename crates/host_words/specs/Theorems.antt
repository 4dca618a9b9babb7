-- What is proved of a saved record's words besides the functions' contracts. The proofs are in proofs/Laws.antt, under these names in lower case.
use Rattle.std.specs.Prelude.{◌≡◌, true, List, ◌⊎◌, ◌↔◌, ℕ, ◌+◌, ◌*◌, ◌/◌, ◌%◌, ◌^◌, ◌<◌, length, get_or, replicate}
use Rattle.packet.specs.Size.{most, source}
use Rattle.channel.specs.Busy.{mask_of}
use Rattle.channel.specs.Rules.{record_follows}
use Rattle.channel.specs.State.{fresh_channel, fresh_record}
use Rattle.channel.specs.declared.state.Record.{Record}
use Rattle.host_words.specs.Busy.{seen}
use Rattle.host_words.specs.Words.{NumbersFit, packed, unpacked}

-- a record of the right shape: eight channels, counts below 256, numbers below 2^32
pub record Shaped (rec : Record) : Type 0 where
  pub eight : length rec.channels ≡ 8
  pub counts : (v : ℕ) → v < 8 → (get_or rec.channels v fresh_channel).last.0 < 256
  pub numbers : NumbersFit rec

-- unpacking what was packed gives the record
abbrev pub UnpacksPacked : Type 0
UnpacksPacked = (rec : Record) → Shaped rec → unpacked (packed rec) ≡ rec

-- what is packed is 32 words
abbrev pub PacksWords : Type 0
PacksWords = (rec : Record) → Shaped rec → (length (packed rec) ≡ 32) × ((i : ℕ) → get_or (packed rec) i 0 < 2 ^ 32)

-- 32 zero words are the fresh record
abbrev pub FreshWords : Type 0
FreshWords = (packed fresh_record ≡ replicate 32 0) × (unpacked (replicate 32 0) ≡ fresh_record)

-- words of a record that follows the rules are their own re-packing
abbrev pub OwnWords : Type 0
OwnWords = (words store : List ℕ) → record_follows source most store (unpacked words) ≡ true → packed (unpacked words) ≡ words

-- words that no record has: another number of words, heard above 1, a count above 255, a state above 2, hunting with a number that is
-- not 0
abbrev pub OddChannel : ℕ → ℕ → ℕ → ℕ → Type 0
OddChannel heard count state number = (1 < heard) ⊎ ((255 < count) ⊎ ((2 < state) ⊎ ((state ≡ 0) × (number ≡ 0 → ⊥))))

abbrev pub Odd : List ℕ → Type 0
Odd words =
    (length words ≡ 32 → ⊥)
    ⊎ ((v : ℕ) × (v < 8)
    × OddChannel (get_or words (4 * v) 0) (get_or words (4 * v + 1) 0) (get_or words (4 * v + 2) 0) (get_or words (4 * v + 3) 0))

-- channel v is busy: its four words are all there, and state 2, or state 1 with a number that is not 0
abbrev pub BusyAt : List ℕ → ℕ → Type 0
BusyAt words v = (4 * v + 3 < length words) × ((get_or words (4 * v + 2) 0 ≡ 2) ⊎ ((get_or words (4 * v + 2) 0 ≡ 1) × (get_or words (4 * v + 3) 0 ≡ 0 → ⊥)))

-- the bit of value 2^v of the mask says so, and there is no bit above channel 7
abbrev pub BusyExactly : Type 0
BusyExactly = (words : List ℕ) → ((v : ℕ) → v < 8 → mask_of (seen words) / 2 ^ v % 2 ≡ 1 ↔ BusyAt words v) × (mask_of (seen words) < 256)
