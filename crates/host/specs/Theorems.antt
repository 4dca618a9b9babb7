-- What is proved of an answer's words besides the functions' contracts. The proof is in proofs/LayLaws.antt, under its name in lower case.
use Rattle.std.specs.Prelude.{◌≡◌, List, ℕ, ◌<◌, ◌≤◌, length, get_or}
use Rattle.host.specs.Answer.{laid_words}

-- the answer keeps its length, gets the words that fit, and keeps the rest
pub record LaidEach (old new : List ℕ) : Type 0 where
  pub same_length : length (laid_words old new) ≡ length old
  pub laid : (i : ℕ) → i < length old → i < length new → get_or (laid_words old new) i 0 ≡ get_or new i 0
  pub kept : (i : ℕ) → length new ≤ i → get_or (laid_words old new) i 0 ≡ get_or old i 0

abbrev pub LaidEachLaw : Type 0
LaidEachLaw = (old new : List ℕ) → LaidEach old new
