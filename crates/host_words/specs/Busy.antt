-- What the busy mask reads of a saved record's words: the states alone.
use Rattle.std.specs.Prelude.{true, List, ℕ, ◌+◌, ◌*◌, eqb, ltb, length, get_or}
use Rattle.octets.specs.Pick.{pick}
use Rattle.channel.specs.declared.state.Channel.{Channel}
use Rattle.host_words.specs.Words.{each_channel}
use Rattle.channel.specs.declared.state.State.{State}
use Rattle.channel.specs.declared.state.State.TheVariants.{Hunting, Gathering, Skipping}

-- 1 gathering, 2 skipping, any other word as hunting
unfoldable pub seen_state : ℕ → ℕ → State
seen_state state number = pick (eqb state 1) (Gathering number) (pick (eqb state 2) (Skipping number) Hunting)

-- a channel whose four words are not all there counts as hunting
unfoldable pub state_at : List ℕ → ℕ → State
state_at words v = pick (ltb (4 * v + 3) (length words)) (seen_state (get_or words (4 * v + 2) 0) (get_or words (4 * v + 3) 0)) Hunting

-- the channel with no more than its state
abbrev pub seen_at : List ℕ → ℕ → Channel
seen_at words v = record { heard = true; last = record { 0 = 0 }; state = state_at words v }

-- channels 0 to 7; words past the 32nd are not looked at
unfoldable pub seen : List ℕ → List Channel
seen words = each_channel (seen_at words)
