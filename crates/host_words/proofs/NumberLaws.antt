-- The numbers of a record that follows the rules fit their words.
-- Assumes nothing.
use mathlib.Core.Path.{◌≡◌}
use mathlib.Core.Bool.{true}
use mathlib.Core.List.{List}
use Prim.Native.Nat.{ℕ, ◌≤◌}
use native.Mathlib.Omega.{arith}
use lib.ListN.{length, get_or}
use Rattle.packet.specs.Size.{most, source}
use Rattle.channel.proofs.Laws.{each_follows}
use Rattle.channel.proofs.RuleLaws.{gathers_told}
use Rattle.channel.specs.Rules.{all_follow, channel_follows, hunts, record_follows, state_follows}
use Rattle.channel.specs.State.{fresh_channel}
use Rattle.channel.specs.Store.{part_of}
use Rattle.channel.specs.declared.state.Channel.{Channel}
use Rattle.channel.specs.declared.state.Record.{Record}
use Rattle.channel.specs.declared.state.State.{State}
use Rattle.host_words.specs.Words.{NumbersFit, number_word, unpacked}

-- the number of a channel that keeps the rules
state_small : (limit : ℕ) (part : List ℕ) (s : State) → limit ≤ 4096 → state_follows source limit part s ≡ true → number_word s ≤ 65536
unfolding state_follows
state_small limit part s h e = grind (arith, gathers_told)

channel_small : (limit : ℕ) (part : List ℕ) (c : Channel) → limit ≤ 4096 → channel_follows source limit part c ≡ true → number_word c.state ≤ 65536
unfolding channel_follows hunts
channel_small limit part c h e = grind (arith, state_small)

pub numbers_fit : (store : List ℕ) (rec : Record) → length rec.channels ≡ 8 → record_follows source most store rec ≡ true → NumbersFit rec
numbers_fit store rec n e v h =
    omega (arith, channel_small most (part_of most v store) (get_or rec.channels v fresh_channel) (omega arith) ((each_follows source most store rec).0 e v (omega arith)))

-- words that are no record's number of words do not follow the rules
pub whole_words : (words store : List ℕ) → record_follows source most store (unpacked words) ≡ true → length words ≡ 32
unfolding unpacked record_follows all_follow channel_follows state_follows
whole_words words store e = grind arith

pub eight_channels : (words : List ℕ) → length (unpacked words).channels ≡ 8
unfolding unpacked
eight_channels words = grind arith
