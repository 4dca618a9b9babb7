-- The theorems of specs/Theorems.antt.
-- Assumes nothing.
use mathlib.Core.Path.{◌≡◌, refl}
use mathlib.Core.Bool.{true}
use mathlib.Core.List.{List, [], ◌∷◌}
use mathlib.Core.Logic.{inl, inr}
use Prim.Native.Nat.{ℕ, suc, ◌+◌, ◌*◌, ◌^◌, ◌<◌}
use native.Mathlib.Omega.{arith}
use lib.ListN.{length, get_or}
use Rattle.packet.specs.Size.{most, source}
use Rattle.channel.specs.Rules.{record_follows}
use Rattle.channel.specs.State.{fresh_channel}
use Rattle.channel.specs.Store.{part_of}
use Rattle.channel.specs.declared.state.Channel.{Channel}
use Rattle.host_words.specs.Theorems.{Odd, OddChannel, UnpacksPacked, PacksWords, FreshWords, OwnWords}
use Rattle.host_words.specs.Words.{channel_at, number_word, packed_all, packed_channel, unpacked, unpacked_channel, unpacked_state}
pub use Rattle.host_words.proofs.BusyLaws.{busy_exactly}
use Rattle.host_words.proofs.NumberLaws.{whole_words}
use Rattle.host_words.proofs.OwnLaws.{back, channel_follows_lem, channel_own, own}
use Rattle.host_words.proofs.WordLaws.{length_packed}

pub unpacks_packed : UnpacksPacked
unpacks_packed rec s = back rec s.eight s.counts

packed_below : (cs : List Channel)
    → ((v : ℕ) → v < length cs → ((get_or cs v fresh_channel).last.0 < 256) × (number_word (get_or cs v fresh_channel).state < 2 ^ 32))
    → (i : ℕ) → get_or (packed_all cs) i 0 < 2 ^ 32
unfolding packed_all
packed_below [] h i = omega arith
packed_below (c ∷ cs) h i = grind (arith, packed_below cs (λ v l. h (suc v) (omega arith)), h 0)

pub packs_words : PacksWords
packs_words rec s = (
  omega (arith, length_packed rec.channels, s.eight),
  packed_below rec.channels (λ v l. (s.counts v (omega (arith, s.eight)), s.numbers v (omega (arith, s.eight)))),
)

pub fresh_words : FreshWords
unfolding packed_all unpacked channel_at unpacked_channel unpacked_state
fresh_words = (refl, refl)

pub own_words : OwnWords
own_words = own

-- odd words are no channel's
odd_not : (c : Channel) (heard count state number : ℕ) → c.last.0 < 256 → packed_channel c ≡ heard ∷ count ∷ state ∷ number ∷ []
    → OddChannel heard count state number → ⊥
odd_not c heard count state number k e o = grind arith

pub at_small : (words : List ℕ) (v : ℕ) → (channel_at words v).last.0 < 256
unfolding channel_at unpacked_channel
at_small words v = grind arith

pub odd_breaks : (words store : List ℕ) → record_follows source most store (unpacked words) ≡ true → Odd words → ⊥
unfolding channel_at
odd_breaks words store e (inl n) = n (whole_words words store e)
odd_breaks words store e (inr (v, h, o)) =
    odd_not (channel_at words v) (get_or words (4 * v) 0) (get_or words (4 * v + 1) 0) (get_or words (4 * v + 2) 0) (get_or words (4 * v + 3) 0) (at_small words v)
    (channel_own most (part_of most v store) (get_or words (4 * v) 0) (get_or words (4 * v + 1) 0) (get_or words (4 * v + 2) 0) (get_or words (4 * v + 3) 0)
    (channel_follows_lem words store e v h)) o
