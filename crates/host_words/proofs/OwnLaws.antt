-- Packing and unpacking undo one another.
-- Assumes nothing.
use mathlib.Core.Path.{◌≡◌, refl, ◌∙◌, sym, ap}
use mathlib.Core.Bool.{true}
use mathlib.Core.List.{List, [], ◌∷◌, ◌++◌}
use Prim.Native.Nat.{ℕ, suc, ◌*◌, ◌≤◌, ◌<◌}
use native.Mathlib.Omega.{arith}
use borrow.Author.Tests.{eq-eqb}
use lib.ListN.{length, get_or, take, drop, length-drop, take-append-drop}
use lib.Seq.{drop_at, drop-cons, ext_get_or, length-take-le}
use Rattle.std.specs.Simd.{first_chunks}
use Rattle.packet.specs.Size.{most, source}
use Rattle.frame.specs.Answers.{bit}
use Rattle.channel.proofs.Laws.{each_follows}
use Rattle.channel.specs.Rules.{channel_follows, hunts, record_follows, state_follows}
use Rattle.channel.specs.State.{fresh_channel}
use Rattle.channel.specs.Store.{part_of}
use Rattle.channel.specs.declared.state.Channel.{Channel}
use Rattle.channel.specs.declared.state.Record.{Record}
use Rattle.host_words.specs.Words.{channel_at, each_channel, number_word, packed, packed_all, packed_channel, state_word, unpacked, unpacked_channel, unpacked_state}
use Rattle.host_words.proofs.NumberLaws.{eight_channels, whole_words}
use Rattle.host_words.proofs.WordLaws.{channel_words, four_at, fours_whole, length_packed, packed_append, packed_by}
pub use Rattle.host_words.proofs.WordLaws.{each_at}

-- a channel, packed and unpacked
pub channel_back : (c : Channel) → c.last.0 < 256 → unpacked_channel (bit c.heard) c.last.0 (state_word c.state) (number_word c.state) ≡ c
unfolding unpacked_channel unpacked_state
channel_back c h = grind arith

-- the words of channel v, and what stands behind them
pub drop_packed : (cs : List Channel) (v : ℕ) → v < length cs
    → drop (4 * v) (packed_all cs) ≡ packed_channel (get_or cs v fresh_channel) ++ packed_all (drop (suc v) cs)
unfolding packed_all
drop_packed cs v h =
    let p = packed_all (take v cs) in
    let k : length p ≡ 4 * v = length_packed (take v cs) ∙ ap (λ (n : ℕ). 4 * n) (length-take-le v cs (omega arith)) in
    ap (λ (l : List Channel). drop (4 * v) (packed_all l)) (sym (take-append-drop v cs))
    ∙ ap (drop (4 * v)) (packed_append (take v cs) (drop v cs))
    ∙ drop_at p (packed_all (drop v cs)) (4 * v) k
    ∙ ap packed_all (drop-cons cs v fresh_channel h)

pub packed_at : (cs : List Channel) (v : ℕ) → v < length cs → (get_or cs v fresh_channel).last.0 < 256 → channel_at (packed_all cs) v ≡ get_or cs v fresh_channel
packed_at cs v h k = channel_words (packed_all cs) v ∙ rw (drop_packed cs v h) (channel_back (get_or cs v fresh_channel) k)

pub unpacked_is : (words : List ℕ) → length words ≡ 32 → (unpacked words).channels ≡ each_channel (channel_at words)
unfolding unpacked
unpacked_is words e = rw (eq-eqb (length words) 32 e)

pub back : (rec : Record) → length rec.channels ≡ 8 → ((v : ℕ) → v < 8 → (get_or rec.channels v fresh_channel).last.0 < 256)
    → unpacked (packed rec) ≡ rec
back rec n h =
    let cs = rec.channels in
    let k : length (packed_all cs) ≡ 32 = omega (arith, length_packed cs) in
    let same : each_channel (channel_at (packed_all cs)) ≡ cs =
    ext_get_or fresh_channel (each_channel (channel_at (packed_all cs))) cs (sym n)
    (λ v l. each_at (channel_at (packed_all cs)) v l ∙ packed_at cs v (omega arith) (h v l)) in
    ap (λ (l : List Channel). record { channels = l }) (unpacked_is (packed_all cs) k ∙ same)

-- a channel that was unpacked and follows the rules has the words it was unpacked from
pub channel_own : (limit : ℕ) (part : List ℕ) (heard count state number : ℕ)
    → channel_follows source limit part (unpacked_channel heard count state number) ≡ true
    → packed_channel (unpacked_channel heard count state number) ≡ heard ∷ count ∷ state ∷ number ∷ []
unfolding unpacked_channel unpacked_state channel_follows state_follows hunts
channel_own limit part heard count state number e = grind arith

-- four words
four : (l : List ℕ) → 4 ≤ length l → get_or l 0 0 ∷ get_or l 1 0 ∷ get_or l 2 0 ∷ get_or l 3 0 ∷ [] ≡ take 4 l
four l h = grind arith

module _ (words store : List ℕ) (e : record_follows source most store (unpacked words) ≡ true) where
  pub channel_follows_lem : (v : ℕ) → v < 8 → channel_follows source most (part_of most v store) (channel_at words v) ≡ true
  channel_follows_lem v h =
      let f = (each_follows source most store (unpacked words)).0 e v (omega (arith, eight_channels words)) in
      rw (unpacked_is words (whole_words words store e), each_at (channel_at words) v h) at f

  pub words_at : (v : ℕ) → v < 8 → packed_channel (channel_at words v) ≡ take 4 (drop (4 * v) words)
  words_at v h =
      let d = drop (4 * v) words in
      let n : 4 ≤ length d = omega (arith, length-drop (4 * v) words, whole_words words store e) in
      let f = rw (channel_words words v) at (channel_follows_lem v h) in
      rw (channel_words words v)
      (channel_own most (part_of most v store) (get_or d 0 0) (get_or d 1 0) (get_or d 2 0) (get_or d 3 0) f ∙ four d n)

  pub own : packed (unpacked words) ≡ words
  own =
      let whole = whole_words words store e in
      ap packed_all (unpacked_is words whole)
      ∙ sym (packed_by (each_channel (channel_at words)) (first_chunks 4 8 words) refl
      (λ v h. four_at words 8 v [] h ∙ sym (words_at v h) ∙ ap packed_channel (sym (each_at (channel_at words) v h))))
      ∙ fours_whole 8 words whole
