use borrow.Author.Rules.{rules}
use native.Mathlib.Omega.{arith}
use Rattle.std.proofs.Common.{◌≡◌, ◌∙◌, sym, ap, slice_index_or, List, []}
use Rattle.channel.specs.declared.state.Channel.{Channel}
use Rattle.host_words.specs.Words.{channel_at}
use Rattle.host_words.proofs.OwnLaws.{unpacked_is}
use Rattle.host_words.proofs.WordLaws.{made_each, channel_in}
use Rattle.host_words.proofs.unpack.Goals as goal

pub returns : goal.returns
returns c =
    let words = c.args.words.now in
    let fours = c.as_chunks.result.0.now in
    let made = made_each _ _ (channel_at words)
    (λ v channel q h k.
    let is : channel ≡ channel_at (slice_index_or fours v []) 0 = search rules in
    (is ∙ channel_in words fours c.as_chunks.ensures.front v [] (omega (arith, c.if-words-ne-WORDS.false)), search rules))
    c.from_fn.result c.from_fn.ensures.items in
    ap (λ (cs : List Channel). record { channels = cs }) (made ∙ sym (unpacked_is words c.if-words-ne-WORDS.false))
