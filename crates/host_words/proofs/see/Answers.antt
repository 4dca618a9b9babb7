use borrow.Author.Rules.{rules}
use Rattle.std.proofs.Common.{◌≡◌, ◌∙◌, slice_index_or, []}
use Rattle.host_words.specs.Busy.{seen, seen_at}
use Rattle.host_words.proofs.WordLaws.{made_each, seen_in}
use Rattle.host_words.proofs.see.Goals as goal

pub returns : goal.returns
unfolding seen
returns c =
    let words = c.args.words.now in
    let fours = c.as_chunks.result.0.now in
    made_each _ _ (seen_at words)
    (λ v channel q h k.
    let is : channel ≡ seen_at (slice_index_or fours v []) 0 = search rules in
    (is ∙ seen_in words fours c.as_chunks.ensures.front v [] c.as_chunks.ensures.front_len, search rules))
    c.from_fn.result c.from_fn.ensures.items
