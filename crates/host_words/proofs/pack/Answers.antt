use borrow.Author.Rules.{rules}
use native.Mathlib.Omega.{arith}
use Rattle.std.proofs.Common.{◌≡◌, ◌∙◌, ◌<◌, ◌^◌, slice_index_or, length, []}
use Rattle.channel.proofs.ListLaws.{length_any}
use Rattle.channel.specs.State.{fresh_channel}
use Rattle.host_words.specs.Words.{number_word, packed_channel}
use Rattle.host_words.proofs.WordLaws.{packed_by, each_in_turn}
use Rattle.host_words.proofs.pack.Goals as goal

pub map-packed-requires : goal.map-packed-requires
map-packed-requires c =
    let eight : length c.args.rec.channels ≡ 8 = search (rules, length_any) depth 7 in (
      omega arith,
      (
        omega arith,
        (
          omega arith,
          record {
            at = λ came left f channel rest y t s.
                let fits = each_in_turn (λ k. number_word k.state < 2 ^ 32) c.args.rec.channels came rest left channel (λ v h. c.requires.1 v (omega arith)) y s in
                search rules;
          },
        ),
      ),
    )

pub returns : goal.returns
returns c =
    let cs = c.args.rec.channels in
    let fours = c.map-packed.result in
    let eight : length cs ≡ 8 = search (rules, length_any) depth 7 in
    c.copy_from_slice.ensures.after ∙ c.as_flattened.ensures.value
    ∙ packed_by cs fours (omega (arith, c.map-packed.ensures.items.long))
    (λ v h.
    let k = c.map-packed.ensures.items.at v fresh_channel [] (omega arith) in
    let is : slice_index_or fours v [] ≡ packed_channel (slice_index_or cs v fresh_channel) = search rules in
    is)
