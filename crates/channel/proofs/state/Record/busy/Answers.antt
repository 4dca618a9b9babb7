-- the channels are those still to come, from the last down, and those passed, whose mask stands.
use mathlib.Core.Path.{◌≡◌, refl, ap}
use mathlib.Core.List.{[], ◌∷◌, ◌++◌}
use lib.ListN.{length, length-append}
use native.Mathlib.Omega.{arith}
use borrow.Author.Rules.{rules}
use Rattle.std.proofs.lemmas.List.{append-nil, append_assoc}
use Rattle.channel.specs.Busy.{mask_from}
use Rattle.channel.specs.declared.state.Channel.{Channel}
use Rattle.channel.proofs.ListLaws.{length_any}
use Rattle.channel.proofs.MaskLaws.{mask_cons, mask_end, mask_room}
use Rattle.channel.proofs.state.Record.busy.Goals as goal

pub loop-channel-init : goal.loop-channel-init
unfolding mask_from
loop-channel-init c =
    let e : c.into_iter-channel-iterator.result.iter.rest.now ≡ c.args.self.channels = search rules in
    ([], (rw append-nil e, refl))

pub with_bit-mask-requires : goal.with_bit-mask-requires
with_bit-mask-requires c = let w = c.loop-channel.invariant in
    let coming = c.loop-channel.channel-iterator.iter.rest.now in
    let e : length c.args.self.channels ≡ 8 = search (rules, length_any) depth 7 in
    let s : coming ≡ c.next.new.self.iter.rest.now ++ c.in-Some.channel.now ∷ [] = search rules in
    mask_room coming w.0 _ w.1.1 (omega (arith, ap length w.1.0, length-append coming w.0)) (rw s (omega (arith, length-append {A = Channel})))

pub loop-channel-preserved : goal.loop-channel-preserved
loop-channel-preserved c = let w = c.loop-channel.invariant in
    let s : c.loop-channel.channel-iterator.iter.rest.now ≡ c.next.new.self.iter.rest.now ++ c.in-Some.channel.now ∷ [] = search rules in
    (c.in-Some.channel.now ∷ w.0, (rw (← append_assoc c.next.new.self.iter.rest.now (c.in-Some.channel.now ∷ []) w.0) (rw (← s) w.1.0), cc (mask_cons c.in-Some.channel.now w.0)))

pub returns : goal.returns
returns c = let w = c.loop-channel.invariant in
    mask_end c.loop-channel.channel-iterator.iter.rest.now w.0 _ _ w.1.1 (search rules) w.1.0
