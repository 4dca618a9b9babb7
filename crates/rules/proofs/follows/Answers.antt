-- the record follows exactly when the channels not passed yet do.
use mathlib.Core.Path.{◌≡◌, refl, ◌∙◌, sym}
use native.Mathlib.Omega.{arith}
use lib.ListN.{length}
use borrow.Author.Rules.{rules}
use Rattle.packet.specs.Size.{most, source}
use Rattle.channel.specs.Rules.{record_follows}
use Rattle.channel.specs.Store.{part_place}
use Rattle.channel.proofs.ListLaws.{length_any}
use Rattle.channel.proofs.RuleLaws.{follow_end, follow_next, follow_stop}
use Rattle.rules.proofs.follows.Goals as goal

pub loop-v-init : goal.loop-v-init
unfolding record_follows
loop-v-init c = refl

pub overflow_add-place : goal.overflow_add-place
unfolding part_place
overflow_add-place c = omega arith

pub returns-then-not-channel_follows : goal.returns-then-not-channel_follows
returns-then-not-channel_follows c = let l = c.loop-v in
    let a = c.args in
    let e : length a.rec.channels ≡ 8 = search (rules, length_any) depth 7 in
    sym (l.invariant ∙ follow_stop source most a.store.now a.rec.channels l.v _ _ _ _ _ (omega arith)
    c.place-place.ensures c.lesser-at.ensures c.lesser-end.ensures
    c.channel_follows.ensures (c.if-not-channel_follows.true))

pub loop-v-preserved : goal.loop-v-preserved
loop-v-preserved c = let l = c.loop-v in
    let a = c.args in
    let e : length a.rec.channels ≡ 8 = search (rules, length_any) depth 7 in
    l.invariant ∙ follow_next source most a.store.now a.rec.channels l.v _ _ _ _ _ (omega arith)
    c.place-place.ensures c.lesser-at.ensures c.lesser-end.ensures
    c.channel_follows.ensures (c.if-not-channel_follows.false)

pub returns : goal.returns
returns c = let l = c.loop-v in
    let a = c.args in
    let e : length a.rec.channels ≡ 8 = search (rules, length_any) depth 7 in
    sym (l.invariant ∙ follow_end source most a.store.now a.rec.channels l.v (omega arith))
