-- before the offset the distance is counted from a packet's start, and behind it by difference.
use mathlib.Core.Path.{◌∙◌, sym}
use native.Mathlib.Omega.{arith}
use borrow.Author.Rules.{rules}
use Rattle.packet.proofs.ChainTurns.{looked_some, packet_is_fit, passed_start, passed_more, passed_front, passed_end}
use Rattle.chain.proofs.distance.Goals as goal

pub loop-at-init : goal.loop-at-init
loop-at-init c = passed_start _ _ c.requires.0

pub unwrap-at-requires : goal.unwrap-at-requires
unwrap-at-requires c = rw c.front.ensures (passed_front _ _ c.loop-at.at c.loop-at.invariant (search rules) c.requires.1)

pub overflow_add-at : goal.overflow_add-at
overflow_add-at c = let t = looked_some c.args.run.now c.loop-at.at c.unwrap-at.result (sym c.unwrap-at.ensures ∙ c.front.ensures) in
    omega (arith, packet_is_fit c.args.run.now c.loop-at.at c.unwrap-at.result t.0 t.1)

pub loop-at-smaller : goal.loop-at-smaller
loop-at-smaller c = let t = looked_some c.args.run.now c.loop-at.at c.unwrap-at.result (sym c.unwrap-at.ensures ∙ c.front.ensures) in omega arith

pub loop-at-preserved : goal.loop-at-preserved
loop-at-preserved c = let t = looked_some c.args.run.now c.loop-at.at c.unwrap-at.result (sym c.unwrap-at.ensures ∙ c.front.ensures) in
    passed_more _ _ _ t.0 t.1 _ (search rules) c.loop-at.invariant

pub returns : goal.returns
returns c = passed_end _ _ _ c.loop-at.invariant (search rules)
