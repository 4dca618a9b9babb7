-- what the test comes to from the start is what it comes to from the rest.
use mathlib.Core.Path.{◌∙◌, sym}
use native.Mathlib.Omega.{arith}
use borrow.Author.Rules.{rules}
use lib.ListN.{length-drop, length-take}
use Rattle.packet.proofs.ChainTurns.{packet_fits, chain_behind, chain_ends}
use Rattle.chain.proofs.is_chain.Goals as goal

pub slice_bounds-rest-count : goal.slice_bounds-rest-count
slice_bounds-rest-count c = (packet_fits _ _ (sym c.in-Some.is ∙ c.front.ensures)).1

pub slice_bounds-rest-start : goal.slice_bounds-rest-start
slice_bounds-rest-start c = let t = packet_fits _ _ (sym c.in-Some.is ∙ c.front.ensures) in search rules

pub loop-n-smaller : goal.loop-n-smaller
loop-n-smaller c = let t = packet_fits _ _ (sym c.in-Some.is ∙ c.front.ensures) in
    simp (length-take, length-drop) (omega arith)

pub loop-n-preserved : goal.loop-n-preserved
loop-n-preserved c = chain_behind _ _ (sym c.in-Some.is ∙ c.front.ensures) ∙ c.loop-n.invariant

pub returns : goal.returns
returns c = let e = chain_ends c.loop-n.rest.now (sym c.in_default.is ∙ c.front.ensures) in
    cc
