-- the octets passed are those of the packets so far.
use mathlib.Core.Path.{◌≡◌, ◌∙◌, ap, refl}
use Prim.Native.Nat.{ℕ}
use native.Mathlib.Omega.{arith}
use lib.ListN.{drop}
use Rattle.std.specs.Prelude.{Option, unwrap_or}
use Rattle.packet.specs.Chain.{front_of}
use Rattle.packet.proofs.ChainTurns.{looked, option_or}
use Rattle.desk.specs.Saving.{span_of}
use Rattle.desk.proofs.Spans.{span_more}
use Rattle.desk.proofs.saving.span.Goals as goal

pub loop-init : goal.loop-init
unfolding span_of
loop-init c = (refl, omega arith)

pub overflow_add-at : goal.overflow_add-at
overflow_add-at c = let e : c.unwrap_or-at.result ≡ front_of (drop c.loop.at c.args.output.now) =
    c.unwrap_or-at.ensures ∙ ap (λ (r : Option ℕ). unwrap_or r 0) c.front.ensures ∙ option_or _ ∙ looked c.args.output.now c.loop.at in
    omega (arith, (span_more _ _ _ _ e c.loop.invariant.0).1)

pub loop-preserved : goal.loop-preserved
loop-preserved c = let e : c.unwrap_or-at.result ≡ front_of (drop c.loop.at c.args.output.now) =
    c.unwrap_or-at.ensures ∙ ap (λ (r : Option ℕ). unwrap_or r 0) c.front.ensures ∙ option_or _ ∙ looked c.args.output.now c.loop.at in
    span_more _ _ _ _ e c.loop.invariant.0
