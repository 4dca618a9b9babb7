-- the digits left, after those that n stands for, give what the word gives.
use mathlib.Core.Path.{◌∙◌, sym}
use native.Mathlib.Omega.{arith}
use Rattle.desk.proofs.Spelling.{no_word, from_start, not_a_digit, too_large, digit_more, no_more}
use Rattle.desk.proofs.words.spelt.Goals as goal

pub returns-then-is_empty : goal.returns-then-is_empty
returns-then-is_empty c = no_word _ (sym c.is_empty.ensures ∙ c.if-is_empty.true)

pub loop-b-init : goal.loop-b-init
loop-b-init c = (omega arith, from_start _ (sym c.is_empty.ensures ∙ c.if-is_empty.false))

pub returns-in_err-n : goal.returns-in_err-n
returns-in_err-n c = c.from_residual.ensures ∙ not_a_digit _ _ _ (omega arith) c.loop-b.invariant.1 c.in_err-n.ensures

pub returns-then-n-gt-MOST : goal.returns-then-n-gt-MOST
returns-then-n-gt-MOST c = too_large _ _ _ (omega arith) c.loop-b.invariant.1 _ c.in_ok-n.ensures c.if-n-gt-MOST.true

pub loop-b-preserved : goal.loop-b-preserved
loop-b-preserved c = (omega arith, digit_more _ _ _ (omega arith) c.loop-b.invariant.1 _ c.in_ok-n.ensures c.if-n-gt-MOST.false)

pub returns : goal.returns
returns c = no_more _ _ c.loop-b.b-index (omega arith) c.loop-b.invariant.1
