-- idle and private frames, a gap, and else the state.
use native.Mathlib.Omega.{arith}
use mathlib.Core.Path.{◌≡◌, refl, ◌∙◌, sym}
use mathlib.Core.Bool.{Bool, false}
use Rattle.frame.specs.declared.header.Header.{Header}
use Rattle.packet.specs.Size.{source}
use Rattle.walk.specs.Steps.{carries_none}
use Rattle.walk.proofs.DoneLaws.{did_as, did_broke, did_nothing}
use Rattle.walk.proofs.StepLaws.{carries_packets, state_follows_lem, steps_none, steps_on}
use Rattle.steps.proofs.steps.Goals as goal

-- a frame with packets
packets : (h : Header) (b : Bool) → b ≡ carries_none h → b ≡ false → carries_none h ≡ false
packets h b e f = sym e ∙ f

pub returns-then-carries_none : goal.returns-then-carries_none
returns-then-carries_none c =
    did_as (steps_none source _ _ _ _ _ (sym c.carries_none.ensures ∙ c.if-carries_none.true))
    (did_broke _ (did_nothing source _ 0 0 _ _ _ _ c.none_yet.ensures c.plain.ensures) c.break_off.ensures)

pub after_gap-requires : goal.after_gap-requires
after_gap-requires c =
    let n = packets c.args.h _ c.carries_none.ensures c.if-carries_none.false in
    let q = carries_packets c.args.h n in
    let gap : c.args.gap ≡ 0 → ⊥ = omega arith in
    record { ready = record { fit = c.requires.fit q.0; not_idle = q.1 }; gap = (refl, n, c.requires.follows.1, gap) }

pub resume-requires : goal.resume-requires
resume-requires c =
    let q = carries_packets c.args.h (packets c.args.h _ c.carries_none.ensures c.if-carries_none.false) in
    record { ready = record { fit = c.requires.fit q.0; not_idle = q.1 }; follows = state_follows_lem source _ _ _ c.requires.follows.0 }

pub returns : goal.returns
returns c =
    let zero : c.args.gap ≡ 0 = omega arith in
    did_as (steps_on source _ _ _ _ _ (packets c.args.h _ c.carries_none.ensures c.if-carries_none.false)
    (sym c.requires.follows.1 ∙ zero))
    c.resume.ensures
