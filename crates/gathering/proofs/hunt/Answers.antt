-- it ends at once at 2047, and else walks from the pointer and settles.
use mathlib.Core.Path.{refl}
use native.Mathlib.Omega.{arith}
use Rattle.packet.proofs.Laws.{source_lawful}
use Rattle.packet.specs.Size.{source}
use Rattle.walk.proofs.CutLaws.{cut_fits}
use Rattle.walk.proofs.DoneLaws.{did_as, did_nothing, did_walk}
use Rattle.walk.proofs.StepLaws.{hunted_none, hunted_from, points_in}
use Rattle.gathering.proofs.hunt.Goals as goal

pub returns-then-field-eq-NONE : goal.returns-then-field-eq-NONE
returns-then-field-eq-NONE c = did_as (hunted_none source _ _ _ c.if-field-eq-NONE.true) (did_nothing source _ 0 0 _ _ _ _ c.none_yet.ensures c.plain.ensures)

pub settle-requires : goal.settle-requires
settle-requires c = let w = c in
    let i = w in
    let p = i.requires in
    cut_fits source source_lawful _ _ _ (points_in p.ready.fit p.ready.not_idle i.if-field-eq-NONE.false) _ (omega (arith, p.ready.fit)) _ _ w.walk-e.ensures.answer

pub returns : goal.returns
returns c = let s = c.settle.ensures in
    let w = c in
    let i = w in
    let p = i.requires in
    did_as (hunted_from source _ _ _ i.if-field-eq-NONE.false)
    (did_walk source source_lawful _ _ _ (points_in p.ready.fit p.ready.not_idle i.if-field-eq-NONE.false) _ _ _ _ _ _ _ refl refl _ w.none_yet-2.ensures w.walk-e.ensures.answer w.walk-e.ensures.output s.reports s.holds)
