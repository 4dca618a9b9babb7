-- a disagreement, a skip that goes on, and one that ends in the field.
use mathlib.Core.Path.{refl, ◌∙◌, sym}
use native.Mathlib.Omega.{arith}
use Rattle.packet.proofs.Laws.{source_lawful}
use Rattle.packet.specs.Size.{source}
use Rattle.walk.proofs.CutLaws.{cut_fits}
use Rattle.walk.proofs.DoneLaws.{did_as, did_disagreed, did_nothing, did_walk}
use Rattle.walk.proofs.StepLaws.{skips_apart, skips_on, skips_out_lem}
use Rattle.steps.proofs.resume_skipping.Goals as goal

pub returns-then-field-called_at : goal.returns-then-field-called_at
returns-then-field-called_at c = let i = c in
    did_as (skips_apart source _ _ _ _ _ (λ e. i.if-field-called_at.true (e ∙ sym i.called_at.ensures)))
    (did_disagreed _ c.hunt.ensures c.disagreement.ensures)

pub returns-then-d-r : goal.returns-then-d-r
returns-then-d-r c = let i = c in
    did_as (skips_on source _ _ _ _ _ (i.if-field-called_at.false ∙ i.called_at.ensures) i.if-d-r.true)
    (did_nothing source _ 0 0 _ _ _ _ c.none_yet.ensures c.plain.ensures)

pub settle-requires : goal.settle-requires
settle-requires c = let w = c in
    cut_fits source source_lawful _ _ _ w.if-d-r.false _ (omega (arith, w.requires.ready.fit)) _ _ w.walk-e.ensures.answer

pub returns : goal.returns
returns c = let s = c.settle.ensures in
    let w = c in
    let i = w in
    did_as (skips_out_lem source _ _ _ _ _ (i.if-field-called_at.false ∙ i.called_at.ensures) i.if-d-r.false)
    (did_walk source source_lawful _ _ _ i.if-d-r.false _ _ _ _ _ _ _ refl refl _ w.none_yet-2.ensures w.walk-e.ensures.answer w.walk-e.ensures.output s.reports s.holds)
