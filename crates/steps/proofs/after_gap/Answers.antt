-- After a gap the channel hunts.
use mathlib.Core.Path.{◌∙◌, sym, ap}
use Prim.Native.Nat.{ℕ}
use Rattle.packet.specs.Size.{source}
use Rattle.walk.specs.Steps.{broke, hunted}
use Rattle.walk.proofs.DoneLaws.{did_as, did_broke}
use Rattle.walk.proofs.StepLaws.{steps_gap}
use Rattle.steps.proofs.after_gap.Goals as goal

pub returns : goal.returns
returns c = let g = c.requires.gap in
    let a = c.args in
    did_as (steps_gap source _ _ _ _ _ g.1 (λ z. g.3 (g.2 ∙ z))
    ∙ ap (λ (p : ℕ). broke a.channel.state (hunted source a.field.limit a.field.octets.now p)) (sym g.0))
    (did_broke _ c.hunt.ensures c.break_off.ensures)
