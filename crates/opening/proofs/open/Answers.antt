-- row 6, and the rest by `open_header`.
use mathlib.Core.Path.{◌∙◌, sym}
use Rattle.frame.proofs.OpeningSteps.{failed_check, checked}
use Rattle.opening.proofs.open.Goals as goal

pub returns-then-damaged : goal.returns-then-damaged
returns-then-damaged c = let w = c.in_ok-whole.whole in
    let same = c.in_ok-whole.ensures.ok in
    rw (same.0, same.1) at (failed_check w.set w.octets.now w.fits w.whole (sym c.damaged.ensures ∙ c.if-damaged.true))

pub returns : goal.returns
returns c = let w = c.in_ok-whole.whole in
    let same = c.in_ok-whole.ensures.ok in
    rw (same.0, same.1) at (c.open_header.ensures ∙ checked w.set w.octets.now w.fits w.whole (sym c.damaged.ensures ∙ c.if-damaged.false))
