-- an idle packet is counted, and another stands in the output.
use mathlib.Core.Path.{◌∙◌, sym}
use Rattle.walk.proofs.GatherLaws.{finish_idle, finish_delivered}
use Rattle.gathering.proofs.finish.Goals as goal

pub returns-then-idle_across : goal.returns-then-idle_across
returns-then-idle_across c = let s = c in
    let a = s.args in let r = finish_idle a.held.now a.field.now a.out.now a.total s.requires.0 (sym c.idle_across.ensures ∙ c.if-idle_across.true) in record { tally = rw c.none_yet.ensures r.0; output = r.1 }

pub returns : goal.returns
returns c = let i = c in
    let s = i in
    let a = s.args in
    let p = s.requires in let r = finish_delivered a.held.now a.field.now a.out.now a.total p.0 p.1 p.2 p.3 (sym i.idle_across.ensures ∙ i.if-idle_across.false) _ _ c.copy.ensures c.copy-2.ensures in record { tally = rw c.none_yet-2.ensures r.0; output = r.1 }
