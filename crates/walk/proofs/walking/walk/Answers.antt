-- What the walk gives from the start is what it gives from here, after what is done.
use mathlib.Core.Path.{◌≡◌, ◌∙◌}
use Prim.Native.Nat.{ℕ, ◌+◌, ◌-◌}
use mathlib.Core.List.{List}
use native.Mathlib.Omega.{arith}
use lib.ListN.{length, drop, length-take, length-drop}
use Rattle.packet.proofs.Laws.{source_lawful}
use Rattle.packet.specs.Size.{source}
use Rattle.walk.specs.Walk.{seen_of}
use Rattle.walk.specs.declared.walking.End.{End}
use Rattle.std.specs.Prelude.{Result, Ok}
use Rattle.walk.proofs.WalkLaws.{Stands, looked, seen_whole, kept_start, kept_more, kept_end}
use Rattle.walk.proofs.walking.walk.Goals as goal

-- what is seen at this place, and a whole packet of n octets there
stands : (limit : ℕ) (d : List ℕ) (s : Result ℕ End) (n : ℕ) → seen_of source limit d ≡ s → s ≡ Ok n → Stands source limit d n
stands limit d s n e w = seen_whole source source_lawful _ _ _ (e ∙ w)

pub loop-e-init : goal.loop-e-init
loop-e-init c = let p = c.requires in kept_start source source_lawful _ _ _ _ _ p.0 p.2 p.3

pub look-requires : goal.look-requires
look-requires c = let f = c.args.field.now in
    omega (arith, length-take (length f - c.loop-e.at) (drop c.loop-e.at f), length-drop c.loop-e.at f)

pub overflow_add-next : goal.overflow_add-next
overflow_add-next c = let f = c.args.field.now in
    let here = looked source c.args.limit f c.loop-e.at _ c.look.ensures in
    omega (arith, stands _ _ _ _ here c.in-Ok.is, length-drop c.loop-e.at f)

pub slice_bounds-hand_out-end : goal.slice_bounds-hand_out-end
slice_bounds-hand_out-end c = let f = c.args.field.now in
    let here = looked source c.args.limit f c.loop-e.at _ c.look.ensures in
    omega (arith, stands _ _ _ _ here c.in-Ok.is, length-drop c.loop-e.at f)

pub hand_out-t-requires : goal.hand_out-t-requires
hand_out-t-requires c = let f = c.args.field.now in
    let l = c.loop-e in
    let here = looked source c.args.limit f l.at _ c.look.ensures in
    omega (arith, stands _ _ _ _ here c.in-Ok.is, length-take (l.at + c.in-Ok.n - l.at) (drop l.at f), length-drop l.at f)

pub loop-e-smaller : goal.loop-e-smaller
loop-e-smaller c = let f = c.args.field.now in
    let here = looked source c.args.limit f c.loop-e.at _ c.look.ensures in
    omega (arith, stands _ _ _ _ here c.in-Ok.is, length-drop c.loop-e.at f)

pub loop-e-preserved : goal.loop-e-preserved
loop-e-preserved c = let a = c.args in
    let l = c.loop-e in
    let here = looked source a.limit a.field.now l.at _ c.look.ensures in
    kept_more source source_lawful a.limit a.field.now a.from a.out.now a.start l.out l.t l.at l.invariant _ _ _ (here ∙ c.in-Ok.is)
    c.hand_out-t.ensures.tally c.hand_out-t.ensures.output

pub returns : goal.returns
returns c = let a = c.args in
    let l = c.loop-e in
    let here = looked source a.limit a.field.now l.at _ c.look.ensures in
    let r = kept_end source source_lawful a.limit a.field.now a.from a.out.now a.start l.out l.t l.at l.invariant _ (here ∙ c.in-Err.is) in
    record { answer = r.0; output = r.1 }
