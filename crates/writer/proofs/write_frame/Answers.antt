-- the field laid into its place, and the frame closed around it.
use Rattle.std.proofs.Common.{◌∙◌, ap, is_ok}
use native.Mathlib.Omega.{arith}
use Rattle.packet.proofs.ChainTurns.{distance_within}
use Rattle.writing.proofs.FrameLaws.{closes, fits_in, small, length_midst, wrote_by}
use Rattle.writer.proofs.write_frame.Goals as goal

pub overflow_add-to : goal.overflow_add-to
overflow_add-to c = let a = c.args in
    omega (arith, small a.set a.channel a.place a.word a.run.now a.output.now c.requires)

pub slice_bounds-lay-end : goal.slice_bounds-lay-end
slice_bounds-lay-end c = let a = c.args in
    omega (arith, fits_in a.set a.channel a.place a.word a.run.now a.output.now c.requires)

pub lay-laid-requires : goal.lay-laid-requires
lay-laid-requires c = let a = c.args in
    (c.requires.left_fits, c.requires.inside, omega (arith, small a.set a.channel a.place a.word a.run.now a.output.now c.requires, length_midst c.data_size_for-d.result a.output.now (omega (arith, fits_in a.set a.channel a.place a.word a.run.now a.output.now c.requires))))

pub pointer-start-requires : goal.pointer-start-requires
pointer-start-requires c = let a = c.args in
    (c.requires.left_fits, omega (arith, c.requires.run_fits, distance_within a.run.now a.place.offset))

pub unwrap-requires : goal.unwrap-requires
unwrap-requires c = let a = c.args in
    ap is_ok (c.close.ensures.answer
    ∙ closes a.set a.channel a.place a.word a.run.now a.output.now c.requires c.data_size_for-d.result _ c.data_size_for-d.ensures c.lay-laid.ensures.field)

pub returns : goal.returns
returns c = let a = c.args in
    let l = c.lay-laid in
    wrote_by a.set a.channel a.place a.word a.run.now a.output.now c.requires c.data_size_for-d.result _ _ l.result _ _ c.nothing_placed-nothing.result _ _
    c.data_size_for-d.ensures l.ensures.goes l.ensures.field c.nothing_placed-nothing.ensures c.distance-to_start.ensures c.pointer-start.ensures
    c.close.ensures.output c.next.ensures c.next-2.ensures
