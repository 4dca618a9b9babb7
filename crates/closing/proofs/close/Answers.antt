-- the three tests; then header, word and check around the data field.
use mathlib.Core.Path.{◌∙◌, sym}
use native.Mathlib.Omega.{arith}
use Rattle.frame.proofs.ClosingLaws.{flagged_by_some, frame_written_lem, sizes}
use Rattle.frame.proofs.Laws.{close_around, close_untouched}
use Rattle.frame.proofs.SetUpLaws.{in_range}
use Rattle.closing.proofs.close.Goals as goal

pub returns-in_err-tests-clause-output : goal.returns-in_err-tests-clause-output
returns-in_err-tests-clause-output c = sym (close_untouched _ _ _ _ _ _ _ _ (sym c.in_err-tests.ensures.answer))

pub write_header-requires : goal.write_header-requires
write_header-requires c = let t = c.in_ok-tests.ensures.passed in (t.0, t.1, omega (arith, (in_range _).0 t.0))

pub overflow_add-end : goal.overflow_add-end
overflow_add-end c = omega (arith, sizes _ c.args.word c.in_ok-tests.ensures.passed.0)

pub write_word-requires : goal.write_word-requires
write_word-requires c = omega (arith, sizes _ c.args.word c.in_ok-tests.ensures.passed.0, c.in_ok-tests.ensures.passed.2, c.write_header.auto)

pub write_check-requires : goal.write_check-requires
write_check-requires c = omega (arith, (in_range _).0 c.in_ok-tests.ensures.passed.0, c.in_ok-tests.ensures.passed.2, c.write_header.auto, c.write_word.auto)

pub returns-clause-output : goal.returns-clause-output
returns-clause-output c = let a = c.args in
    let t = c.in_ok-tests.ensures.passed in
    frame_written_lem a.set a.channel a.master a.count a.word a.pointer a.output.now _ _ _ _ t.0 t.2 (omega (arith, sizes _ a.word t.0))
    (rw (c.is_some.ensures, flagged_by_some) at c.write_header.ensures) c.write_word.ensures c.write_check.ensures
    ∙ sym (close_around _ _ _ _ _ _ _ (sym c.in_ok-tests.ensures.answer))
