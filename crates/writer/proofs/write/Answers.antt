-- what the tests answered decides the rest.
use Rattle.writing.proofs.Laws.{ready, refuses, writes}
use Rattle.writer.proofs.write.Goals as goal

pub write_frame-next-requires : goal.write_frame-next-requires
write_frame-next-requires c = ready _ _ _ c.args.word _ _ _ c.tests-answer.ensures c.in-Ok.is

pub returns-in-Err : goal.returns-in-Err
returns-in-Err c = refuses _ _ _ _ _ _ _ c.tests-answer.ensures _ c.in-Err.is

pub returns-in-Ok : goal.returns-in-Ok
returns-in-Ok c = writes _ _ _ _ _ _ _ c.tests-answer.ensures c.in-Ok.is _ _ c.write_frame-next.ensures
