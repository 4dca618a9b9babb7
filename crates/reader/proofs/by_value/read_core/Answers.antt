-- what the tests answered decides the rest.
use Rattle.packet.specs.Size.{most, source}
use Rattle.reading.proofs.ReadLaws.{test_failed, tests_passed, accepts, ready}
use Rattle.reader.proofs.by_value.read_core.Goals as goal

pub accept-requires : goal.accept-requires
accept-requires c = ready source most _ _ _ _ _ _ (tests_passed source most _ _ _ _ _ _ c.tests.ensures _ c.in-Ok.is)

pub returns-in-Err : goal.returns-in-Err
returns-in-Err c = test_failed source most _ _ _ _ _ _ c.tests.ensures _ c.in-Err.is

pub returns-in-Ok : goal.returns-in-Ok
returns-in-Ok c = accepts source most _ _ _ _ _ _ (tests_passed source most _ _ _ _ _ _ c.tests.ensures _ c.in-Ok.is) _ _ _ _ c.accept.ensures
