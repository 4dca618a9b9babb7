use Rattle.host_telemetry.proofs.CallLaws.{place_fits}
use Rattle.host_telemetry.proofs.scowdeck_write.Goals as goal

pub answer_write-requires : goal.answer_write-requires
answer_write-requires c = place_fits _ _ _ _ _ _ _ _ _ _ _ c.set_up-set.ensures c.control_word-control.ensures c.write-w.ensures c.ranges.offset.fits c.ranges.left_over.fits
