use Rattle.host_telemetry.proofs.CallLaws.{given_lays}
use Rattle.host_telemetry.proofs.scowdeck_read.Goals as goal

pub answer_read-requires : goal.answer_read-requires
answer_read-requires c = given_lays _ _ _ _ _ _ _ _ _ _ _ c.set_up-set.ensures c.unpack-rec.ensures c.read_core-o.ensures c.are_octets.ensures (λ i. (c.type_inv.frame i).fits)
