use Rattle.host_frame.proofs.Laws.{open_call, opened_fits}
use Rattle.host_frame.proofs.scowdeck_open.Goals as goal

pub open_values-values-requires : goal.open_values-values-requires
open_values-values-requires c = opened_fits _ _ _ c.open-opened.ensures

pub returns : goal.returns
returns c = open_call _ _ _ _ _ _ _ c.set_up-set.ensures c.open-opened.ensures c.open_values-values.ensures c.lay.ensures
