-- at each return the tests that led there say which filler it is.
use Rattle.writing.proofs.LayingLaws.{filled_idle, filled_packet, filled_none, filled_begun}
use borrow.Author.Rules.{rules}
use Rattle.laying.proofs.lay_filler.Goals as goal

pub returns-then-at-eq0 : goal.returns-then-at-eq0
returns-then-at-eq0 c = let r = filled_idle _ _ _ c.if-at-eq0.true c.fill.ensures in record { left = r.0; field = r.1 }

pub returns-then-room-ge-MIN : goal.returns-then-room-ge-MIN
returns-then-room-ge-MIN c = let r = filled_packet _ _ c.if-at-eq0.false _ (search rules) c.lay_idle_packet.ensures in record { left = r.0; field = r.1 }

pub returns-then-room-eq0 : goal.returns-then-room-eq0
returns-then-room-eq0 c = let r = filled_none _ _ c.if-at-eq0.false c.if-room-eq0.true in record { left = r.0; field = r.1 }

pub returns : goal.returns
returns c = let r = filled_begun _ _ c.if-at-eq0.false _ (search rules) c.if-room-eq0.false c.copy.ensures in record { left = r.0; field = r.1 }
