-- the steps over the channel's part of the store are those of the whole call.
use Rattle.reading.proofs.AcceptLaws.{fits_cut, follows_cut, read_by}
use Rattle.accepting.proofs.accept.Goals as goal

pub steps-course-requires : goal.steps-course-requires
steps-course-requires c =
    let e = c.place-at.ensures in
    let r = c.requires in
    record { fit = fits_cut _ _ _ _ _ r _ e; follows = (follows_cut _ _ _ _ _ r _ e, c.gap_for-gap.ensures) }

pub returns : goal.returns
returns c =
    read_by _ _ _ _ _ c.requires _ c.place-at.ensures _ _ _ _ _ c.gap_for-gap.ensures c.kind_of.ensures c.steps-course.ensures
