-- The theorems of specs/Theorems.
-- Assumes nothing.
pub use Rattle.channel.proofs.MaskLaws.{mask_bit, mask_no_more, lowest_busy}
pub use Rattle.channel.proofs.PartLaws.{part_inside, part_own, part_length, part_apart, part_same}
pub use Rattle.channel.proofs.RuleLaws.{each_follows, fresh_follows, part_has_room}
pub use Rattle.channel.proofs.WordLaws.{rules_in_words}
