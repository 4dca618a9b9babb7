-- `crc::table::entries`: antt computes what the rule gives for all 256 octets, and takes the constant for it only if every entry is the same.
use Rattle.crc.specs.Register.{times_x, step, over, bits}
use Rattle.crc.proofs.Entries.{by_rule, each_entry}
use Rattle.crc.proofs.table.entries.Goals as goal

pub returns : goal.returns
unfolding times_x step over bits by_rule
returns c = each_entry
