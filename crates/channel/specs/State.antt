-- A channel's record (01): "heard or not; last channel count; and one of hunting, gathering k octets [..], or skipping r octets [..]".
use Rattle.std.specs.Prelude.{false, replicate}
use Rattle.frame.specs.Header.{channels}
use Rattle.channel.specs.declared.state.Channel.{Channel}
use Rattle.channel.specs.declared.state.Record.{Record}
use Rattle.channel.specs.declared.state.State.TheVariants.{Hunting}

-- "Fresh: all unheard, last count 0."
abbrev pub fresh_channel : Channel
fresh_channel = record { heard = false; last = record { 0 = 0 }; state = Hunting }

abbrev pub fresh_record : Record
fresh_record = record { channels = replicate channels fresh_channel }
