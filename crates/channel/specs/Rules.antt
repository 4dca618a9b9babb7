-- The rules of a record (01, "A channel's record"; test 4), over a packet family and the limit of a delivered packet.
use Rattle.std.specs.Prelude.{Bool, true, false, ◌&&◌, List, [], ◌∷◌, ℕ, suc, ltb, leb, length, take}
use Rattle.octets.specs.Pick.{pick}
use Rattle.packet.specs.Family.{Family}
use Rattle.packet.specs.declared.source.Size.{Size}
use Rattle.packet.specs.declared.source.Size.TheVariants.{Wait, Foreign, Total}
use Rattle.channel.specs.declared.state.Channel.{Channel}
use Rattle.channel.specs.declared.state.Record.{Record}
use Rattle.channel.specs.declared.state.State.{State}
use Rattle.channel.specs.declared.state.State.TheVariants.{Hunting, Gathering, Skipping}
use Rattle.channel.specs.Store.{part_of}

-- k held octets may tell nothing yet, or a total "above k and at most 4,096", and no other version
unfoldable pub judged : ℕ → ℕ → Size → Bool
judged limit k Wait = true
judged limit k Foreign = false
judged limit k (Total n) = ltb k n && leb n limit

-- "hunting, gathering k octets (0 to 4,095), or skipping r octets (1 to 65,536)"; "The k octets lie at the start of the channel's part of
-- the store", so that the part has that many
unfoldable pub state_follows : Family → ℕ → List ℕ → State → Bool
state_follows F limit part Hunting = true
state_follows F limit part (Gathering k) = ltb k limit && leb k (length part) && judged limit k (F.size (take k part))
state_follows F limit part (Skipping r) = leb 1 r && leb r F.most_skip

unfoldable pub hunts : State → Bool
hunts Hunting = true
hunts (Gathering k) = false
hunts (Skipping r) = false

-- "Unheard means hunting."
unfoldable pub channel_follows : Family → ℕ → List ℕ → Channel → Bool
channel_follows F limit part c = pick c.heard (state_follows F limit part c.state) (hunts c.state)

-- the channels from number v on
unfoldable pub all_follow : Family → ℕ → List ℕ → ℕ → List Channel → Bool
all_follow F limit store v [] = true
all_follow F limit store v (c ∷ cs) = channel_follows F limit (part_of limit v store) c && all_follow F limit store (suc v) cs

-- all eight
unfoldable pub record_follows : Family → ℕ → List ℕ → Record → Bool
record_follows F limit store rec = all_follow F limit store 0 rec.channels
