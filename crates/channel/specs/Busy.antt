-- The busy mask (01, "A channel's record"), of any record whatever, from its states alone.
use Rattle.std.specs.Prelude.{Bool, true, false, List, [], ◌∷◌, ℕ, suc, ◌+◌, ◌^◌, ltb}
use Rattle.octets.specs.Pick.{pick}
use Rattle.channel.specs.declared.state.Channel.{Channel}
use Rattle.channel.specs.declared.state.State.{State}
use Rattle.channel.specs.declared.state.State.TheVariants.{Hunting, Gathering, Skipping}

-- "channel v skips or holds at least one octet"
unfoldable pub busy_state : State → Bool
busy_state Hunting = false
busy_state (Gathering k) = ltb 0 k
busy_state (Skipping r) = true

abbrev pub busy_channel : Channel → Bool
busy_channel c = busy_state c.state

-- of the channels from number v on, each busy one gives the bit of value 2^v
unfoldable pub mask_from : ℕ → List Channel → ℕ
mask_from v [] = 0
mask_from v (c ∷ cs) = pick (busy_channel c) (2 ^ v) 0 + mask_from (suc v) cs

abbrev pub mask_of : List Channel → ℕ
mask_of cs = mask_from 0 cs

-- how many are busy
unfoldable pub count_of : List Channel → ℕ
count_of [] = 0
count_of (c ∷ cs) = pick (busy_channel c) 1 0 + count_of cs

-- the first busy one from number v on, and the number after the last if none is
unfoldable pub lowest_from : ℕ → List Channel → ℕ
lowest_from v [] = v
lowest_from v (c ∷ cs) = pick (busy_channel c) v (lowest_from (suc v) cs)

abbrev pub lowest_of : List Channel → ℕ
lowest_of cs = lowest_from 0 cs
