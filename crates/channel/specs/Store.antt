-- The holding store and the output (01, "The set-up and its numbers"), over the limit of a delivered packet.
use Rattle.std.specs.Prelude.{Bool, List, ◌++◌, ℕ, ◌+◌, ◌*◌, eqb, leb, take, drop}
use Rattle.frame.specs.Header.{channels}
use Rattle.frame.specs.SetUp.{most_length}

-- "The holding store is exactly 32,768 octets, 4,096 for each channel in order."
unfoldable pub store_fits : ℕ → ℕ → Bool
store_fits limit octets = eqb octets (limit * channels)

-- "The output is at least 6,144 octets": a packet, and the longest frame
unfoldable pub output_fits : ℕ → ℕ → Bool
output_fits limit octets = leb (limit + most_length) octets

-- where a channel's part starts: "starting at 4,096 times its number"
unfoldable pub part_place : ℕ → ℕ → ℕ
part_place limit channel = limit * channel

-- a channel's part of the store
unfoldable pub part_of : ℕ → ℕ → List ℕ → List ℕ
part_of limit channel store = take limit (drop (part_place limit channel) store)

-- the store with another part for a channel
unfoldable pub with_part : ℕ → ℕ → List ℕ → List ℕ → List ℕ
with_part limit channel store part = take (part_place limit channel) store ++ part ++ drop (part_place limit channel + limit) store
