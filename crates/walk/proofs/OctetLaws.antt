-- Octets of the store: those of a part, and of a store with another part.
-- Assumes nothing.
use mathlib.Core.List.{List, ◌++◌}
use Prim.Native.Nat.{ℕ, ◌+◌}
use lib.ListN.{take, drop}
use Rattle.channel.specs.Store.{part_place, part_of, with_part}
use Rattle.octets.specs.Octets.{Octets}
use Rattle.octets.proofs.OctetLaws.{octets_append, octets_drop, octets_take}

pub octets_part : (limit v : ℕ) (store : List ℕ) → Octets store → Octets (part_of limit v store)
unfolding part_of
octets_part limit v store h = octets_take (drop (part_place limit v) store) limit (octets_drop store (part_place limit v) h)

pub octets_with : (limit v : ℕ) (store part : List ℕ) → Octets store → Octets part → Octets (with_part limit v store part)
unfolding with_part
octets_with limit v store part h k =
    let at = part_place limit v in
    octets_append (take at store ++ part) (drop (at + limit) store) (octets_append (take at store) part (octets_take store at h) k)
    (octets_drop store (at + limit) h)
