-- The check's table (02, P4: "Use a 256-entry table, with its rule established once over the whole table").
use Rattle.std.specs.Prelude.{◌≡◌, List, ℕ, ◌<◌, get_or}
use Rattle.crc.specs.Register.{over, bits}

-- entry i is what eight steps of the register, all zeros before them, make of the octet i
abbrev pub TableRule : List ℕ → Type 0
TableRule t = (i : ℕ) → i < 256 → get_or t i 0 ≡ over (bits 8 i) 0
