-- The table: what antt computes to compare it with, its rule at each entry, and what an octet does to the register through it.
use mathlib.Core.Path.{◌≡◌, refl, sym, ap, ap₂, ◌∙◌}
use mathlib.Core.List.{List, [], ◌∷◌}
use Prim.Native.Nat.{ℕ, zero, suc, ◌+◌, ◌*◌, ◌/◌, ◌%◌, ◌^◌, ◌<◌}
use native.Mathlib.Nat.{zero-add, add-zero, add-suc, suc-add, le_of_suc-le-suc, not-suc-le-zero}
use native.Mathlib.Omega.{arith}
use lib.ListN.{get_or}
use lib.Bits.{bit_xor, xor_block, xor_lt, xor_zero_l, xor_zero_r, xor_shifted, xor_comm}
use Rattle.crc.specs.Register.{over, bits}
use Rattle.crc.specs.Entries.{TableRule}
use Rattle.crc.proofs.Linear.{turns, turns_xor, turns_low, over_bits}

-- what the rule gives for an octet
abbrev entry : ℕ → ℕ
entry o = over (bits 8 o) 0

-- and for n octets in a row, the first of them o
unfoldable pub by_rule : ℕ → ℕ → List ℕ
by_rule o zero = []
by_rule o (suc n) = entry o ∷ by_rule (suc o) n

each_from : (n o i : ℕ) → i < n → get_or (by_rule o n) i 0 ≡ entry (o + i)
unfolding by_rule
each_from zero o i h = absurd (not-suc-le-zero h)
each_from (suc n) o zero h = ap entry (sym (add-zero o))
each_from (suc n) o (suc i) h =
    each_from n (suc o) i (le_of_suc-le-suc h) ∙ ap entry (suc-add o i ∙ sym (add-suc o i))

-- the one law that carries the test of the whole table to each entry
pub each_entry : TableRule (by_rule 0 256)
each_entry i h = each_from 256 0 i h ∙ ap entry (zero-add i)

-- an entry is its octet at the register's top, and then eight turns
entry_turns : (o : ℕ) → o < 2 ^ 8 → entry o ≡ turns 8 (o * 2 ^ 8)
entry_turns o h = over_bits 8 8 o 0 refl h (omega arith) ∙ ap (turns 8) (xor_zero_l (o * 2 ^ 8))

upper_lower : (r o : ℕ) → bit_xor r (o * 2 ^ 8) ≡ bit_xor (bit_xor (r / 2 ^ 8) o * 2 ^ 8) (r % 2 ^ 8)
upper_lower r o =
    let u = r / 2 ^ 8 in
    let l = r % 2 ^ 8 in
    let hl : l < 2 ^ 8 = omega arith in
    ap₂ bit_xor {x = r} {y = u * 2 ^ 8 + l} {u = o * 2 ^ 8} {v = o * 2 ^ 8 + 0} (omega arith) (omega arith)
    ∙ xor_block 8 u o l 0 hl (omega arith)
    ∙ ap (λ (x : ℕ). bit_xor u o * 2 ^ 8 + x) (xor_zero_r l)
    ∙ sym (xor_shifted (bit_xor u o) 8 l hl)

-- an octet through the table: the register's lower octet goes up, and its upper one with the octet that comes in tells the entry
pub octet_through :
    (t : List ℕ) (r o : ℕ) → TableRule t → r < 2 ^ 16 → o < 2 ^ 8
    → bit_xor (r * 2 ^ 8 % 2 ^ 16) (get_or t (bit_xor (r / 2 ^ 8) o) 0) ≡ over (bits 8 o) r
octet_through t r o f h ho =
    let l = r % 2 ^ 8 in
    let q = bit_xor (r / 2 ^ 8) o in
    let hq : q < 2 ^ 8 = xor_lt 8 (r / 2 ^ 8) o (omega arith) ho in
    let up : turns 8 l ≡ r * 2 ^ 8 % 2 ^ 16 = turns_low 8 8 l refl (omega arith) ∙ omega arith in
    let in_two : over (bits 8 o) r ≡ bit_xor (turns 8 (q * 2 ^ 8)) (turns 8 l)
    = over_bits 8 8 o r refl ho h ∙ ap (turns 8) (upper_lower r o) ∙ turns_xor 8 (q * 2 ^ 8) l (omega arith) (omega arith) in
    xor_comm (r * 2 ^ 8 % 2 ^ 16) (get_or t q 0) ∙ ap₂ bit_xor (f q hq ∙ entry_turns q hq) (sym up) ∙ sym in_two
