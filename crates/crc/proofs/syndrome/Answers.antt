-- The register is the syndrome of the octets so far; an octet more goes through the table.
use mathlib.Core.Path.{◌≡◌, refl, sym, ap, ◌∙◌}
use mathlib.Core.List.{List}
use Prim.Native.Nat.{ℕ, ◌+◌, ◌*◌, ◌/◌, ◌%◌, ◌^◌, ◌<◌}
use native.Mathlib.Numerals.{add-one}
use native.Mathlib.Omega.{arith}
use lib.ListN.{length, get_or, take}
use lib.Seq.{take-suc}
use lib.Bits.{bit_xor}
use Rattle.crc.specs.Register.{over, bits, bits_of, syndrome_of}
use Rattle.crc.specs.Entries.{TableRule}
use Rattle.crc.proofs.Linear.{syndrome_octet}
use Rattle.crc.proofs.Laws.{in_16_bits}
use Rattle.crc.proofs.Entries.{octet_through}
use Rattle.crc.proofs.syndrome.Goals as goal

r_lt : (m : List ℕ) (r : ℕ) → r ≡ syndrome_of m → r < 2 ^ 16
r_lt m r e = rw e (in_16_bits m)

one_octet :
    (l t : List ℕ) (i r : ℕ) → TableRule t → i < length l → get_or l i 0 < 2 ^ 8 → r ≡ syndrome_of (take i l)
    → bit_xor (r * 2 ^ 8 % 2 ^ 16) (get_or t (bit_xor (r / 2 ^ 8) (get_or l i 0)) 0) ≡ syndrome_of (take (i + 1) l)
one_octet l t i r rule h octet e =
    octet_through t r (get_or l i 0) rule (r_lt (take i l) r e) octet
    ∙ ap (over (bits 8 (get_or l i 0))) e
    ∙ sym (ap syndrome_of (rw add-one (take-suc l i 0 h)) ∙ syndrome_octet (take i l) (get_or l i 0))

pub loop-octet-init : goal.loop-octet-init
unfolding syndrome_of bits_of over
loop-octet-init c = refl

pub loop-octet-preserved : goal.loop-octet-preserved
loop-octet-preserved c =
    let table = c.entries-table in
    let i = c.loop-octet.octet-index in
    rw c.from.ensures
    (one_octet c.args.bytes.now table.result i c.loop-octet.r table.ensures (omega arith) (c.type_inv.bytes i).fits c.loop-octet.invariant)
