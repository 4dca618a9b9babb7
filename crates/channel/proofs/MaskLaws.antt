-- The busy mask: its bits, its bound, and how it grows by a channel below the others.
-- Assumes nothing.
use mathlib.Core.Path.{◌≡◌, refl, ◌∙◌, sym, ap}
use mathlib.Core.Bool.{Bool, true, false}
use mathlib.Core.List.{List, [], ◌∷◌, ◌++◌}
use Prim.Native.Nat.{ℕ, zero, suc, ◌+◌, ◌*◌, ◌/◌, ◌%◌, ◌^◌, ◌≤◌, ◌<◌}
use native.Mathlib.Nat.{add-zero, div-one, mul-add, mul_assoc, mul-one, mul-zero, pow-suc}
use native.Mathlib.Numerals.{one-add}
use native.Mathlib.Omega.{arith}
use lib.ListN.{length}
use lib.Count.{ones, ones_step, count_trailing_zeros, under}
use lib.Pow.{pow_mono, shr-shr}
use Rattle.octets.specs.Pick.{pick}
use Rattle.octets.proofs.Laws.{pick_le}
use Rattle.channel.specs.declared.state.Channel.{Channel}
use Rattle.channel.specs.Busy.{busy_channel, mask_from, mask_of, count_of, lowest_from, lowest_of}
use Rattle.channel.specs.Theorems.{MaskBit, MaskNoMore, Lowest, LowestBusy}

pick_times : (b : Bool) (x : ℕ) → pick b x 0 ≡ x * pick b 1 0
pick_times true x = sym (mul-one x)
pick_times false x = sym (mul-zero x)

-- the mask of channels from number v on is 2^v times that of the same channels from 0 on
mask_from_lem : (v : ℕ) (cs : List Channel) → mask_from v cs ≡ 2 ^ v * mask_of cs
unfolding mask_from
mask_from_lem v [] = sym (mul-zero (2 ^ v))
mask_from_lem v (c ∷ cs) =
    let b = pick {A = ℕ} (busy_channel c) 1 0 in
    let m = mask_of cs in
    rw (mask_from_lem (suc v) cs, mask_from_lem 1 cs, pick_times (busy_channel c) (2 ^ v), pow-suc 2 v, mul_assoc) (sym (mul-add (2 ^ v) b (2 * m)))

pub mask_cons : (c : Channel) (cs : List Channel) → mask_of (c ∷ cs) ≡ pick (busy_channel c) 1 0 + mask_of cs * 2
unfolding mask_from
mask_cons c cs = rw (mask_from_lem 1 cs) (omega arith)

pub mask_no_more : MaskNoMore
unfolding mask_from
mask_no_more [] = omega arith
mask_no_more (c ∷ cs) = rw (mask_cons, pow-suc) (omega (arith, mask_no_more cs, pick_le (busy_channel c) 1))

-- a loop that takes the channels from the last down, those passed behind those still to come: at its end, and the room in an octet for one more
pub mask_end : (coming passed all : List Channel) (m : ℕ) → m ≡ mask_of passed → length coming ≡ 0 → coming ++ passed ≡ all → m ≡ mask_of all
mask_end [] passed all m em z e = rw (em, e)
mask_end (c ∷ cs) passed all m em z e = absurd (omega arith)

pub mask_room : (coming passed : List Channel) (m : ℕ) → m ≡ mask_of passed → length coming + length passed ≡ 8 → 0 < length coming → m < 128
mask_room coming passed m em l h =
    let few : length passed ≤ 7 = omega arith in
    let p : 2 ^ length passed ≤ 2 ^ 7 = pow_mono few in
    omega (arith, mask_no_more passed)

-- the lowest bit of a mask, and the mask without it
module _ (c : Channel) (cs : List Channel) where
  mask_low : mask_of (c ∷ cs) % 2 ≡ pick (busy_channel c) 1 0
  mask_low = omega (arith, mask_cons c cs, pick_le (busy_channel c) 1)

  mask_half : mask_of (c ∷ cs) / 2 ≡ mask_of cs
  mask_half = omega (arith, mask_cons c cs, pick_le (busy_channel c) 1)

pub mask_bit : MaskBit
unfolding mask_from
mask_bit [] v h = absurd (omega arith)
mask_bit (c ∷ cs) zero h = rw div-one (mask_low c cs)
mask_bit (c ∷ cs) (suc v) h =
    ap (λ (n : ℕ). mask_of (c ∷ cs) / 2 ^ n % 2) (sym (one-add v))
    ∙ ap (λ (n : ℕ). n % 2) (sym (shr-shr (mask_of (c ∷ cs)) 1 v) ∙ ap (λ (n : ℕ). n / 2 ^ v) (mask_half c cs))
    ∙ mask_bit cs v (omega arith)

-- as many bits are set as channels are busy
pub mask_ones : (cs : List Channel) → ones (mask_of cs) ≡ count_of cs
unfolding mask_from count_of ones
mask_ones [] = refl
mask_ones (c ∷ cs) = rw (ones_step (mask_of (c ∷ cs)), mask_low c cs, mask_half c cs, mask_ones cs)

-- the lowest busy channel counted from v on, and with one channel more below
lowest_from_lem : (v : ℕ) (cs : List Channel) → lowest_from v cs ≡ v + lowest_of cs
unfolding lowest_from
lowest_from_lem v [] = sym (add-zero v)
lowest_from_lem v (c ∷ cs) = rw (lowest_from_lem (suc v) cs, lowest_from_lem 1 cs) (choose (busy_channel c))
  where
    choose : (b : Bool) → pick b v (suc v + lowest_of cs) ≡ v + pick b 0 (1 + lowest_of cs)
    choose true = sym (add-zero v)
    choose false = omega arith

lowest_cons : (c : Channel) (cs : List Channel) → lowest_of (c ∷ cs) ≡ pick (busy_channel c) 0 (suc (lowest_of cs))
unfolding lowest_from
lowest_cons c cs = rw (lowest_from_lem 1 cs, one-add)

-- the zeros below a mask's lowest bit
pub mask_lowest : (k : ℕ) (cs : List Channel) → length cs ≡ k → count_trailing_zeros k (mask_of cs) ≡ lowest_of cs
unfolding mask_from lowest_from count_trailing_zeros
mask_lowest zero [] e = refl
mask_lowest (suc k) [] e = absurd (omega arith)
mask_lowest zero (c ∷ cs) e = absurd (omega arith)
mask_lowest (suc k) (c ∷ cs) e =
    rw (mask_low c cs, mask_half c cs, mask_lowest k cs (omega arith), lowest_cons c cs) (choose (busy_channel c))
  where
    choose : (b : Bool) → under (pick b 1 0) (lowest_of cs) ≡ pick b 0 (suc (lowest_of cs))
    choose true = refl
    choose false = refl

pub lowest_busy : LowestBusy
unfolding lowest_from
lowest_busy [] = record { none_below = λ v h. absurd (omega arith); busy_there = λ h. absurd (omega arith); in_range = omega arith }
lowest_busy (c ∷ cs) = step (lowest_busy cs) (busy_channel c) refl
  where
    step : Lowest cs → (b : Bool) → busy_channel c ≡ b → Lowest (c ∷ cs)
    step r true e =
        let z : lowest_of (c ∷ cs) ≡ 0 = rw (lowest_cons c cs, e) in
        record {
          none_below = λ v h. absurd (omega arith);
          busy_there = λ h. rw z e;
          in_range = omega arith;
        }
    step r false e =
        let z : lowest_of (c ∷ cs) ≡ suc (lowest_of cs) = rw (lowest_cons c cs, e) in
        record {
          none_below = elim [ zero ↦ λ h. e | suc v ↦ λ h. r.none_below v (omega arith) ];
          busy_there = λ h. rw z (r.busy_there (omega arith));
          in_range = omega (arith, r.in_range);
        }
