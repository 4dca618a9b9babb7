-- A written frame is a frame of the sender's: it opens on its channel with its count around the data field as laid, and is of octets.
-- Assumes nothing.
use Rattle.std.specs.Prelude.{Option}
use mathlib.Core.Path.{◌≡◌, refl}
use mathlib.Core.Bool.{Bool, true, false}
use mathlib.Core.List.{List, [], ◌∷◌, ◌++◌}
use Prim.Native.Nat.{ℕ, zero, suc, ◌-◌, ◌^◌, ◌<◌}
use native.Mathlib.Omega.{arith}
use lib.Dec.{eqb, leb}
use lib.ListN.{length, take, drop, replicate}
use Rattle.octets.specs.Numbers.{octets_of}
use Rattle.octets.specs.Pick.{pick}
use Rattle.octets.proofs.OctetLaws.{octets_append, octets_drop, octets_same, octets_take}
use Rattle.octets.proofs.Runs.{octets_lt}
use Rattle.frame.specs.Closing.{close_size, flagged_by}
use Rattle.frame.specs.Theorems.{word_number}
use Rattle.frame.specs.declared.closing.ControlWord.{ControlWord}
use Rattle.frame.specs.declared.opening.Frame.{Frame}
use Rattle.frame.specs.declared.set_up.SetUp.{SetUp}
use Rattle.frame.proofs.Laws.{around_octets}
use Rattle.reading.specs.Reading as reading
use Rattle.writing.specs.Laying.{idle_packet, short_idle, left_part, run_part, placed_part, filler_of, field_of}
use Rattle.writing.specs.Writing.{frame_written, laid_field, laid_pointer}
use Rattle.writing.specs.declared.Place.{Place}
use Rattle.writing.proofs.Laws.{written_opens}
use Rattle.octets.specs.Octets.{Octets}
use Rattle.demands.specs.Sender.{Sent}
use Rattle.read_back.proofs.Places.{Writes, answers}

-- octets
header_octets_lem : Octets (0x07 ∷ 0xFF ∷ 0xC0 ∷ 0x00 ∷ [])
header_octets_lem zero = omega arith
header_octets_lem (suc zero) = omega arith
header_octets_lem (suc (suc zero)) = omega arith
header_octets_lem (suc (suc (suc zero))) = omega arith
header_octets_lem (suc (suc (suc (suc i)))) = omega arith

end_octets : Octets (0x00 ∷ 0x00 ∷ 0x55 ∷ [])
end_octets zero = omega arith
end_octets (suc zero) = omega arith
end_octets (suc (suc zero)) = omega arith
end_octets (suc (suc (suc i))) = omega arith

short_octets : Octets short_idle
short_octets = octets_append (0x07 ∷ 0xFF ∷ 0xC0 ∷ 0x00 ∷ []) (0x00 ∷ 0x00 ∷ 0x55 ∷ []) header_octets_lem end_octets

idle_octets : (n : ℕ) → Octets (idle_packet n)
unfolding idle_packet
idle_octets n =
    octets_append ((0x07 ∷ 0xFF ∷ 0xC0 ∷ 0x00 ∷ []) ++ octets_of 2 (n - 7)) (replicate (n - 6) 0x55)
    (octets_append (0x07 ∷ 0xFF ∷ 0xC0 ∷ 0x00 ∷ []) (octets_of 2 (n - 7)) header_octets_lem (octets_lt 2 (n - 7)))
    (octets_same (n - 6) 0x55 (omega arith))

filler_octets : (placed room : ℕ) → Octets (filler_of placed room)
unfolding filler_of
filler_octets placed room = go (eqb placed 0) (leb 7 room)
  where
    go : (a b : Bool) → Octets (pick a (replicate room 0x55) (pick b (idle_packet room) (take room short_idle)))
    go true b = octets_same room 0x55 (omega arith)
    go false true = idle_octets room
    go false false = octets_take short_idle room short_octets

field_octets : (D : ℕ) (run : List ℕ) (offset left : ℕ) → Octets run → Octets (field_of D run offset left)
unfolding field_of placed_part left_part run_part
field_octets D run offset left h =
    octets_append (placed_part D run offset left) _
    (octets_append (left_part D left) (run_part D run offset left)
    (octets_take (drop (7 - left) short_idle) D (octets_drop short_idle (7 - left) short_octets))
    (octets_take (drop offset run) (D - length (left_part D left)) (octets_drop run offset h)))
    (filler_octets (length (placed_part D run offset left)) (D - length (placed_part D run offset left)))

pub frame_octets : (u : SetUp) (v : ℕ) (p : Place) (w : Option ControlWord) (run : List ℕ) → Octets run → Octets (frame_written u v p w run)
unfolding frame_written
frame_octets u v p w run h =
    around_octets u v p.master p.count w (laid_pointer u w run p) (laid_field u w run p)
    (field_octets (close_size u w) run p.offset p.left_over h)

-- what the frame opens to
abbrev pub opened_to : SetUp → ℕ → Place → Option ControlWord → List ℕ → Frame
opened_to u v p w run =
    record {
      header = record {
        spacecraft = u.spacecraft;
        channel = v;
        flagged = flagged_by w;
        master = p.master;
        count = p.count;
        secondary = false;
        synchronisation = false;
        order = false;
        segment = 3;
        pointer = laid_pointer u w run p;
      };
      word = word_number w;
      place = 6;
      size = close_size u w;
    }

module _ {u : SetUp} {v : ℕ} {run : List ℕ} {p : Place} (s : Writes u v run p) (real : Octets run) (w : Option ControlWord) (out : List ℕ)
    (e : length out ≡ u.length) (small : word_number w < 2 ^ 32) where
  pub sent : Sent u v p.count.0 (frame_written u v p w run) (opened_to u v p w run)
  sent =
      record {
        real = frame_octets u v p w run real;
        opens = (written_opens u v p w run out (answers s w out e) s.master s.counted small).0;
        channel = refl;
        not_private = refl;
        counted = refl;
      }

  pub field_laid : reading.field_of (opened_to u v p w run) (frame_written u v p w run) ≡ laid_field u w run p
  field_laid = (written_opens u v p w run out (answers s w out e) s.master s.counted small).1
