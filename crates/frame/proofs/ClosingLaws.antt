-- What closing writes: the header as three numbers of 16 bits, the check behind a run, and the frame around a data field.
-- Assumes nothing.
use Rattle.std.proofs.Common.{is_some, ◌≡◌, ℕ, ◌+◌, ◌-◌, ◌*◌, ◌%◌, ◌<◌, ◌≤◌, Bool, true, false, List, [], ◌∷◌, ◌++◌, length, take, drop, sym, refl, ap, ◌∙◌, ap₂, mod-eq_of_lt, arith, length-append, length-drop, take_at, Option, Some, None}
use Rattle.std.specs.Int.{from_bool}
use native.Mathlib.Nat.{mod-mod}
use Rattle.crc.specs.Register.{syndrome_of}
use Rattle.octets.specs.Laid.{laid}
use Rattle.octets.specs.Layout.{numbered, laid_out}
use Rattle.octets.specs.Numbers.{octets_of}
use Rattle.octets.specs.Octets.{Octets}
use Rattle.octets.specs.Pick.{pick}
use Rattle.octets.proofs.Laws.{pick_le}
use Rattle.octets.proofs.Layouts.{laid_out_octets, laid_out_length}
use Rattle.octets.proofs.OctetLaws.{no_octets, octets_append as octets_both}
use Rattle.octets.proofs.Runs.{laid_behind, laid_around, laid_last, length_octets, octets_append, octets_lt}
use Rattle.frame.specs.declared.closing.ControlWord.{ControlWord}
use Rattle.frame.specs.declared.counts.ChannelCount.{ChannelCount}
use Rattle.frame.specs.declared.counts.MasterCount.{MasterCount}
use Rattle.frame.specs.declared.set_up.SetUp.{SetUp}
use Rattle.frame.specs.Answers.{bit}
use Rattle.frame.specs.Closing.{flagged_by, word_octets, header_value, header_octets, close_size, field_in, with_check, frame_around}
use Rattle.frame.specs.Header.{frame_header}
use Rattle.frame.specs.Inside.{checked_output}
use Rattle.frame.specs.Opening.{data_size}
use Rattle.frame.specs.SetUp.{fits_of}
use Rattle.frame.specs.Theorems.{AroundOctets, Sizes}
use Rattle.frame.proofs.HeaderLaws.{header_six}
use Rattle.frame.proofs.SetUpLaws.{in_range}

pub bit_lt : (b : Bool) → bit b < 2
bit_lt true = omega arith
bit_lt false = omega arith

-- the items numbered are three numbers of 16 bits
numbered_three : (u : SetUp) (c : ℕ) (m : MasterCount) (k : ChannelCount) (b : Bool) (p : ℕ)
    → u.spacecraft < 1024 → c < 8 → m.0 < 256 → k.0 < 256
    → numbered 0 frame_header.items (header_value u c m k b p)
    ≡ ((u.spacecraft * 16 + c * 2 + bit b) * 65536 + (m.0 * 256 + k.0)) * 65536 + (6144 + p % 2048)
unfolding numbered
numbered_three u c m k b p hs hc hm hk =
    rw (mod-eq_of_lt hs, mod-eq_of_lt hc, mod-eq_of_lt (bit_lt b), mod-eq_of_lt hm, mod-eq_of_lt hk) (omega arith)

module _ (u : SetUp) (channel : ℕ) (m : MasterCount) (k : ChannelCount) (b : Bool) (p : ℕ) where
  pub header_three : u.spacecraft < 1024 → channel < 8 → m.0 < 256 → k.0 < 256
      → header_octets u channel m k b p
      ≡ octets_of 2 (u.spacecraft * 16 + channel * 2 + bit b) ++ octets_of 2 (m.0 * 256 + k.0) ++ octets_of 2 (6144 + p % 2048)
  unfolding header_octets laid_out
  header_three hs hc hm hk =
      let a = u.spacecraft * 16 + channel * 2 + bit b in
      let o = m.0 * 256 + k.0 in
      let z = 6144 + p % 2048 in
      ap₂ octets_of header_six (numbered_three u channel m k b p hs hc hm hk)
      ∙ sym (octets_append 4 2 (a * 65536 + o) z (omega arith))
      ∙ ap (λ (l : List ℕ). l ++ octets_of 2 z) (sym (octets_append 2 2 a o (omega arith)))

  -- of the pointer the low 11 bits are written
  pub header_low : header_octets u channel m k b p ≡ header_octets u channel m k b (p % 2048)
  unfolding header_octets laid_out numbered
  header_low = rw (mod-mod p 2048)

  pub length_header : length (header_octets u channel m k b p) ≡ 6
  unfolding header_octets
  length_header = laid_out_length frame_header (header_value u channel m k b p) ∙ header_six

-- three numbers written one behind the other from the start
pub three_laid : (d d₁ d₂ d₃ : List ℕ) (a o z : ℕ) → 6 ≤ length d → d₁ ≡ laid d 0 (octets_of 2 a) → d₂ ≡ laid d₁ 2 (octets_of 2 o)
    → d₃ ≡ laid d₂ 4 (octets_of 2 z) → d₃ ≡ laid d 0 (octets_of 2 a ++ octets_of 2 o ++ octets_of 2 z)
three_laid d d₁ d₂ d₃ a o z h e₁ e₂ e₃ =
    let la = length_octets 2 a in
    let lo = length_octets 2 o in
    let both : length (octets_of 2 a ++ octets_of 2 o) ≡ 4 = simp length-append (omega arith) in
    e₃
    ∙ ap (λ (l : List ℕ). laid l 4 (octets_of 2 z)) (rw (e₂, e₁) (laid_behind d 0 2 (octets_of 2 a) (octets_of 2 o) (omega arith) (omega arith)))
    ∙ laid_behind d 0 4 (octets_of 2 a ++ octets_of 2 o) (octets_of 2 z) (omega arith) (omega arith)

-- the check in the last two octets, or none
pub check_laid : (u : SetUp) (out : List ℕ) → u.error_control ≡ true → 2 ≤ length out
    → laid out (length out - 2) (octets_of 2 (syndrome_of (take (length out - 2) out))) ≡ checked_output u out
unfolding checked_output with_check
check_laid u out e h = rw e (laid_last out (octets_of 2 (syndrome_of (take (length out - 2) out))) (length out - 2) (omega (arith, length_octets 2 (syndrome_of (take (length out - 2) out)))))

pub check_none : (u : SetUp) (out : List ℕ) → u.error_control ≡ false → out ≡ checked_output u out
unfolding checked_output
check_none u out e = rw e

-- the check behind a run f, in the place of t
checked_behind : (u : SetUp) (f t : List ℕ) (b : Bool) → u.error_control ≡ b → length t ≡ pick b 2 0 → checked_output u (f ++ t) ≡ with_check u f
unfolding checked_output with_check
checked_behind u f t true e h = rw e (ap (λ (l : List ℕ). l ++ octets_of 2 (syndrome_of l)) (take_at f t (length (f ++ t) - 2) (simp length-append (omega arith))))
checked_behind u f [] false e h = rw e
checked_behind u f (x ∷ t) false e h = absurd (omega arith)

-- the flag says whether there is one
pub flagged_by_some : (w : Option ControlWord) → is_some w ≡ flagged_by w
unfolding flagged_by
flagged_by_some None = refl
flagged_by_some (Some w) = refl

-- a flag as a number, in the code and in the layout
pub from_bool_bit : (b : Bool) → from_bool b ≡ bit b
from_bool_bit true = refl
from_bool_bit false = refl

-- the octets of a control word
pub word_length : (w : Option ControlWord) → length (word_octets w) ≡ pick (flagged_by w) 4 0
unfolding word_octets flagged_by
word_length None = refl
word_length (Some v) = length_octets 4 v.0

-- a frame around octets has octets
word_octets_lem : (w : Option ControlWord) → Octets (word_octets w)
unfolding word_octets
word_octets_lem None = no_octets
word_octets_lem (Some v) = octets_lt 4 v.0

check_octets : (b : Bool) (n : ℕ) → Octets (pick b (octets_of 2 n) [])
check_octets true n = octets_lt 2 n
check_octets false n = no_octets

pub around_octets : AroundOctets
unfolding frame_around with_check header_octets
around_octets u channel m k w p field o =
    let h = header_octets u channel m k (flagged_by w) p in
    let f = h ++ field ++ word_octets w in
    octets_both f _
    (octets_both (h ++ field) (word_octets w) (octets_both h field (laid_out_octets frame_header (header_value u channel m k (flagged_by w) p)) o) (word_octets_lem w))
    (check_octets u.error_control (syndrome_of f))

-- the parts of a frame fill it
pub sizes : Sizes
unfolding close_size data_size
sizes u w e =
    let r = (in_range u).0 e in
    let l = word_length w in
    let a = pick_le (flagged_by w) 4 in
    let b = pick_le u.error_control 2 in
    record { full = omega arith; least = omega arith; most = omega arith }

-- the header, the word and the check written into the output make the frame
module _ (u : SetUp) (channel : ℕ) (m : MasterCount) (k : ChannelCount) (w : Option ControlWord) (p : ℕ) (out o₁ o₂ o₃ : List ℕ) (at : ℕ) where
  pub frame_written_lem : fits_of u ≡ true → length out ≡ u.length → at + length (word_octets w) + pick u.error_control 2 0 ≡ u.length
      → o₁ ≡ laid out 0 (header_octets u channel m k (flagged_by w) p) → o₂ ≡ laid o₁ at (word_octets w) → o₃ ≡ checked_output u o₂
      → o₃ ≡ frame_around u channel m k w p (field_in u w out)
  unfolding frame_around field_in
  frame_written_lem fits whole place e₁ e₂ e₃ =
      let h = header_octets u channel m k (flagged_by w) p in
      let lh : length h ≡ 6 = length_header u channel m k (flagged_by w) p in
      let s = sizes u w fits in
      let ea : at ≡ length h + close_size u w = omega arith in
      let t = drop (length h + close_size u w + length (word_octets w)) out in
      let lt : length t ≡ pick u.error_control 2 0 = simp length-drop (omega arith) in
      e₃
      ∙ ap (checked_output u) (rw (e₂, e₁, ea) (laid_around out h (word_octets w) (close_size u w)))
      ∙ checked_behind u (h ++ take (close_size u w) (drop (length h) out) ++ word_octets w) t u.error_control refl lt
      ∙ ap (λ (n : ℕ). with_check u (h ++ take (close_size u w) (drop n out) ++ word_octets w)) lh
