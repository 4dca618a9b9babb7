-- The parts of a data field, how long each is, and the field as they are laid one behind the other.
-- Assumes nothing.
use mathlib.Core.Path.{◌≡◌, refl, ◌∙◌, sym, ap, ap₂}
use mathlib.Core.Bool.{Bool, true, false}
use mathlib.Core.List.{List, [], ◌∷◌, ◌++◌}
use Prim.Native.Nat.{ℕ, ◌+◌, ◌-◌, ◌≤◌, ◌<◌, min}
use native.Mathlib.Decide.{dec_lt}
use native.Mathlib.Nat.{zero-add}
use native.Mathlib.Omega.{arith}
use lib.Dec.{eqb, leb}
use lib.ListN.{length, take, drop, replicate, length-append, length-take, length-drop, length-replicate}
use lib.Seq.{take_all}
use borrow.Author.Tests.{eq-eqb, ne_eqb, le-leb, lt-leb, lt-ltb, le-ltb, leb-true, leb-false, eqb-false}
use Rattle.octets.specs.Laid.{laid}
use Rattle.octets.specs.Numbers.{octets_of}
use Rattle.octets.specs.Pick.{pick}
use Rattle.octets.proofs.Laws.{length_laid}
use Rattle.octets.proofs.Runs.{laid_nil, laid_behind, laid_last, length_octets}
use Rattle.frame.specs.Opening.{idle_data, none_starts}
use Rattle.writing.specs.Laying.{idle_packet, short_idle, left_part, run_part, placed_part, filler_of, left_after, field_of, left_over_after, pointer_of}

-- the first m octets are the first n where m is n, or all if there are fewer
take_least : (l : List ℕ) (n m : ℕ) → m ≡ min (length l) n → take m l ≡ take n l
take_least l n m e = go (dec_lt n (length l))
  where
    go : Dec (n < length l) → take m l ≡ take n l
    go (yes h) = let z : m ≡ n = omega arith in ap (λ (k : ℕ). take k l) z
    go (no h) = take_all m l (omega arith) ∙ sym (take_all n l (omega arith))

-- what was left over
pub length_left : (D left : ℕ) → left ≤ 6 → length (left_part D left) ≡ min left D
unfolding left_part
length_left D left h = simp (length-take, length-drop) (omega arith)

left_fits : (D left : ℕ) → length (left_part D left) ≤ D
unfolding left_part
left_fits D left = omega (arith, length-take D (drop (7 - left) short_idle))

pub left_taken : (D left n : ℕ) → left ≤ 6 → n ≡ min left D
    → take (7 - left + n - (7 - left)) (drop (7 - left) short_idle) ≡ left_part D left
unfolding left_part
left_taken D left n h e =
    let z : 7 - left + n - (7 - left) ≡ n = omega arith in
    ap (λ (k : ℕ). take k (drop (7 - left) short_idle)) z
    ∙ take_least (drop (7 - left) short_idle) D n (omega (arith, length-drop (7 - left) short_idle))

-- the run from the offset
pub length_run : (D : ℕ) (run : List ℕ) (offset left : ℕ)
    → length (run_part D run offset left) ≡ min (length run - offset) (D - length (left_part D left))
unfolding run_part
length_run D run offset left = simp (length-take, length-drop) (omega arith)

run_taken : (D : ℕ) (run : List ℕ) (offset left n : ℕ) → n ≡ min (length run - offset) (D - length (left_part D left))
    → take (offset + n - offset) (drop offset run) ≡ run_part D run offset left
unfolding run_part
run_taken D run offset left n e =
    let z : offset + n - offset ≡ n = omega arith in
    ap (λ (k : ℕ). take k (drop offset run)) z
    ∙ take_least (drop offset run) (D - length (left_part D left)) n (omega (arith, length-drop offset run))

pub length_placed : (D : ℕ) (run : List ℕ) (offset left : ℕ)
    → length (placed_part D run offset left) ≡ length (left_part D left) + length (run_part D run offset left)
unfolding placed_part
length_placed D run offset left = length-append (left_part D left) (run_part D run offset left)

-- an idle packet, in its three parts
length_idle : (n : ℕ) → 7 ≤ n → length (idle_packet n) ≡ n
unfolding idle_packet
length_idle n h = simp (length-append, length_octets, length-replicate) (omega arith)

pub idle_laid : (d d₁ d₂ d₃ : List ℕ) (at n : ℕ) → 7 ≤ n → at + n ≤ length d
    → d₁ ≡ laid d at (octets_of 4 0x07FFC000) → d₂ ≡ laid d₁ (at + 4) (octets_of 2 (n - 7)) → d₃ ≡ laid d₂ (at + 6) (replicate (n - 6) 0x55)
    → d₃ ≡ laid d at (idle_packet n)
unfolding idle_packet octets_of
idle_laid d d₁ d₂ d₃ at n h l e₁ e₂ e₃ =
    let a : List ℕ = 0x07 ∷ 0xFF ∷ 0xC0 ∷ 0x00 ∷ [] in
    let b = octets_of 2 (n - 7) in
    let lb : length (a ++ b) ≡ 6 = simp length-append (omega (arith, length_octets 2 (n - 7))) in
    e₃
    ∙ ap (λ (x : List ℕ). laid x (at + 6) (replicate (n - 6) 0x55)) (rw (e₂, e₁) (laid_behind d at (at + 4) a b (omega arith) refl))
    ∙ laid_behind d at (at + 6) (a ++ b) (replicate (n - 6) 0x55) (omega arith) (omega arith)

-- the filler fills the room, and of a 7-octet idle packet that was begun at most six octets are left
pub length_filler : (placed room : ℕ) → length (filler_of placed room) ≡ room
unfolding filler_of
length_filler placed room = go (eqb placed 0) (leb 7 room) refl
  where
    go : (a b : Bool) → leb 7 room ≡ b → length (pick a (replicate room 0x55) (pick b (idle_packet room) (take room short_idle))) ≡ room
    go true b e = length-replicate room 0x55
    go false true e = length_idle room (leb-true 7 room e)
    go false false e = length-take room short_idle ∙ omega (arith, leb-false 7 room e)

pub left_after_le : (placed room : ℕ) → left_after placed room ≤ 6
unfolding left_after
left_after_le placed room = go (eqb placed 0) (leb 7 room) (eqb room 0) refl
  where
    go : (a b c : Bool) → eqb room 0 ≡ c → pick a 0 (pick b 0 (pick c 0 (7 - room))) ≤ 6
    go true b c e = omega arith
    go false true c e = omega arith
    go false false true e = omega arith
    go false false false e = let n = eqb-false room 0 e in omega arith

pub none_after : (placed room : ℕ) → room ≡ 0 → left_after placed room ≡ 0
unfolding left_after
none_after placed room e = rw e (go (eqb placed 0))
  where
    go : (a : Bool) → ◌≡◌ {A = ℕ} (pick a 0 0) 0
    go true = refl
    go false = refl

-- the filler laid from place `at` to the end of d, and what it leaves over
abbrev pub Filled : List ℕ → ℕ → ℕ → List ℕ → Type 0
Filled d at left d' = (left ≡ left_after at (length d - at)) × (d' ≡ laid d at (filler_of at (length d - at)))

module _ (d : List ℕ) (at : ℕ) where
  pub filled_few : (left : ℕ) (d' : List ℕ) → Filled d at left d' → left ≤ 6
  filled_few left d' f = omega (arith, f.0, left_after_le at (length d - at))

  pub filled_idle : (d' : List ℕ) → at ≡ 0 → d' ≡ laid d 0 (replicate (length d - at) 0x55) → Filled d at 0 d'
  unfolding left_after filler_of
  filled_idle d' a e = rw (eq-eqb at 0 a) (refl, e ∙ ap (λ (n : ℕ). laid d n (replicate (length d - at) 0x55)) (sym a))

  module _ (a : at ≡ 0 → ⊥) where
    pub filled_packet : (d' : List ℕ) → 7 ≤ length d - at → d' ≡ laid d at (idle_packet (length d - at)) → Filled d at 0 d'
    unfolding left_after filler_of
    filled_packet d' h e = rw (ne_eqb at 0 a, le-leb 7 (length d - at) h) (refl, e)

    pub filled_none : length d - at ≡ 0 → Filled d at 0 d
    unfolding left_after filler_of
    filled_none e = rw (ne_eqb at 0 a, e) (refl, sym (laid_nil d at))

    pub filled_begun : (d' : List ℕ) → length d - at < 7 → (length d - at ≡ 0 → ⊥) → d' ≡ laid d at (take (length d - at) short_idle)
        → Filled d at (7 - (length d - at)) d'
    unfolding left_after filler_of
    filled_begun d' h z e = rw (ne_eqb at 0 a, lt-leb 7 (length d - at) h, ne_eqb (length d - at) 0 z) (refl, e)

-- what is placed fits into the field, and with the filler it is the field
pub placed_fits : (D : ℕ) (run : List ℕ) (offset left : ℕ) → length (placed_part D run offset left) ≤ D
placed_fits D run offset left =
    let la : length (left_part D left) ≤ D = left_fits D left in
    omega (arith, length_placed D run offset left, length_run D run offset left)

pub length_field_lem : (D : ℕ) (run : List ℕ) (offset left : ℕ) → length (field_of D run offset left) ≡ D
unfolding field_of
length_field_lem D run offset left =
    let p = placed_part D run offset left in
    rw (length-append p (filler_of (length p) (D - length p)), length_filler (length p) (D - length p))
    (omega (arith, placed_fits D run offset left))

-- the parts laid one behind the other
module _ (d run : List ℕ) (offset left : ℕ) where
  run_laid : (d₁ d₂ : List ℕ) (placed : ℕ) → placed ≡ length (left_part (length d) left) → d₁ ≡ laid d 0 (left_part (length d) left)
      → d₂ ≡ laid d₁ placed (run_part (length d) run offset left) → d₂ ≡ laid d 0 (placed_part (length d) run offset left)
  unfolding placed_part
  run_laid d₁ d₂ placed ep e₁ e₂ =
      e₂
      ∙ ap (λ (x : List ℕ). laid x placed (run_part (length d) run offset left)) e₁
      ∙ laid_behind d 0 placed (left_part (length d) left) (run_part (length d) run offset left)
      (omega (arith, left_fits (length d) left)) (omega arith)

  filler_laid : (d₂ d₃ : List ℕ) (end begun : ℕ) → end ≡ length (placed_part (length d) run offset left)
      → d₂ ≡ laid d 0 (placed_part (length d) run offset left) → Filled d₂ end begun d₃
      → (begun ≡ left_after (length (placed_part (length d) run offset left)) (length d - length (placed_part (length d) run offset left)))
      × (d₃ ≡ field_of (length d) run offset left)
  unfolding field_of
  filler_laid d₂ d₃ end begun ee e₂ e₃ =
      let p = placed_part (length d) run offset left in
      let f = filler_of (length p) (length d - length p) in
      let hp = placed_fits (length d) run offset left in
      let l₂ : length d₂ ≡ length d = ap length e₂ ∙ length_laid d 0 p (omega arith) in (
        e₃.0 ∙ ap₂ left_after ee (ap₂ ◌-◌ l₂ ee),
        e₃.1
            ∙ ap₂ (λ (x : List ℕ) (n : ℕ). laid x end (filler_of end (n - end))) e₂ l₂
            ∙ ap (λ (n : ℕ). laid (laid d 0 p) n (filler_of n (length d - n))) ee
            ∙ laid_behind d 0 (length p) p f (omega arith) (omega arith)
            ∙ laid_last d (p ++ f) 0 (zero-add (length (p ++ f)) ∙ length_field_lem (length d) run offset left),
      )

  pub field_laid : (d₁ d₂ d₃ : List ℕ) (placed n begun : ℕ) → left ≤ 6 → placed ≡ min left (length d)
      → n ≡ min (length run - offset) (length d₁ - placed) → d₁ ≡ laid d 0 (left_part (length d) left)
      → d₂ ≡ laid d₁ placed (take (offset + n - offset) (drop offset run)) → Filled d₂ (placed + n) begun d₃
      → ((offset + n ≡ offset + length (run_part (length d) run offset left)) × (left - placed + begun ≡ left_over_after (length d) run offset left))
      × (d₃ ≡ field_of (length d) run offset left)
  unfolding left_over_after
  field_laid d₁ d₂ d₃ placed n begun hl ep en e₁ e₂ e₃ =
      let D : ℕ = length d in
      let a = left_part D left in
      let ea : placed ≡ length a = ep ∙ sym (length_left D left hl) in
      let l₁ : length d₁ ≡ D = ap length e₁ ∙ length_laid d 0 a (omega (arith, left_fits D left)) in
      let m : n ≡ min (length run - offset) (D - length a) = en ∙ ap₂ (λ (x y : ℕ). min (length run - offset) (x - y)) l₁ ea in
      let eb : n ≡ length (run_part D run offset left) = m ∙ sym (length_run D run offset left) in
      let f = filler_laid d₂ d₃ (placed + n) begun
      (ap₂ ◌+◌ ea eb ∙ sym (length_placed D run offset left))
      (run_laid d₁ d₂ placed ea e₁ (e₂ ∙ ap (laid d₁ placed) (run_taken D run offset left n m))) e₃ in
      ((ap (λ (k : ℕ). offset + k) eb, ap₂ (λ (x y : ℕ). left - x + y) ea f.0), f.1)

-- the pointer, case by case
module _ (D distance left : ℕ) (nothing : Bool) where
  pub points_idle : nothing ≡ true → idle_data ≡ pointer_of D distance left nothing
  unfolding pointer_of
  points_idle e = rw e

  pub points_first : nothing ≡ false → left + distance < D → left + distance ≡ pointer_of D distance left nothing
  unfolding pointer_of
  points_first e h = rw (e, lt-ltb (left + distance) D h)

  pub points_none : nothing ≡ false → D ≤ left + distance → none_starts ≡ pointer_of D distance left nothing
  unfolding pointer_of
  points_none e h = rw (e, le-ltb (left + distance) D h)
