-- One data field of the writer against what is still to be sent: the left-over, the run from the offset, the fillers. The field holds the
-- next octets, and what is behind them is what the next place has to send.
-- Assumes nothing.
use mathlib.Core.Path.{◌≡◌, refl, ◌∙◌, sym, ap, ap₂}
use mathlib.Core.Bool.{Bool, true, false}
use mathlib.Core.List.{List, [], ◌∷◌, ◌++◌, append_assoc, append-nil}
use Prim.Native.Nat.{ℕ, zero, suc, ◌+◌, ◌-◌, ◌≤◌, ◌<◌, min}
use native.Mathlib.Decide.{dec_lt, ℕ_discrete}
use native.Mathlib.Omega.{arith}
use lib.Dec.{eqb}
use lib.ListN.{length, take, drop, length-append, length-drop, drop_of_length-le}
use lib.Seq.{take_all, take-append-le, drop-append-le, take-append-add, drop-append-add, drop-drop, take-nil}
use borrow.Author.Tests.{eq-eqb, ne_eqb, le-leb, lt-leb}
use Rattle.octets.specs.Pick.{pick}
use Rattle.packet.specs.Theorems.{end_to_end}
use Rattle.writing.specs.Laying.{idle_packet, short_idle, left_part, run_part, placed_part, filler_of, left_after, field_of, left_over_after}
use Rattle.writing.proofs.LayingLaws.{length_left, length_run, length_placed, none_after}
use Rattle.read_back.specs.Demand2.{filler_for}
use Rattle.demands.specs.Sender.{Mark, inner, marks_of, marks_of_all, octets_marked}
use Rattle.read_back.proofs.Fillers.{length_idle}
use Rattle.demands.proofs.Stream.{length_inner, octets_append, octets_inner, octets_laid, octets_take, length_laid, length_marks, laid_append}

-- the first octets of two runs, and what is behind them
take_both : {A : Type 0} (n : ℕ) (x y : List A) → take n (x ++ y) ≡ take n x ++ take (n - length x) y
take_both n x y = go (dec_lt n (length x))
  where
    go : Dec (n < length x) → take n (x ++ y) ≡ take n x ++ take (n - length x) y
    go (yes h) =
        let z : n - length x ≡ 0 = omega arith in
        take-append-le n x y (omega arith) ∙ sym (append-nil (take n x)) ∙ ap (λ (k : ℕ). take n x ++ take k y) (sym z)
    go (no h) =
        let z : length x + (n - length x) ≡ n = omega arith in
        ap (λ (k : ℕ). take k (x ++ y)) (sym z) ∙ take-append-add x y (n - length x)
        ∙ ap (λ (l : List _). l ++ take (n - length x) y) (sym (take_all n x (omega arith)))

drop_both : {A : Type 0} (n : ℕ) (x y : List A) → drop n (x ++ y) ≡ drop n x ++ drop (n - length x) y
drop_both n x y = go (dec_lt n (length x))
  where
    go : Dec (n < length x) → drop n (x ++ y) ≡ drop n x ++ drop (n - length x) y
    go (yes h) =
        let z : n - length x ≡ 0 = omega arith in
        drop-append-le n x y (omega arith) ∙ ap (λ (k : ℕ). drop n x ++ drop k y) (sym z)
    go (no h) =
        let z : length x + (n - length x) ≡ n = omega arith in
        let e : drop n x ≡ [] = drop_of_length-le x {i = n} (omega arith) in
        ap (λ (k : ℕ). drop k (x ++ y)) (sym z) ∙ drop-append-add x y (n - length x)
        ∙ ap (λ (l : List _). l ++ drop (n - length x) y) (sym e)

-- marks and the octets in them
pub drop_inner : (n : ℕ) (q : List ℕ) → drop n (inner q) ≡ inner (drop n q)
unfolding inner
drop_inner zero q = refl
drop_inner (suc n) [] = refl
drop_inner (suc n) (o ∷ q) = drop_inner n q

drop_marks : (n : ℕ) (q : List ℕ) → 1 ≤ n → drop n (marks_of q) ≡ inner (drop n q)
unfolding marks_of inner
drop_marks zero q h = absurd (omega arith)
drop_marks (suc n) [] h = refl
drop_marks (suc n) (o ∷ q) h = drop_inner n q

octets_drop : (n : ℕ) (ms : List Mark) → octets_marked (drop n ms) ≡ drop n (octets_marked ms)
unfolding octets_marked
octets_drop zero ms = refl
octets_drop (suc n) [] = refl
octets_drop (suc n) (m ∷ ms) = octets_drop n ms

-- the filler that a call begins: its beginning fills the room, and its rest is the new left-over
filler_none : (placed room : ℕ) → room ≡ 0 → filler_for placed room ≡ []
unfolding filler_for
filler_none placed room e = rw (eq-eqb room 0 e) (go (eqb placed 0))
  where
    go : (b : Bool) → ◌≡◌ {A = List (List ℕ)} (pick b [] []) []
    go true = refl
    go false = refl

pub filler_idle_frame : (placed room : ℕ) → placed ≡ 0 → filler_for placed room ≡ []
unfolding filler_for
filler_idle_frame placed room e = rw (eq-eqb placed 0 e)

module _ (placed room : ℕ) (n : placed ≡ 0 → ⊥) where
  -- the room is none, at least seven octets, or fewer
  data Room : Type 0 where
    none : room ≡ 0 → filler_for placed room ≡ [] → left_after placed room ≡ 0 → filler_of placed room ≡ [] → Room
    wide : 7 ≤ room → filler_for placed room ≡ idle_packet room ∷ [] → left_after placed room ≡ 0 → filler_of placed room ≡ idle_packet room → Room
    close : 1 ≤ room → room < 7 → filler_for placed room ≡ short_idle ∷ [] → left_after placed room ≡ 7 - room
        → filler_of placed room ≡ take room short_idle → Room

  room_of : Room
  unfolding filler_for left_after filler_of
  room_of = go (ℕ_discrete room 0) (dec_lt room 7)
    where
      go : Dec (room ≡ 0) → Dec (room < 7) → Room
      go (yes z) d =
          none z (filler_none placed room z) (none_after placed room z)
          (rw (ne_eqb placed 0 n, lt-leb 7 room (omega arith)) (ap (λ (k : ℕ). take k short_idle) z))
      go (no z) (yes h) =
          close (omega arith) h (rw (ne_eqb placed 0 n, ne_eqb room 0 z, lt-leb 7 room h))
          (rw (ne_eqb placed 0 n, ne_eqb room 0 z, lt-leb 7 room h)) (rw (ne_eqb placed 0 n, lt-leb 7 room h))
      go (no z) (no h) =
          let i : 7 ≤ room = omega arith in
          wide i (rw (ne_eqb placed 0 n, ne_eqb room 0 z, le-leb 7 room i)) (rw (ne_eqb placed 0 n, le-leb 7 room i))
          (rw (ne_eqb placed 0 n, le-leb 7 room i))

  pub filler_long : length (end_to_end (filler_for placed room)) ≡ room + left_after placed room
  filler_long = go room_of
    where
      go : Room → length (end_to_end (filler_for placed room)) ≡ room + left_after placed room
      go (none z f l o) = rw (f, l) (omega arith)
      go (wide h f l o) = rw (f, l) (omega (arith, length-append (idle_packet room) [], length_idle room h))
      go (close h i f l o) = rw (f, l) (omega arith)

  filler_take : take room (end_to_end (filler_for placed room)) ≡ filler_of placed room
  filler_take = go room_of
    where
      go : Room → take room (end_to_end (filler_for placed room)) ≡ filler_of placed room
      go (none z f l o) = rw (f, o) (take-nil room)
      go (wide h f l o) = rw (f, o, append-nil (idle_packet room)) (take_all room (idle_packet room) (omega (arith, length_idle room h)))
      go (close h i f l o) = rw (f, o)

  filler_drop : drop room (marks_of_all (filler_for placed room)) ≡ inner (drop (7 - left_after placed room) short_idle)
  unfolding marks_of_all inner
  filler_drop = go room_of
    where
      go : Room → drop room (marks_of_all (filler_for placed room)) ≡ inner (drop (7 - left_after placed room) short_idle)
      go (none z f l o) = rw (f, l, z)
      go (wide h f l o) =
          rw (f, l, append-nil (marks_of (idle_packet room)))
          (drop_of_length-le (marks_of (idle_packet room)) {i = room} (omega (arith, length_marks (idle_packet room), length_idle room h)))
      go (close h i f l o) =
          let z : 7 - (7 - room) ≡ room = omega arith in
          rw (f, l, append-nil (marks_of short_idle), z) (drop_marks room short_idle h)

-- the room behind the left-over, and behind the left-over and the run
over_plain : (D l a : ℕ) → a ≡ min l D → D - l ≡ D - a
over_plain D l a e = omega arith

room_plain : (D l k a b n : ℕ) → a ≡ min l D → b ≡ min k (D - a) → n ≡ a + b → D - l - k ≡ D - n
room_plain D l k a b n ea eb en = go (dec_lt D l)
  where
    go : Dec (D < l) → D - l - k ≡ D - n
    go (yes h) = let z : a ≡ D = omega arith in let y : D - l ≡ 0 = omega arith in omega arith
    go (no h) = let z : a ≡ l = omega arith in omega arith

-- what is still to be sent from a place of the run on
abbrev pub to_send : List (List ℕ) → ℕ → ℕ → List (List ℕ) → List Mark
to_send ps offset left fs = inner (drop (7 - left) short_idle) ++ (drop offset (marks_of_all ps) ++ marks_of_all fs)

pub length_tail : (left : ℕ) → left ≤ 6 → length (drop (7 - left) short_idle) ≡ left
length_tail left h = length-drop (7 - left) short_idle ∙ omega arith

left_less : (l D : ℕ) → l ≤ 6 → D ≤ l → 7 - l + D ≡ 7 - (l - D + 0)
left_less l D few h = omega arith

past : (m o k : ℕ) → m - o ≤ k → m ≤ o + k
past m o k h = omega arith

at_least : (k b : ℕ) → b ≡ k → k ≤ b
at_least k b e = omega arith

over_alone : (l a over : ℕ) → a ≡ l → l - a + over ≡ over
over_alone l a over e = omega arith

module _ (D l k a b n : ℕ) (ea : a ≡ min l D) (eb : b ≡ min k (D - a)) (en : n ≡ a + b) where
  left_fills : D ≤ l → (a ≡ D) × (D - l ≡ b) × (D - n ≡ 0)
  left_fills h =
      let i : a ≡ D = omega arith in
      let j : b ≡ 0 = omega arith in
      (i, omega arith, omega arith)

  run_fills : l < D → D - l < k → (a ≡ l) × (D - l ≡ b) × (D - n ≡ 0)
  run_fills h m =
      let i : a ≡ l = omega arith in
      let j : D - l ≡ b = omega arith in
      (i, j, omega arith)

  both_fit : l < D → k ≤ D - l → (a ≡ l) × (b ≡ k)
  both_fit h m =
      let i : a ≡ l = omega arith in
      (i, omega arith)

-- what is behind D octets of them, by whether the left-over and the run fit: a and b octets of these are placed, n in all, and G is the
-- filler's rest
module _ (L : List Mark) (o l D a b n over : ℕ) (G : List Mark) (few : l ≤ 6) (inside : o ≤ length L) (ea : a ≡ min l D)
    (eb : b ≡ min (length L - o) (D - a)) (en : n ≡ a + b) (g : G ≡ inner (drop (7 - over) short_idle)) (z : D - n ≡ 0 → over ≡ 0) where
  none_behind : D - n ≡ 0 → G ≡ []
  unfolding inner
  none_behind e = g ∙ ap (λ (k : ℕ). inner (drop (7 - k) short_idle)) (z e)

  later_plain : inner (drop D (drop (7 - l) short_idle)) ++ (drop (o + (D - l)) L ++ G)
      ≡ inner (drop (7 - (l - a + over)) short_idle) ++ drop (o + b) L
  unfolding inner
  later_plain = go (dec_lt l D) (dec_lt (D - l) (length L - o))
    where
      Goal : Type 0
      Goal = inner (drop D (drop (7 - l) short_idle)) ++ (drop (o + (D - l)) L ++ G)
          ≡ inner (drop (7 - (l - a + over)) short_idle) ++ drop (o + b) L

      tail_gone : l < D → drop D (drop (7 - l) short_idle) ≡ []
      tail_gone h = drop_of_length-le (drop (7 - l) short_idle) {i = D} (omega (arith, length_tail l few))

      go : Dec (l < D) → Dec (D - l < length L - o) → Goal
      go (no h) d =
          let f = left_fills D l (length L - o) a b n ea eb en (omega arith) in
          let k : 7 - l + D ≡ 7 - (l - a + over) = left_less l D few (omega arith) ∙ ap₂ (λ (x y : ℕ). 7 - (l - x + y)) (sym f.0) (sym (z f.2)) in
          rw (none_behind f.2, append-nil (drop (o + (D - l)) L), drop-drop D (7 - l) short_idle, k, f.1)
      go (yes h) (yes i) =
          let f = run_fills D l (length L - o) a b n ea eb en h i in
          let m : l - a + over ≡ 0 = over_alone l a over f.0 ∙ z f.2 in
          rw (none_behind f.2, append-nil (drop (o + (D - l)) L), tail_gone h, f.1, m)
      go (yes h) (no i) =
          let j : length L - o ≤ D - l = omega arith in
          let f = both_fit D l (length L - o) a b n ea eb en h j in
          let x : drop (o + (D - l)) L ≡ [] = drop_of_length-le L {i = o + (D - l)} (past (length L) o (D - l) j) in
          let y : drop (o + b) L ≡ [] = drop_of_length-le L {i = o + b} (past (length L) o b (at_least (length L - o) b f.1)) in
          rw (tail_gone h, x, y, over_alone l a over f.0, append-nil (inner (drop (7 - over) short_idle))) g

module _ (ps : List (List ℕ)) (offset left D : ℕ) (few : left ≤ 6) (inside : offset ≤ length (end_to_end ps))
    (some : length (placed_part D (end_to_end ps) offset left) ≡ 0 → ⊥) where
  filler : List (List ℕ)
  filler = filler_for (length (placed_part D (end_to_end ps) offset left)) (D - length (placed_part D (end_to_end ps) offset left))

  -- what this call has to send: the left-over, the run, its filler
  marks : List Mark
  unfolding filler
  marks = inner (drop (7 - left) short_idle) ++ (drop offset (marks_of_all ps) ++ marks_of_all filler)

  run_long : length (drop offset (marks_of_all ps)) ≡ length (end_to_end ps) - offset
  run_long = length-drop offset (marks_of_all ps) ∙ ap (λ (k : ℕ). k - offset) (length_laid ps)

  tail_long : length (inner (drop (7 - left) short_idle)) ≡ left
  tail_long = length_inner (drop (7 - left) short_idle) ∙ length_tail left few

  record Sizes : Type 0 where
    over : length (left_part D left) ≡ min left D
    there : length (run_part D (end_to_end ps) offset left) ≡ min (length (end_to_end ps) - offset) (D - length (left_part D left))
    both : length (placed_part D (end_to_end ps) offset left) ≡ length (left_part D left) + length (run_part D (end_to_end ps) offset left)

  sizes : Sizes
  sizes =
      record {
        over = length_left D left few;
        there = length_run D (end_to_end ps) offset left;
        both = length_placed D (end_to_end ps) offset left;
      }

  room_is : D - left - (length (end_to_end ps) - offset) ≡ D - length (placed_part D (end_to_end ps) offset left)
  room_is = let z = sizes in room_plain D left (length (end_to_end ps) - offset) _ _ _ z.over z.there z.both

  marks_long : D ≤ length marks
  unfolding marks filler
  marks_long =
      let f = filler_for (length (placed_part D (end_to_end ps) offset left)) (D - length (placed_part D (end_to_end ps) offset left)) in
      omega (
        arith,
        length-append (inner (drop (7 - left) short_idle)) (drop offset (marks_of_all ps) ++ marks_of_all f),
        length-append (drop offset (marks_of_all ps)) (marks_of_all f),
        run_long,
        tail_long,
        room_is,
        length_laid f,
        filler_long (length (placed_part D (end_to_end ps) offset left)) (D - length (placed_part D (end_to_end ps) offset left)) some,
      )

  octets_are : octets_marked marks ≡ drop (7 - left) short_idle ++ (drop offset (end_to_end ps) ++ end_to_end filler)
  unfolding marks
  octets_are =
      octets_append (inner (drop (7 - left) short_idle)) (drop offset (marks_of_all ps) ++ marks_of_all filler)
      ∙ ap₂ (λ (a b : List ℕ). a ++ b) (octets_inner (drop (7 - left) short_idle))
      (octets_append (drop offset (marks_of_all ps)) (marks_of_all filler)
      ∙ ap₂ (λ (a b : List ℕ). a ++ b) (octets_drop offset (marks_of_all ps) ∙ ap (drop offset) (octets_laid ps)) (octets_laid filler))

  marks_field : octets_marked (take D marks) ≡ field_of D (end_to_end ps) offset left
  unfolding field_of placed_part left_part run_part filler
  marks_field =
      let a = drop (7 - left) short_idle in
      let r = drop offset (end_to_end ps) in
      let z : D - length a ≡ D - length (left_part D left) =
      ap (λ (k : ℕ). D - k) (length_tail left few) ∙ over_plain D left (length (left_part D left)) (length_left D left few) in
      let y : D - length a - length r ≡ D - length (placed_part D (end_to_end ps) offset left) =
      ap₂ (λ (k m : ℕ). D - k - m) (length_tail left few) (length-drop offset (end_to_end ps)) ∙ room_is in
      octets_take D marks ∙ ap (take D) octets_are ∙ take_both D a (r ++ end_to_end filler)
      ∙ ap (λ (l : List ℕ). take D a ++ l)
      (take_both (D - length a) r (end_to_end filler)
      ∙ ap₂ (λ (k m : ℕ). take k r ++ take m (end_to_end filler)) z y
      ∙ ap (λ (l : List ℕ). take (D - length (left_part D left)) r ++ l) (filler_take _ _ some))
      ∙ sym (append_assoc (take D a) (take (D - length (left_part D left)) r) _)

  -- what the next place has left of these
  later : List Mark
  later = inner (drop (7 - left_over_after D (end_to_end ps) offset left) short_idle)
      ++ drop (offset + length (run_part D (end_to_end ps) offset left)) (marks_of_all ps)

  -- the parts of what is behind the field
  marks_parts : drop D marks ≡ inner (drop D (drop (7 - left) short_idle))
      ++ (drop (offset + (D - left)) (marks_of_all ps) ++ drop (D - length (placed_part D (end_to_end ps) offset left)) (marks_of_all filler))
  unfolding marks
  marks_parts =
      let a = inner (drop (7 - left) short_idle) in
      let b = drop offset (marks_of_all ps) in
      drop_both D a (b ++ marks_of_all filler)
      ∙ ap₂ (λ (x y : List Mark). x ++ y) (drop_inner D (drop (7 - left) short_idle))
      (ap (λ (k : ℕ). drop (D - k) (b ++ marks_of_all filler)) tail_long
      ∙ drop_both (D - left) b (marks_of_all filler)
      ∙ ap₂ (λ (x y : List Mark). x ++ y) (drop-drop (D - left) offset (marks_of_all ps))
      (ap (λ (k : ℕ). drop k (marks_of_all filler)) (ap (λ (k : ℕ). D - left - k) run_long ∙ room_is)))

  -- the left-over does not fit; the run does not; both do
  marks_later : drop D marks ≡ later
  unfolding later filler left_over_after
  marks_later =
      let n = length (placed_part D (end_to_end ps) offset left) in
      marks_parts
      ∙ later_plain (marks_of_all ps) offset left D (length (left_part D left)) (length (run_part D (end_to_end ps) offset left)) n
      (left_after n (D - n)) (drop (D - n) (marks_of_all filler)) few (omega (arith, length_laid ps)) (length_left D left few)
      (length_run D (end_to_end ps) offset left ∙ ap (λ (k : ℕ). min (k - offset) (D - length (left_part D left))) (sym (length_laid ps)))
      (length_placed D (end_to_end ps) offset left) (filler_drop n (D - n) some) (none_after n (D - n))

  module _ (fs : List (List ℕ)) where
    split : to_send ps offset left
        (filler_for (length (placed_part D (end_to_end ps) offset left)) (D - length (placed_part D (end_to_end ps) offset left)) ++ fs)
        ≡ marks ++ marks_of_all fs
    unfolding marks filler
    split =
        ap (λ (x : List Mark). inner (drop (7 - left) short_idle) ++ (drop offset (marks_of_all ps) ++ x)) (laid_append filler fs)
        ∙ ap (λ (x : List Mark). inner (drop (7 - left) short_idle) ++ x) (sym (append_assoc (drop offset (marks_of_all ps)) (marks_of_all filler) (marks_of_all fs)))
        ∙ sym (append_assoc (inner (drop (7 - left) short_idle)) (drop offset (marks_of_all ps) ++ marks_of_all filler) (marks_of_all fs))

    pub sends_long : D ≤ length (to_send ps offset left
        (filler_for (length (placed_part D (end_to_end ps) offset left)) (D - length (placed_part D (end_to_end ps) offset left)) ++ fs))
    sends_long = rw split (omega (arith, length-append marks (marks_of_all fs), marks_long))

    pub sends_field : field_of D (end_to_end ps) offset left
        ≡ octets_marked (take D (to_send ps offset left
        (filler_for (length (placed_part D (end_to_end ps) offset left)) (D - length (placed_part D (end_to_end ps) offset left)) ++ fs)))
    sends_field =
        sym (ap (λ (x : List Mark). octets_marked (take D x)) split ∙ ap octets_marked (take-append-le D marks (marks_of_all fs) marks_long) ∙ marks_field)

    pub sends_later : drop D (to_send ps offset left
        (filler_for (length (placed_part D (end_to_end ps) offset left)) (D - length (placed_part D (end_to_end ps) offset left)) ++ fs))
        ≡ to_send ps (offset + length (run_part D (end_to_end ps) offset left)) (left_over_after D (end_to_end ps) offset left) fs
    unfolding later
    sends_later =
        ap (drop D) split ∙ drop-append-le D marks (marks_of_all fs) marks_long ∙ ap (λ (x : List Mark). x ++ marks_of_all fs) marks_later
        ∙ append_assoc (inner (drop (7 - left_over_after D (end_to_end ps) offset left) short_idle))
        (drop (offset + length (run_part D (end_to_end ps) offset left)) (marks_of_all ps)) (marks_of_all fs)
