-- The sender's stream: what the marks of a tail and of packets laid end to end hold, where the first packet starts, and where a field ends.
-- Assumes nothing.
use mathlib.Core.Path.{◌≡◌, refl, ◌∙◌, sym, ap, ap₂}
use mathlib.Core.Bool.{true, false}
use mathlib.Core.List.{List, [], ◌∷◌, ◌++◌, append_assoc}
use Prim.Native.Nat.{ℕ, zero, suc, ◌+◌, ◌-◌, ◌≤◌, ◌<◌}
use native.Mathlib.Decide.{dec_lt}
use native.Mathlib.Nat.{add-zero, zero-add}
use native.Mathlib.Omega.{arith}
use lib.ListN.{length, take, drop, length-append, length-take, length-drop, take-append-drop}
use lib.Dec.{ltb}
use borrow.Author.Tests.{lt-ltb, le-ltb}
use Rattle.octets.specs.Pick.{pick}
use Rattle.packet.specs.Family.{Family, Lawful, Whole, AllWhole}
use Rattle.packet.specs.Theorems.{end_to_end}
use Rattle.frame.specs.Opening.{none_starts}
use Rattle.walk.specs.Steps.{called_at}
use Rattle.demands.specs.Sender.{Mark, inner, marks_of, marks_of_all, octets_marked, first_start}

-- marks and octets
pub inner_append : (a b : List ℕ) → inner (a ++ b) ≡ inner a ++ inner b
unfolding inner
inner_append [] b = refl
inner_append (o ∷ a) b = ap (λ (m : List Mark). record { octet = o; starts = false } ∷ m) (inner_append a b)

pub length_inner : (q : List ℕ) → length (inner q) ≡ length q
unfolding inner
length_inner [] = refl
length_inner (o ∷ q) = ap suc (length_inner q)

pub octets_append : (a b : List Mark) → octets_marked (a ++ b) ≡ octets_marked a ++ octets_marked b
unfolding octets_marked
octets_append [] b = refl
octets_append (m ∷ a) b = ap (λ (l : List ℕ). m.octet ∷ l) (octets_append a b)

pub octets_inner : (q : List ℕ) → octets_marked (inner q) ≡ q
unfolding inner octets_marked
octets_inner [] = refl
octets_inner (o ∷ q) = ap (λ (l : List ℕ). o ∷ l) (octets_inner q)

octets_marks : (p : List ℕ) → octets_marked (marks_of p) ≡ p
unfolding marks_of octets_marked
octets_marks [] = refl
octets_marks (o ∷ p) = ap (λ (l : List ℕ). o ∷ l) (octets_inner p)

pub octets_laid : (ps : List (List ℕ)) → octets_marked (marks_of_all ps) ≡ end_to_end ps
unfolding marks_of_all octets_marked
octets_laid [] = refl
octets_laid (p ∷ ps) = octets_append (marks_of p) (marks_of_all ps) ∙ ap₂ (λ (a b : List ℕ). a ++ b) (octets_marks p) (octets_laid ps)

octets_length : (ms : List Mark) → length (octets_marked ms) ≡ length ms
unfolding octets_marked
octets_length [] = refl
octets_length (m ∷ ms) = ap suc (octets_length ms)

pub octets_take : (n : ℕ) (ms : List Mark) → octets_marked (take n ms) ≡ take n (octets_marked ms)
unfolding octets_marked
octets_take zero ms = refl
octets_take (suc n) [] = refl
octets_take (suc n) (m ∷ ms) = ap (λ (l : List ℕ). m.octet ∷ l) (octets_take n ms)

pub length_laid : (ps : List (List ℕ)) → length (marks_of_all ps) ≡ length (end_to_end ps)
length_laid ps = sym (octets_length (marks_of_all ps)) ∙ ap length (octets_laid ps)

pub length_marks : (p : List ℕ) → length (marks_of p) ≡ length p
length_marks p = sym (octets_length (marks_of p)) ∙ ap length (octets_marks p)

-- packets laid end to end
pub end_append : (a b : List (List ℕ)) → end_to_end (a ++ b) ≡ end_to_end a ++ end_to_end b
end_append [] b = refl
end_append (p ∷ a) b = ap (λ (l : List ℕ). p ++ l) (end_append a b) ∙ sym (append_assoc p (end_to_end a) (end_to_end b))

pub length_end : (a b : List (List ℕ)) → length (end_to_end (a ++ b)) ≡ length (end_to_end a) + length (end_to_end b)
length_end a b = ap length (end_append a b) ∙ length-append (end_to_end a) (end_to_end b)

pub laid_append : (a b : List (List ℕ)) → marks_of_all (a ++ b) ≡ marks_of_all a ++ marks_of_all b
unfolding marks_of_all
laid_append [] b = refl
laid_append (p ∷ a) b = ap (λ (l : List Mark). marks_of p ++ l) (laid_append a b) ∙ sym (append_assoc (marks_of p) (marks_of_all a) (marks_of_all b))

pub whole_left : (F : Family) (a b : List (List ℕ)) → AllWhole F (a ++ b) → AllWhole F a
whole_left F [] b w = tt
whole_left F (p ∷ a) b w = (w.0, whole_left F a b w.1)

pub whole_right : (F : Family) (a b : List (List ℕ)) → AllWhole F (a ++ b) → AllWhole F b
whole_right F [] b w = w
whole_right F (p ∷ a) b w = whole_right F a b w.1

pub whole_some : (F : Family) (laws : Lawful F) (p : List ℕ) → Whole F p → 1 ≤ length p
whole_some F laws p w = omega (arith, laws.total_least p (length p) w, laws.least_some)

-- a begun packet: its first octets carry the start
pub marks_split : (b l : List ℕ) → 1 ≤ length b → marks_of (b ++ l) ≡ marks_of b ++ inner l
unfolding marks_of
marks_split [] l h = absurd (omega arith)
marks_split (o ∷ b) l h = ap (λ (m : List Mark). record { octet = o; starts = true } ∷ m) (inner_append b l)

-- the pointer that a packet under way, of which q is to come, calls for
first_none : (q : List ℕ) (ms : List Mark) (D i : ℕ) → D ≤ length q → first_start i (take D (inner q ++ ms)) ≡ none_starts
unfolding first_start inner
first_none q ms zero i h = refl
first_none [] ms (suc D) i h = absurd (omega arith)
first_none (o ∷ q) ms (suc D) i h = first_none q ms D (suc i) (omega arith)

first_at : (q p : List ℕ) (ps : List (List ℕ)) (D i : ℕ) → 1 ≤ length p → length q < D
    → first_start i (take D (inner q ++ marks_of_all (p ∷ ps))) ≡ i + length q
unfolding first_start inner marks_of_all marks_of
first_at q p ps zero i h l = absurd (omega arith)
first_at [] [] ps (suc D) i h l = absurd (omega arith)
first_at [] (o ∷ p) ps (suc D) i h l = sym (add-zero i)
first_at (o ∷ q) p ps (suc D) i h l = first_at q p ps D (suc i) h (omega arith) ∙ omega arith

pub pointer_is : (F : Family) (laws : Lawful F) (q : List ℕ) (ps : List (List ℕ)) (D : ℕ) → AllWhole F ps → D ≤ length (inner q ++ marks_of_all ps)
    → first_start 0 (take D (inner q ++ marks_of_all ps)) ≡ called_at D (length q)
unfolding called_at marks_of_all
pointer_is F laws q ps D w h = go (dec_lt (length q) D) ps w h
  where
    go : Dec (length q < D) → (ps : List (List ℕ)) → AllWhole F ps → D ≤ length (inner q ++ marks_of_all ps)
        → first_start 0 (take D (inner q ++ marks_of_all ps)) ≡ pick (ltb (length q) D) (length q) none_starts
    go (yes l) [] w h = absurd (omega (arith, length-append (inner q) [], length_inner q))
    go (yes l) (p ∷ ps) w h =
        rw (lt-ltb (length q) D l)
        (first_at q p ps D 0 (omega (arith, whole_some F laws p w.0)) l ∙ zero-add (length q))
    go (no n) ps w h = rw (le-ltb (length q) D (omega arith)) (first_none q (marks_of_all ps) D 0 (omega arith))

-- how n octets of packets laid end to end end: exactly at a packet's end, or in the midst of one
pub data Cut (n : ℕ) (ps : List (List ℕ)) : Type 0 where
  exact : (ws behind : List (List ℕ)) → ps ≡ ws ++ behind → n ≡ length (end_to_end ws) → Cut n ps
  midst : (ws : List (List ℕ)) (begun left : List ℕ) (behind : List (List ℕ)) → ps ≡ ws ++ (begun ++ left) ∷ behind
      → n ≡ length (end_to_end ws) + length begun → 1 ≤ length begun → 1 ≤ length left → Cut n ps

cut_more : (n : ℕ) (p : List ℕ) (ps : List (List ℕ)) → length p ≤ n → Cut (n - length p) ps → Cut n (p ∷ ps)
cut_more n p ps h (exact ws behind e l) =
    exact (p ∷ ws) behind (ap (λ (x : List (List ℕ)). p ∷ x) e) (omega (arith, length-append p (end_to_end ws)))
cut_more n p ps h (midst ws begun left behind e l a b) =
    midst (p ∷ ws) begun left behind (ap (λ (x : List (List ℕ)). p ∷ x) e) (omega (arith, length-append p (end_to_end ws))) a b

pub cut_of : (ps : List (List ℕ)) (n : ℕ) → n ≤ length (end_to_end ps) → Cut n ps
cut_of [] n h = exact [] [] refl (omega arith)
cut_of (p ∷ ps) zero h = exact [] (p ∷ ps) refl refl
cut_of (p ∷ ps) (suc n) h =
    go (dec_lt (suc n) (length p)) (λ g. cut_of ps (suc n - length p) (omega (arith, length-append p (end_to_end ps))))
  where
    go : Dec (suc n < length p) → (length p ≤ suc n → Cut (suc n - length p) ps) → Cut (suc n) (p ∷ ps)
    go (yes l) f =
        midst [] (take (suc n) p) (drop (suc n) p) ps (ap (λ (x : List ℕ). x ∷ ps) (sym (take-append-drop (suc n) p)))
        (simp (length-take, zero-add) (omega arith)) (simp length-take (omega arith)) (simp length-drop (omega arith))
    go (no m) f = cut_more (suc n) p ps (omega arith) (f (omega arith))
