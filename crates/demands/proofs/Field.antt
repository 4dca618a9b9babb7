-- The data field of a sender's frame: it stays within what is to come of the packet under way, or brings its end, whole packets behind it
-- and perhaps the beginning of another one.
-- Assumes nothing.
use mathlib.Core.Path.{◌≡◌, ◌∙◌, sym, ap, ap₂}
use mathlib.Core.List.{List, ◌∷◌, ◌++◌, append_assoc}
use Prim.Native.Nat.{ℕ, ◌+◌, ◌-◌, ◌≤◌, ◌<◌}
use native.Mathlib.Decide.{dec_lt}
use native.Mathlib.Omega.{arith}
use lib.ListN.{length, take, drop, length-append, length-take, length-drop, take-append-drop}
use lib.Seq.{take-append-le, take-append-add, drop-append-add, take-append_seam, drop_at}
use Rattle.packet.specs.Theorems.{end_to_end}
use Rattle.demands.specs.Sender.{Mark, inner, marks_of, marks_of_all, octets_marked}
use Rattle.demands.proofs.Stream.{inner_append, length_inner, octets_append, octets_inner, octets_laid, octets_take, length_laid, length_marks, end_append, laid_append, marks_split, Cut, cut_of}
use Rattle.demands.proofs.Stream.Cut.{exact, midst}

pub data Next (q : List ℕ) (behind : List (List ℕ)) (field : List ℕ) (rest : List Mark) : Type 0 where
  still : (a b : List ℕ) → q ≡ a ++ b → 1 ≤ length b → field ≡ a → rest ≡ inner b ++ marks_of_all behind → Next q behind field rest
  ends : (ws behind' : List (List ℕ)) → behind ≡ ws ++ behind' → field ≡ q ++ end_to_end ws → rest ≡ marks_of_all behind' → Next q behind field rest
  opens : (ws : List (List ℕ)) (begun left : List ℕ) (behind' : List (List ℕ)) → behind ≡ ws ++ (begun ++ left) ∷ behind'
      → 1 ≤ length begun → 1 ≤ length left → field ≡ q ++ (end_to_end ws ++ begun) → rest ≡ inner left ++ marks_of_all behind'
      → Next q behind field rest

-- the first octets, and what is left behind them
octets_are : (q : List ℕ) (ps : List (List ℕ)) (D : ℕ) → octets_marked (take D (inner q ++ marks_of_all ps)) ≡ take D (q ++ end_to_end ps)
octets_are q ps D =
    octets_take D (inner q ++ marks_of_all ps)
    ∙ ap (take D) (octets_append (inner q) (marks_of_all ps) ∙ ap₂ (λ (a b : List ℕ). a ++ b) (octets_inner q) (octets_laid ps))

drop_inner : (q : List ℕ) (ms : List Mark) (D : ℕ) → D ≤ length q → drop D (inner q ++ ms) ≡ inner (drop D q) ++ ms
drop_inner q ms D h =
    let a : List ℕ = take D q in
    let b : List ℕ = drop D q in
    let l : length (inner a) ≡ D = length_inner a ∙ length-take D q ∙ omega arith in
    ap (λ (x : List ℕ). drop D (inner x ++ ms)) (sym (take-append-drop D q))
    ∙ ap (λ (x : List Mark). drop D (x ++ ms)) (inner_append a b)
    ∙ ap (drop D) (append_assoc (inner a) (inner b) ms)
    ∙ drop_at (inner a) (inner b ++ ms) D l

module _ (ws behind : List (List ℕ)) where
  take_exact : take (length (end_to_end ws)) (end_to_end (ws ++ behind)) ≡ end_to_end ws
  take_exact = ap (take (length (end_to_end ws))) (end_append ws behind) ∙ take-append_seam (end_to_end ws) (end_to_end behind)

  pub drop_exact : drop (length (end_to_end ws)) (marks_of_all (ws ++ behind)) ≡ marks_of_all behind
  drop_exact = ap (drop (length (end_to_end ws))) (laid_append ws behind) ∙ drop_at (marks_of_all ws) (marks_of_all behind) (length (end_to_end ws)) (length_laid ws)

  module _ (begun left : List ℕ) where
    take_midst : take (length (end_to_end ws) + length begun) (end_to_end (ws ++ (begun ++ left) ∷ behind)) ≡ end_to_end ws ++ begun
    take_midst =
        ap (take (length (end_to_end ws) + length begun)) (end_append ws ((begun ++ left) ∷ behind))
        ∙ take-append-add (end_to_end ws) (begun ++ left ++ end_to_end behind) (length begun)
        ∙ ap (λ (l : List ℕ). end_to_end ws ++ take (length begun) l) (append_assoc begun left (end_to_end behind))
        ∙ ap (λ (l : List ℕ). end_to_end ws ++ l) (take-append_seam begun (left ++ end_to_end behind))

    pub drop_midst : 1 ≤ length begun
        → drop (length (end_to_end ws) + length begun) (marks_of_all (ws ++ (begun ++ left) ∷ behind)) ≡ inner left ++ marks_of_all behind
    unfolding marks_of_all
    drop_midst h =
        ap₂ (λ (n : ℕ) (m : List Mark). drop (n + length begun) m) (sym (length_laid ws)) (laid_append ws ((begun ++ left) ∷ behind))
        ∙ drop-append-add (marks_of_all ws) (marks_of (begun ++ left) ++ marks_of_all behind) (length begun)
        ∙ ap (λ (m : List Mark). drop (length begun) (m ++ marks_of_all behind)) (marks_split begun left h)
        ∙ ap (drop (length begun)) (append_assoc (marks_of begun) (inner left) (marks_of_all behind))
        ∙ drop_at (marks_of begun) (inner left ++ marks_of_all behind) (length begun) (length_marks begun)

pub next_of : (q : List ℕ) (ps : List (List ℕ)) (D : ℕ) → D ≤ length (inner q ++ marks_of_all ps)
    → Next q ps (octets_marked (take D (inner q ++ marks_of_all ps))) (drop D (inner q ++ marks_of_all ps))
next_of q ps D h = go (dec_lt D (length q))
  where
    l : length (inner q ++ marks_of_all ps) ≡ length q + length (end_to_end ps)
    l = length-append (inner q) (marks_of_all ps) ∙ ap₂ (λ (a b : ℕ). a + b) (length_inner q) (length_laid ps)

    field : (n : ℕ) → length q + n ≡ D → octets_marked (take D (inner q ++ marks_of_all ps)) ≡ q ++ take n (end_to_end ps)
    field n e =
        octets_are q ps D ∙ ap (λ (m : ℕ). take m (q ++ end_to_end ps)) (sym e) ∙ take-append-add q (end_to_end ps) n

    rest : (n : ℕ) → length q + n ≡ D → drop D (inner q ++ marks_of_all ps) ≡ drop n (marks_of_all ps)
    rest n e =
        ap (λ (m : ℕ). drop m (inner q ++ marks_of_all ps)) (sym e ∙ ap (λ (m : ℕ). m + n) (sym (length_inner q)))
        ∙ drop-append-add (inner q) (marks_of_all ps) n

    by : (n : ℕ) → length q + n ≡ D → Cut n ps → Next q ps (octets_marked (take D (inner q ++ marks_of_all ps))) (drop D (inner q ++ marks_of_all ps))
    by n e (exact ws behind p k) =
        ends ws behind p
        (field n e ∙ ap (λ (x : List ℕ). q ++ x) (ap₂ (λ (m : ℕ) (x : List (List ℕ)). take m (end_to_end x)) k p ∙ take_exact ws behind))
        (rest n e ∙ ap₂ (λ (m : ℕ) (x : List (List ℕ)). drop m (marks_of_all x)) k p ∙ drop_exact ws behind)
    by n e (midst ws begun left behind p k a b) =
        opens ws begun left behind p a b
        (field n e ∙ ap (λ (x : List ℕ). q ++ x) (ap₂ (λ (m : ℕ) (x : List (List ℕ)). take m (end_to_end x)) k p ∙ take_midst ws behind begun left))
        (rest n e ∙ ap₂ (λ (m : ℕ) (x : List (List ℕ)). drop m (marks_of_all x)) k p ∙ drop_midst ws behind begun left a)

    go : Dec (D < length q) → Next q ps (octets_marked (take D (inner q ++ marks_of_all ps))) (drop D (inner q ++ marks_of_all ps))
    go (yes i) =
        still (take D q) (drop D q) (sym (take-append-drop D q)) (simp length-drop (omega arith))
        (octets_are q ps D ∙ take-append-le D q (end_to_end ps) (omega arith))
        (drop_inner q (marks_of_all ps) D (omega arith))
    go (no i) = by (D - length q) (omega arith) (cut_of ps (D - length q) (omega (arith, l)))
