-- Laying words down.
-- Assumes nothing.
use mathlib.Core.Path.{◌≡◌, refl, ◌∙◌, sym, ap}
use mathlib.Core.List.{List, [], ◌∷◌, ◌++◌}
use Prim.Native.Nat.{ℕ, zero, suc, min, ◌-◌}
use native.Mathlib.Omega.{arith}
use lib.ListN.{length, replicate, take, drop, drop_of_length-le, length-append, length-take, length-drop, get_or-append, get_or-eq_default}
use lib.Seq.{take_all, get_or-append_right, get_or-drop, get_or-take}
use Rattle.std.proofs.lemmas.List.{take-replicate}
use Rattle.host.specs.Answer.{laid_words}
use Rattle.host.specs.Theorems.{LaidEachLaw}

-- what fits is laid, and the rest kept
pub laid_by : (d s : List ℕ) (n : ℕ) → n ≡ min (length d) (length s) → take n s ++ drop n d ≡ laid_words d s
unfolding laid_words
laid_by d s n e = grind (arith, take_all (length s) s, take_all (length d) s, drop_of_length-le d {i = length d}, drop_of_length-le d {i = length s})

-- a number alone, laid on zeros
pub refused_words : (n number : ℕ) → laid_words (replicate n 0) (number ∷ []) ≡ take n (number ∷ replicate n 0)
unfolding laid_words
refused_words zero number = refl
refused_words (suc n) number =
    ap (λ (x : List ℕ). x ++ replicate n 0) (take_all (suc (length (replicate {A = ℕ} n 0))) (number ∷ []) (omega arith))
    ∙ sym (ap (λ (x : List ℕ). number ∷ x) (take-replicate {X = ℕ} n (suc n) 0 (omega arith)))

pub laid_each : LaidEachLaw
unfolding laid_words
laid_each old new = record {
  same_length = simp (length-append, length-take, length-drop) (omega arith);
  laid = λ i h k. get_or-append (take (length old) new) (drop (length new) old) 0 i (simp length-take (omega arith)) ∙ get_or-take (length old) new i 0 h;
  kept = λ i h. grind (arith, take_all (length old) new, get_or-append_right new (drop (length new) old) i 0 h, get_or-drop (length new) old (i - length new) 0, get_or-eq_default (laid_words old new) 0 {n = i}, get_or-eq_default old 0 {n = i}, length-append, length-take, length-drop);
}
