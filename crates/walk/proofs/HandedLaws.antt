-- What is counted and handed out of finished packets, in words.
-- Assumes nothing.
use mathlib.Core.Path.{◌≡◌, refl, ◌∙◌, sym, ap}
use mathlib.Core.Bool.{Bool, true, false}
use mathlib.Core.List.{List, [], ◌∷◌}
use Prim.Native.Nat.{ℕ, ◌+◌}
use native.Mathlib.Omega.{arith}
use Rattle.packet.specs.Family.{Family}
use Rattle.channel.specs.declared.state.State.TheVariants.{Hunting}
use Rattle.walk.specs.declared.walking.Tally.{Tally}
use Rattle.walk.specs.Steps.{course_of}
use Rattle.walk.specs.Theorems.{HandedInWordsLaw, HandedInWords}
use Rattle.walk.specs.Walk.{Done, handed, handed_all, no_tally, tallied, tallied_all}
use Rattle.walk.proofs.WalkLaws.{delivered_tally, idle_tally}

-- two counts together
abbrev plus : Tally → Tally → Tally
plus t u = record { delivered = t.delivered + u.delivered; idle = t.idle + u.idle; filled = t.filled + u.filled }

tally_same : {t u : Tally} → t.delivered ≡ u.delivered → t.idle ≡ u.idle → t.filled ≡ u.filled → t ≡ u
tally_same a b c = λ i. record { delivered = a i; idle = b i; filled = c i }

plus_again : (t u v : Tally) → plus (plus t u) v ≡ plus t (plus u v)
plus_again t u v = tally_same (omega arith) (omega arith) (omega arith)

tallied_from : (F : Family) (t : Tally) (p : List ℕ) → tallied F t p ≡ plus t (tallied F no_tally p)
tallied_from F t p = go (F.idle p) refl
  where
    go : (b : Bool) → F.idle p ≡ b → tallied F t p ≡ plus t (tallied F no_tally p)
    go true e = rw (← idle_tally F t p e, ← idle_tally F no_tally p e) (tally_same (omega arith) (omega arith) (omega arith))
    go false e = rw (← delivered_tally F t p e, ← delivered_tally F no_tally p e) (tally_same (omega arith) (omega arith) (omega arith))

-- the counts from t on are t and the counts from none on
tallied_all_lem : (F : Family) (t : Tally) (ps : List (List ℕ)) → tallied_all F t ps ≡ plus t (tallied_all F no_tally ps)
unfolding tallied_all
tallied_all_lem F t [] = tally_same (omega arith) (omega arith) (omega arith)
tallied_all_lem F t (p ∷ ps) =
    tallied_all_lem F (tallied F t p) ps
    ∙ ap (λ (u : Tally). plus u (tallied_all F no_tally ps)) (tallied_from F t p)
    ∙ plus_again t (tallied F no_tally p) (tallied_all F no_tally ps)
    ∙ ap (plus t) (sym (tallied_all_lem F (tallied F no_tally p) ps))

-- what the definitions count and hand out keeps the sentences
handed_words : (F : Family) → HandedInWords F (tallied_all F no_tally) (handed_all F)
unfolding tallied_all handed_all handed
handed_words F =
    record {
      none = (refl, refl);
      idle = λ p ps e. (
        tallied_all_lem F (tallied F no_tally p) ps
            ∙ ap (λ (u : Tally). plus u (tallied_all F no_tally ps)) (sym (idle_tally F no_tally p e))
            ∙ tally_same (omega arith) (omega arith) (omega arith),
        rw e,
      );
      delivered = λ p ps e. (
        tallied_all_lem F (tallied F no_tally p) ps
            ∙ ap (λ (u : Tally). plus u (tallied_all F no_tally ps)) (sym (delivered_tally F no_tally p e))
            ∙ tally_same (omega arith) (omega arith) (omega arith),
        rw e,
      );
    }

-- and they leave no choice
module _ (F : Family) {counts counts' : List (List ℕ) → Tally} {output output' : List (List ℕ) → List ℕ}
    (w : HandedInWords F counts output) (v : HandedInWords F counts' output') where
  one_more : (p : List ℕ) (ps : List (List ℕ)) → (counts ps ≡ counts' ps) × (output ps ≡ output' ps) → (b : Bool) → F.idle p ≡ b
      → (counts (p ∷ ps) ≡ counts' (p ∷ ps)) × (output (p ∷ ps) ≡ output' (p ∷ ps))
  one_more p ps h true e =
      let x = w.idle p ps e in
      let y = v.idle p ps e in
      (rw (x.0, y.0, h.0), rw (x.1, y.1, h.1))
  one_more p ps h false e =
      let x = w.delivered p ps e in
      let y = v.delivered p ps e in
      (rw (x.0, y.0, h.0), rw (x.1, y.1, h.1))

  handed_same : (ps : List (List ℕ)) → (counts ps ≡ counts' ps) × (output ps ≡ output' ps)
  handed_same [] = (w.none.0 ∙ sym v.none.0, w.none.1 ∙ sym v.none.1)
  handed_same (p ∷ ps) = one_more p ps (handed_same ps) (F.idle p) refl

-- a frame that finished these packets
finished : List (List ℕ) → Done
finished ps = record { state = Hunting; held = []; whole = ps; broken = 0; disagreement = 0; foreign = 0; oversize = 0 }

pub handed_in_words : HandedInWordsLaw
unfolding course_of finished
handed_in_words F counts output = (
  λ same.
      let h = handed_words F in
      let c : (ps : List (List ℕ)) → counts ps ≡ tallied_all F no_tally ps = λ ps. (same (finished ps)).0 in
      let o : (ps : List (List ℕ)) → output ps ≡ handed_all F ps = λ ps. (same (finished ps)).1 in
      record {
        none = (c [] ∙ h.none.0, o [] ∙ h.none.1);
        idle = λ p ps e. (rw (c (p ∷ ps), c ps) (h.idle p ps e).0, rw (o (p ∷ ps), o ps) (h.idle p ps e).1);
        delivered = λ p ps e. (rw (c (p ∷ ps), c ps) (h.delivered p ps e).0, rw (o (p ∷ ps), o ps) (h.delivered p ps e).1);
      },
  λ w d. handed_same F w (handed_words F) d.whole,
)
