-- The octets that are saved are the delivered packets, end to end (specs/Theorems).
-- Assumes nothing.
use mathlib.Core.Path.{◌≡◌, refl, ◌∙◌, sym, ap}
use mathlib.Core.Bool.{Bool, true, false}
use mathlib.Core.List.{List, [], ◌∷◌, ◌++◌, append_assoc}
use Prim.Native.Nat.{ℕ, suc, ◌+◌}
use native.Mathlib.Omega.{arith}
use lib.ListN.{length, take, drop, length-append}
use lib.Seq.{take_at, drop_at}
use Rattle.std.specs.Prelude.{Ok}
use Rattle.octets.specs.Laid.{laid}
use Rattle.octets.specs.Pick.{pick}
use Rattle.packet.specs.Chain.{front_of}
use Rattle.packet.specs.Family.{Whole, AllWhole}
use Rattle.packet.specs.Size.{idle_of, most, source}
use Rattle.packet.proofs.Laws.{source_lawful}
use Rattle.packet.proofs.ChainTurns.{front_whole}
use Rattle.frame.specs.Opening.{frame_of}
use Rattle.walk.specs.Steps.{course_of}
use Rattle.walk.specs.Walk.{handed, handed_all, no_tally, one_idle, one_delivered, tallied, tallied_all, Done}
use Rattle.walk.specs.declared.walking.Tally.{Tally}
use Rattle.reading.specs.Reading.{channel_of, done_by, report_of, output_after}
use Rattle.walk.proofs.WholeLaws.{steps_all}
use Rattle.reading.proofs.ReadLaws.{found_none, leaves}
use Rattle.desk.specs.Saving.{span_of, octets_of}
use Rattle.desk.specs.Theorems.{SavedExactly}

-- how many of the packets are delivered
delivered_in : List (List ℕ) → ℕ
delivered_in [] = 0
delivered_in (p ∷ ps) = pick (idle_of p) (delivered_in ps) (suc (delivered_in ps))

tallied_delivered : (t : Tally) (ps : List (List ℕ)) → (tallied_all source t ps).delivered ≡ t.delivered + delivered_in ps
unfolding tallied_all tallied delivered_in
tallied_delivered t [] = omega arith
tallied_delivered t (p ∷ ps) = tallied_delivered (tallied source t p) ps ∙ go (idle_of p)
  where
    go : (b : Bool) → (pick b (one_idle t) (one_delivered t (length p))).delivered + delivered_in ps ≡ t.delivered + pick b (delivered_in ps) (suc (delivered_in ps))
    go true = refl
    go false = omega arith

-- the delivered packets stand at the front of the output, and the span over them is their octets
span_first : (k : ℕ) (p x : List ℕ) → Whole source p → span_of (suc k) (p ++ x) ≡ length p + span_of k x
unfolding span_of
span_first k p x w =
    let f : front_of (p ++ x) ≡ length p =
    sym (front_whole (p ++ x) (length p) (source_lawful.total_stays p x (length p) w) (simp length-append (omega arith))) in
    rw (f, drop_at p x (length p) refl)

span_handed : (ps : List (List ℕ)) (x : List ℕ) → AllWhole source ps → span_of (delivered_in ps) (handed_all source ps ++ x) ≡ length (handed_all source ps)
unfolding delivered_in handed_all handed span_of
span_handed [] x w = refl
span_handed (p ∷ ps) x w = go (idle_of p) (span_handed ps x w.1)
  where
    go : (b : Bool) → span_of (delivered_in ps) (handed_all source ps ++ x) ≡ length (handed_all source ps) → span_of (pick b (delivered_in ps) (suc (delivered_in ps))) ((pick b [] p ++ handed_all source ps) ++ x) ≡ length (pick b [] p ++ handed_all source ps)
    go true h = h
    go false h =
        ap (span_of (suc (delivered_in ps))) (append_assoc p (handed_all source ps) x)
        ∙ span_first (delivered_in ps) p (handed_all source ps ++ x) w.0
        ∙ omega (arith, h, length-append p (handed_all source ps))

-- of an output that begins with them
saved_front : (ps : List (List ℕ)) (x : List ℕ) (n : ℕ) → AllWhole source ps → n ≡ delivered_in ps
    → take (span_of n (handed_all source ps ++ x)) (handed_all source ps ++ x) ≡ handed_all source ps
saved_front ps x n w e = take_at (handed_all source ps) x _ (sym (ap (λ (k : ℕ). span_of k (handed_all source ps ++ x)) e ∙ span_handed ps x w))

saved_of : (d : Done) (out : List ℕ) (n : ℕ) → AllWhole source d.whole → n ≡ (course_of source d).tally.delivered
    → take (span_of n (output_after source out d)) (output_after source out d) ≡ handed_all source d.whole
unfolding course_of output_after laid
saved_of d out n w e =
    saved_front d.whole (drop (0 + length (handed_all source d.whole)) out) n w
    (e ∙ tallied_delivered no_tally d.whole ∙ omega arith)

pub saved_exactly : SavedExactly
unfolding octets_of report_of
saved_exactly u rec store out f answer rec' store' out' a r e =
    let n = found_none source most u rec store out f a (sym r.answers ∙ e) in
    let l = leaves source most u rec store out f n in
    let x = frame_of u f in
    let d = done_by source most x rec store f in
    let q : answer ≡ Ok (report_of source x (channel_of x rec) d) = r.answers ∙ sym l.answers in
    let o : out' ≡ output_after source out d = r.output_left ∙ sym l.output_left in
    rw (q, o) (saved_of d out _ (steps_all source source_lawful _ _ _ _ _).all_whole refl)
