-- What the calls of a history hand out together is what is due in them, one after the other.
-- Assumes nothing.
use mathlib.Core.Path.{◌≡◌, refl, ◌∙◌, sym, ap, ap₂}
use mathlib.Core.Bool.{Bool, true, false, ◌&&◌}
use mathlib.Core.List.{List, [], ◌∷◌, ◌++◌, append_assoc}
use Prim.Native.Nat.{ℕ, ◌+◌}
use native.Mathlib.Omega.{arith}
use lib.Dec.{ltb, leb}
use lib.ListN.{length, take, drop, replicate, length-append}
use lib.Seq.{take-append_seam, drop-append_seam}
use borrow.Author.Tests.{le-leb}
use Rattle.std.specs.Prelude.{Result, Ok}
use Rattle.octets.specs.Laid.{laid}
use Rattle.octets.specs.Pick.{pick}
use Rattle.packet.specs.Chain.{whole_in}
use Rattle.packet.specs.Family.{Family, Lawful, Whole, AllWhole}
use Rattle.packet.specs.Theorems.{end_to_end}
use Rattle.frame.specs.declared.set_up.SetUp.{SetUp}
use Rattle.channel.specs.declared.state.Record.{Record}
use Rattle.reading.specs.Reading.{record_over, store_over}
use Rattle.reading.specs.declared.Refusal.{Refusal}
use Rattle.reading.specs.declared.Report.{Report}
use Rattle.demands.specs.History.{Event, Delivers, all_arrived, arrived_whole, brought, came_after, carried, delivered_of, handed_out}
use Rattle.demands.specs.History.{last_in, packets_in, wanted}
use Rattle.demands.specs.History.Event.{lost, arrives, other}
use Rattle.demands.specs.History.Lent.{both, with_store, with_record}
use Rattle.demands.proofs.AllOut.{arrived_whole_lem, due_behind, due_on, due_from, none_yet, wanted_append}

module _ (F : Family) (laws : Lawful F) where
  -- a whole packet stands at the front
  front_is : (p r : List ℕ) → Whole F p → whole_in (F.size (p ++ r)) (length (p ++ r)) ≡ length p
  unfolding whole_in
  front_is p r w =
      rw (laws.total_stays p r (length p) w, le-leb (length p) (length (p ++ r)) (simp length-append (omega arith)))

  -- whole packets are found again where they stand
  packets_in_lem : (ws : List (List ℕ)) (d : List ℕ) → AllWhole F ws → packets_in F (length ws) (end_to_end ws ++ d) ≡ ws
  unfolding packets_in
  packets_in_lem [] d w = refl
  packets_in_lem (p ∷ ws) d w =
      let r : List ℕ = end_to_end ws ++ d in
      let front : List ℕ → ℕ = λ x. whole_in (F.size x) (length x) in
      ap (λ (x : List ℕ). take (front x) x ∷ packets_in F (length ws) (drop (front x) x)) (append_assoc p (end_to_end ws) d)
      ∙ ap (λ (k : ℕ). take k (p ++ r) ∷ packets_in F (length ws) (drop k (p ++ r))) (front_is p r w.0)
      ∙ ap₂ (λ (x y : List ℕ). x ∷ packets_in F (length ws) y) (take-append_seam p r) (drop-append_seam p r)
      ∙ ap (λ (l : List (List ℕ)). p ∷ l) (packets_in_lem ws d w.1)

  -- and so are those that an output begins with
  packets_out : (ws : List (List ℕ)) (out : List ℕ) → AllWhole F ws → packets_in F (length ws) (laid out 0 (end_to_end ws)) ≡ ws
  unfolding laid
  packets_out ws out w = packets_in_lem ws (drop (0 + length (end_to_end ws)) out) w

-- what is due is whole
whole_pick : (F : Family) (b : Bool) (p : List ℕ) (ps : List (List ℕ)) → AllWhole F (p ∷ ps) → AllWhole F (pick b (p ∷ ps) ps)
whole_pick F true p ps w = w
whole_pick F false p ps w = w.1

whole_last : (F : Family) (limit a b : ℕ) (came : List Bool) (s : ℕ) (ps : List (List ℕ)) → AllWhole F ps → AllWhole F (last_in limit a b came s ps)
unfolding last_in
whole_last F limit a b came s [] w = tt
whole_last F limit a b came s (p ∷ ps) w =
    whole_pick F ((ltb a (s + length p) && leb (s + length p) b) && (leb (length p) limit && all_arrived (take (length p) (drop s came)))) p _
    (w.0, whole_last F limit a b came (s + length p) ps w.1)

whole_wanted : (F : Family) (ps : List (List ℕ)) → AllWhole F ps → AllWhole F (wanted F ps)
unfolding wanted
whole_wanted F [] w = tt
whole_wanted F (p ∷ ps) w = go (F.idle p) (whole_wanted F ps w.1)
  where
    go : (b : Bool) → AllWhole F (wanted F ps) → AllWhole F (pick b (wanted F ps) (p ∷ wanted F ps))
    go true v = v
    go false v = (w.0, v)

module _ (F : Family) (laws : Lawful F) (limit : ℕ) (u : SetUp) where
  -- one call, by what it answers and leaves
  hands_due : (a : Result Report Refusal) (r : Report) (out left : List ℕ) (due : List (List ℕ)) → AllWhole F due
      → a ≡ Ok r → left ≡ laid out 0 (end_to_end due) → r.delivered ≡ length due → packets_in F (delivered_of a) left ≡ due
  unfolding delivered_of
  hands_due a r out left due w e h d = rw (e, h, d) (packets_out F laws due out w)

  module _ (tail : List ℕ) (ps : List (List ℕ)) (w : AllWhole F ps) where
    -- all of them, from the octets sent so far on
    handed_from : (es : List Event) (fs : List (List ℕ)) (rec : Record) (store : List ℕ) (came : List Bool)
        → Delivers F limit u tail ps rec store came fs es → handed_out F limit u rec store fs es ≡ wanted F (due_from limit u (length tail) ps came fs es)
    unfolding handed_out came_after wanted
    handed_from [] fs rec store came d = sym (ap (wanted F) (none_yet limit (length came) came (length tail) ps))
    handed_from (lost ∷ es) [] rec store came d = sym (ap (wanted F) (none_yet limit (length came) came (length tail) ps))
    handed_from (lost ∷ es) (f ∷ fs) rec store came d =
        handed_from es fs rec store (came ++ replicate (carried u f) false) d
        ∙ ap (wanted F) (due_behind F laws limit u (length tail) ps w came (carried u f) fs es)
    handed_from (arrives out ∷ es) [] rec store came d = sym (ap (wanted F) (none_yet limit (length came) came (length tail) ps))
    handed_from (arrives out ∷ es) (f ∷ fs) rec store came d =
        let due = brought limit u tail ps came f in
        let now = came ++ replicate (carried u f) true in
        ap₂ (λ (x y : List (List ℕ)). x ++ y)
        (hands_due _ d.0.report out _ (wanted F due) (whole_wanted F due (whole_last F limit (length came) _ _ (length tail) ps w))
        d.0.accepted d.0.hands d.0.delivered)
        (handed_from es fs (record_over F limit u rec store out f) (store_over F limit u rec store out f) now d.1)
        ∙ sym (wanted_append F due (due_from limit u (length tail) ps now fs es))
        ∙ ap (wanted F) (due_on F laws limit u (length tail) ps w came (carried u f) fs es true)
    handed_from (other u' both out f ∷ es) fs rec store came d =
        handed_from es fs (record_over F limit u' rec store out f) (store_over F limit u' rec store out f) came d
    handed_from (other u' (with_store s) out f ∷ es) fs rec store came d = handed_from es fs (record_over F limit u' rec s out f) store came d
    handed_from (other u' (with_record r) out f ∷ es) fs rec store came d = handed_from es fs rec (store_over F limit u' r store out f) came d

    -- over the whole history
    pub handed_together : (fs : List (List ℕ)) (rec : Record) (store : List ℕ) (es : List Event) → Delivers F limit u tail ps rec store [] fs es
        → handed_out F limit u rec store fs es ≡ wanted F (arrived_whole limit (came_after u [] fs es) (length tail) ps)
    handed_together fs rec store es d =
        handed_from es fs rec store [] d ∙ ap (wanted F) (arrived_whole_lem F laws limit (came_after u [] fs es) (length tail) ps w)
