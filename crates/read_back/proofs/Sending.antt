-- The frames that the writer gives, call after call, are the sender's: the left-over as tail, the packets of the run, the fillers, and then
-- what is sent behind the run.
-- Assumes nothing.
use Rattle.std.specs.Prelude.{Option}
use mathlib.Core.Path.{◌≡◌, refl, ◌∙◌, sym, ap, ap₂, subst}
use mathlib.Core.Bool.{Bool, true, false, false≢true}
use mathlib.Core.List.{List, [], ◌∷◌, ◌++◌, append_assoc, append-nil}
use Prim.Native.Nat.{ℕ, ◌+◌, ◌-◌, ◌≤◌, ◌<◌, ◌^◌}
use native.Mathlib.Omega.{arith}
use lib.Dec.{eqb}
use lib.ListN.{length, take, drop, length-append, drop_of_length-le}
use borrow.Author.Tests.{eqb-true, eq-eqb}
use Rattle.packet.specs.Chain.{distance_of}
use Rattle.octets.specs.Octets.{Octets}
use Rattle.packet.specs.Family.{AllWhole}
use Rattle.packet.specs.Size.{source}
use Rattle.packet.specs.Theorems.{end_to_end}
use Rattle.packet.proofs.Laws.{source_lawful}
use Rattle.packet.proofs.ChainLaws.{distance_exactly, distance_at_end}
use Rattle.frame.specs.Closing.{close_size}
use Rattle.frame.specs.Counts.{after}
use Rattle.frame.specs.Opening.{idle_data}
use Rattle.frame.specs.SetUp.{fits_of}
use Rattle.frame.specs.Theorems.{word_number}
use Rattle.frame.specs.declared.closing.ControlWord.{ControlWord}
use Rattle.frame.specs.declared.set_up.SetUp.{SetUp}
use Rattle.frame.proofs.ClosingLaws.{sizes}
use Rattle.channel.proofs.RuleLaws.{both}
use Rattle.walk.specs.Steps.{called_at}
use Rattle.writing.specs.Laying.{short_idle, run_part, placed_part, left_after, left_over_after, nothing_of, pointer_of}
use Rattle.writing.specs.Writing.{next_of, next_place, output_of, frame_written}
use Rattle.writing.specs.declared.Place.{Place}
use Rattle.writing.proofs.Laws.{laid_well}
use Rattle.writing.proofs.LayingLaws.{length_placed}
use Rattle.read_back.specs.Demand2.{Writing, Fair, frames, fillers, filler_for, place_after}
use Rattle.demands.specs.Sender.{Mark, Sends, inner, marks_of, marks_of_all, first_start, between}
use Rattle.demands.specs.Sender.Sends.{packets, idle}
use Rattle.demands.proofs.Field.{drop_exact, drop_midst}
use Rattle.read_back.proofs.Fillers.{AllIdle, idle_append, whole_append, filler_whole, filler_idle}
use Rattle.read_back.proofs.Lays.{to_send, length_tail, filler_idle_frame, sends_long, sends_field, sends_later}
use Rattle.read_back.proofs.Places.{Writes, few, answers, next_is, output_is, next_writes}
use Rattle.demands.proofs.Stream.{inner_append, laid_append, length_laid, whole_left, whole_right, whole_some, pointer_is, Cut, cut_of}
use Rattle.demands.proofs.Stream.Cut.{exact, midst}
use Rattle.read_back.proofs.Written.{opened_to, sent, field_laid}

-- the run from an offset on: the rest of a packet, whose length the distance is, and whole packets
record Ahead (ps : List (List ℕ)) (offset : ℕ) : Type 0 where
  rest : List ℕ
  behind : List (List ℕ)
  marks_are : drop offset (marks_of_all ps) ≡ inner rest ++ marks_of_all behind
  whole : AllWhole source behind
  distance : distance_of (end_to_end ps) offset ≡ length rest

ahead_of : (ps : List (List ℕ)) (offset : ℕ) → AllWhole source ps → Cut offset ps → Ahead ps offset
unfolding inner
ahead_of ps offset w (exact ws [] e k) =
    let v : AllWhole source (ws ++ []) = rw e at w in
    record {
      rest = [];
      behind = [];
      marks_are = ap₂ (λ (x : List (List ℕ)) (n : ℕ). drop n (marks_of_all x)) e k ∙ drop_exact ws [];
      whole = tt;
      distance = ap₂ (λ (x : List (List ℕ)) (n : ℕ). distance_of (end_to_end x) n) (e ∙ append-nil ws) k ∙ distance_at_end ws (whole_left source ws [] v);
    }
ahead_of ps offset w (exact ws (p ∷ behind) e k) =
    let v : AllWhole source (ws ++ p ∷ behind) = rw e at w in
    let r = whole_right source ws (p ∷ behind) v in
    record {
      rest = [];
      behind = p ∷ behind;
      marks_are = ap₂ (λ (x : List (List ℕ)) (n : ℕ). drop n (marks_of_all x)) e k ∙ drop_exact ws (p ∷ behind);
      whole = r;
      distance = ap₂ (λ (x : List (List ℕ)) (n : ℕ). distance_of (end_to_end x) n) e k
          ∙ (distance_exactly ws p behind (whole_left source ws (p ∷ behind) v) r.0 r.1).0;
    }
ahead_of ps offset w (midst ws begun left behind e k a b) =
    let v : AllWhole source (ws ++ (begun ++ left) ∷ behind) = rw e at w in
    let r = whole_right source ws ((begun ++ left) ∷ behind) v in
    let l : length (begun ++ left) - length begun ≡ length left = omega (arith, length-append begun left) in
    record {
      rest = left;
      behind = behind;
      marks_are = ap₂ (λ (x : List (List ℕ)) (n : ℕ). drop n (marks_of_all x)) e k ∙ drop_midst ws behind begun left a;
      whole = r.1;
      distance = ap₂ (λ (x : List (List ℕ)) (n : ℕ). distance_of (end_to_end x) n) e k
          ∙ (distance_exactly ws (begun ++ left) behind (whole_left source ws ((begun ++ left) ∷ behind) v) r.0 r.1).1 (length begun) a
          (omega (arith, length-append begun left))
          ∙ l;
    }

-- the pointer of a field that begins with what is to be sent
pointer_first : (ps qs : List (List ℕ)) (offset left D : ℕ) → AllWhole source ps → AllWhole source qs → offset ≤ length (end_to_end ps) → left ≤ 6
    → D ≤ length (to_send ps offset left qs)
    → called_at D (left + distance_of (end_to_end ps) offset) ≡ first_start 0 (take D (to_send ps offset left qs))
pointer_first ps qs offset left D w v h few long =
    let a = ahead_of ps offset w (cut_of ps offset h) in
    let t = drop (7 - left) short_idle in
    let same : to_send ps offset left qs ≡ inner (t ++ a.rest) ++ marks_of_all (a.behind ++ qs) =
    ap (λ (x : List Mark). inner t ++ (x ++ marks_of_all qs)) a.marks_are
    ∙ ap (λ (x : List Mark). inner t ++ x) (append_assoc (inner a.rest) (marks_of_all a.behind) (marks_of_all qs))
    ∙ sym (append_assoc (inner t) (inner a.rest) (marks_of_all a.behind ++ marks_of_all qs))
    ∙ ap₂ (λ (x y : List Mark). x ++ y) (sym (inner_append t a.rest)) (sym (laid_append a.behind qs)) in
    let l : length (t ++ a.rest) ≡ left + distance_of (end_to_end ps) offset =
    length-append t a.rest ∙ ap₂ (λ (x y : ℕ). x + y) (length_tail left few) (sym a.distance) in
    sym
    (ap (λ (x : List Mark). first_start 0 (take D x)) same
    ∙ pointer_is source source_lawful (t ++ a.rest) (a.behind ++ qs) D (whole_append a.behind qs a.whole v) (rw same at long)
    ∙ ap (called_at D) l)

-- the pointer as laid
pub pointer_nothing : (D distance left : ℕ) (b : Bool) → b ≡ true → pointer_of D distance left b ≡ idle_data
unfolding pointer_of
pointer_nothing D distance left b e = rw e

pub pointer_some : (D distance left : ℕ) (b : Bool) → b ≡ false → pointer_of D distance left b ≡ called_at D (left + distance)
unfolding pointer_of called_at
pointer_some D distance left b e = rw e

pub size_most : (u : SetUp) (w : Option ControlWord) → fits_of u ≡ true → close_size u w ≤ 2042
size_most u w e = (sizes u w e).most

-- fillers are whole and idle
pub fillers_whole : (u : SetUp) (v : ℕ) (run : List ℕ) → fits_of u ≡ true → (cs : List Writing) (p : Place) → AllWhole source (fillers u v run p cs)
unfolding fillers
fillers_whole u v run e [] p = tt
fillers_whole u v run e (c ∷ cs) p =
    whole_append (filler_for _ _) _ (filler_whole _ _ (omega (arith, size_most u c.word e))) (fillers_whole u v run e cs _)

pub fillers_idle : (u : SetUp) (v : ℕ) (run : List ℕ) (cs : List Writing) (p : Place) → AllIdle (fillers u v run p cs)
unfolding fillers
fillers_idle u v run [] p = tt
fillers_idle u v run (c ∷ cs) p = idle_append (filler_for _ _) _ (filler_idle _ _) (fillers_idle u v run cs _)

-- between packets
between_laid : (fs : List (List ℕ)) → AllWhole source fs → between (marks_of_all fs) ≡ true
unfolding between marks_of_all marks_of
between_laid [] w = refl
between_laid ([] ∷ fs) w = absurd (omega (arith, whole_some source source_lawful [] w.0))
between_laid ((o ∷ p) ∷ fs) w = refl

nothing_in : (l : List ℕ) → length l ≡ 0 → l ≡ []
nothing_in [] e = refl
nothing_in (o ∷ l) e = absurd (omega arith)

pub nothing_says : (run : List ℕ) (offset left : ℕ) → nothing_of run offset left ≡ true → (left ≡ 0) × (offset ≡ length run)
unfolding nothing_of
nothing_says run offset left e =
    let b = both (eqb left 0) (eqb offset (length run)) e in (eqb-true left 0 b.0, eqb-true offset (length run) b.1)

none_left : (D : ℕ) (run : List ℕ) (offset left : ℕ) → left ≡ 0 → length (placed_part D run offset left) ≡ 0 → left_over_after D run offset left ≡ 0
unfolding left_over_after left_after
none_left D run offset left e z =
    rw (eq-eqb (length (placed_part D run offset left)) 0 z) (omega arith)

-- at the run's end the left-over is to be sent, then what follows the run; with no left-over that alone
pub past_run : (ps fs : List (List ℕ)) (offset left : ℕ) → offset ≡ length (end_to_end ps)
    → to_send ps offset left fs ≡ inner (drop (7 - left) short_idle) ++ marks_of_all fs
past_run ps fs offset left h =
    let z : drop offset (marks_of_all ps) ≡ [] = drop_of_length-le (marks_of_all ps) {i = offset} (omega (arith, length_laid ps)) in
    rw z

at_end : (ps fs : List (List ℕ)) (offset left : ℕ) → left ≡ 0 → offset ≡ length (end_to_end ps) → to_send ps offset left fs ≡ marks_of_all fs
unfolding inner
at_end ps fs offset left e h = past_run ps fs offset left h ∙ rw e

-- whether a call places anything
module _ {u : SetUp} {v : ℕ} {run : List ℕ} {p : Place} (s : Writes u v run p) (w : Option ControlWord) (out : List ℕ) (e : length out ≡ u.length) where
  pub some_placed : nothing_of run p.offset p.left_over ≡ false → length (placed_part (close_size u w) run p.offset p.left_over) ≡ 0 → ⊥
  some_placed z y = false≢true (sym z ∙ (laid_well u v p w run out (answers s w out e)).nothing.1 (nothing_in _ y))

  pub none_placed : nothing_of run p.offset p.left_over ≡ true → length (placed_part (close_size u w) run p.offset p.left_over) ≡ 0
  none_placed z = ap length ((laid_well u v p w run out (answers s w out e)).nothing.0 z)

-- what is to be sent at a place, and at the next
abbrev now : SetUp → List (List ℕ) → Place → Option ControlWord → List (List ℕ) → List Mark
now u ps p w fs =
    to_send ps p.offset p.left_over
    (filler_for (length (placed_part (close_size u w) (end_to_end ps) p.offset p.left_over))
    (close_size u w - length (placed_part (close_size u w) (end_to_end ps) p.offset p.left_over)) ++ fs)

abbrev later : SetUp → List (List ℕ) → Place → Option ControlWord → List (List ℕ) → List Mark
later u ps p w fs =
    to_send ps (p.offset + length (run_part (close_size u w) (end_to_end ps) p.offset p.left_over))
    (left_over_after (close_size u w) (end_to_end ps) p.offset p.left_over) fs

-- one call
module _ {u : SetUp} {v : ℕ} (ps : List (List ℕ)) {p : Place} (s : Writes u v (end_to_end ps) p) (whole : AllWhole source ps)
    (real : Octets (end_to_end ps)) (w : Option ControlWord) (out : List ℕ) (e : length out ≡ u.length) (small : word_number w < 2 ^ 32)
    (fs fr : List (List ℕ)) (more : AllWhole source fs) where
  step_packets : nothing_of (end_to_end ps) p.offset p.left_over ≡ false → Sends u v (after p.count.0) (later u ps p w fs) fr
      → Sends u v p.count.0 (now u ps p w fs) (frame_written u v p w (end_to_end ps) ∷ fr)
  step_packets z on =
      let n = length (placed_part (close_size u w) (end_to_end ps) p.offset p.left_over) in
      let some = some_placed s w out e z in
      let f = filler_for n (close_size u w - n) in
      let long = sends_long ps p.offset p.left_over (close_size u w) (few s) s.inside some fs in
      packets p.count.0 _ (frame_written u v p w (end_to_end ps)) fr (opened_to u v p w (end_to_end ps)) (sent s real w out e small) long
      (field_laid s real w out e small ∙ sends_field ps p.offset p.left_over (close_size u w) (few s) s.inside some fs)
      (pointer_some (close_size u w) _ p.left_over _ z
      ∙ pointer_first ps (f ++ fs) p.offset p.left_over (close_size u w) whole
      (whole_append f fs (filler_whole n (close_size u w - n) (omega (arith, size_most u w s.fits))) more) s.inside (few s) long)
      (rw (sends_later ps p.offset p.left_over (close_size u w) (few s) s.inside some fs) on)

  step_idle : nothing_of (end_to_end ps) p.offset p.left_over ≡ true → Sends u v (after p.count.0) (later u ps p w fs) fr
      → Sends u v p.count.0 (now u ps p w fs) (frame_written u v p w (end_to_end ps) ∷ fr)
  step_idle z on =
      let n = length (placed_part (close_size u w) (end_to_end ps) p.offset p.left_over) in
      let none = none_placed s w out e z in
      let y = nothing_says (end_to_end ps) p.offset p.left_over z in
      let l = none_left (close_size u w) (end_to_end ps) p.offset p.left_over y.0 none in
      let r : p.offset + length (run_part (close_size u w) (end_to_end ps) p.offset p.left_over) ≡ length (end_to_end ps) =
      omega (arith, length_placed (close_size u w) (end_to_end ps) p.offset p.left_over) in
      let before = at_end ps fs p.offset p.left_over y.0 y.1 in
      let then = at_end ps fs _ _ l r in
      rw (filler_idle_frame n (close_size u w - n) none, before)
      (idle p.count.0 (marks_of_all fs) (frame_written u v p w (end_to_end ps)) fr (opened_to u v p w (end_to_end ps)) (sent s real w out e small)
      (pointer_nothing (close_size u w) _ p.left_over _ z) (between_laid fs more) (rw then at on))

  step : Sends u v (after p.count.0) (later u ps p w fs) fr → Sends u v p.count.0 (now u ps p w fs) (frame_written u v p w (end_to_end ps) ∷ fr)
  step on = go (nothing_of (end_to_end ps) p.offset p.left_over) refl
    where
      go : (b : Bool) → nothing_of (end_to_end ps) p.offset p.left_over ≡ b
          → Sends u v p.count.0 (now u ps p w fs) (frame_written u v p w (end_to_end ps) ∷ fr)
      go true z = step_idle z on
      go false z = step_packets z on

  call : Sends u v (next_of u v p w (end_to_end ps) out).count.0
      (to_send ps (next_of u v p w (end_to_end ps) out).offset (next_of u v p w (end_to_end ps) out).left_over fs) fr
      → Sends u v p.count.0 (now u ps p w fs) (output_of u v p w (end_to_end ps) out ∷ fr)
  unfolding next_place
  call on =
      let at : Place → Type 0 = λ q. Sends u v q.count.0 (to_send ps q.offset q.left_over fs) fr in
      rw (output_is s w out e) (step (subst at (next_is s w out e) on))

-- all calls, with what is sent behind them
pub sends : (u : SetUp) (v : ℕ) (ps : List (List ℕ)) → AllWhole source ps → Octets (end_to_end ps) → (more fr : List (List ℕ)) → AllWhole source more
    → (cs : List Writing) (p : Place) → Writes u v (end_to_end ps) p → Fair u cs
    → Sends u v (place_after u v (end_to_end ps) p cs).count.0
    (to_send ps (place_after u v (end_to_end ps) p cs).offset (place_after u v (end_to_end ps) p cs).left_over more) fr
    → Sends u v p.count.0 (to_send ps p.offset p.left_over (fillers u v (end_to_end ps) p cs ++ more)) (frames u v (end_to_end ps) p cs ++ fr)
unfolding frames fillers place_after
sends u v ps whole real more fr w [] p s f on = on
sends u v ps whole real more fr w (c ∷ cs) p s f on =
    let q = next_of u v p c.word (end_to_end ps) c.out in
    rw append_assoc
    (call ps s whole real c.word c.out f.0 f.1 (fillers u v (end_to_end ps) q cs ++ more) (frames u v (end_to_end ps) q cs ++ fr)
    (whole_append (fillers u v (end_to_end ps) q cs) more (fillers_whole u v (end_to_end ps) s.fits cs q) w)
    (sends u v ps whole real more fr w cs q (next_writes s c.word c.out f.0) f.2 on))
