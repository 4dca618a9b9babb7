-- The steps and the walk in the paper's words.
-- Assumes nothing.
use mathlib.Core.Path.{◌≡◌, refl, ◌∙◌, sym, ap}
use mathlib.Core.Bool.{Bool, true, false, false≢true}
use mathlib.Core.List.{List, [], ◌∷◌, ◌++◌}
use Prim.Native.Nat.{ℕ, ◌+◌, ◌-◌, ◌%◌, ◌≤◌, ◌<◌}
use native.Mathlib.Decide.{dec_le, dec_lt, ℕ_discrete}
use native.Mathlib.Omega.{arith}
use lib.ListN.{length, take, drop, length-append}
use lib.Seq.{length-take-le}
use borrow.Author.Tests.{ne_eqb}
use Rattle.packet.specs.Family.{Family}
use Rattle.packet.specs.Size.{source, total_of, version_of}
use Rattle.packet.specs.Theorems.{InWords as Words}
use Rattle.packet.specs.declared.source.Size.TheVariants.{Total}
use Rattle.packet.proofs.Laws.{size_in_words, source_lawful}
use Rattle.frame.specs.Counts.{gap_of}
use Rattle.frame.specs.declared.header.Header.{Header}
use Rattle.channel.specs.Theorems.{InWords as Rules}
use Rattle.channel.specs.declared.state.Channel.{Channel}
use Rattle.channel.specs.declared.state.State.{State}
use Rattle.channel.specs.declared.state.State.TheVariants.{Hunting, Gathering, Skipping}
use Rattle.channel.proofs.Laws.{rules_in_words}
use Rattle.walk.specs.declared.walking.End.{End}
use Rattle.walk.specs.Steps.{broke, carries_none, disagreed, gap_for, hunted, resumed, steps_of}
use Rattle.walk.specs.Theorems.{Agrees, Alike, BrokenNowhereElse, EndsIn, OversizeAtSix, StepsInWordsLaw, StepsInWords, UnderWay, WalkInWordsLaw, WalkInWords}
use Rattle.walk.specs.Walk.{Done, Walked, cut_of, only, walk_of}
use Rattle.walk.proofs.StepLaws.{carries_packets, skips_on, skips_out_lem, steps_gap, steps_none, steps_on}
use Rattle.walk.proofs.WalkLaws.{sees_cut, sees_end, sees_few, sees_foreign, sees_oversize, sees_packet, walk_stop, walk_whole}
use Rattle.walk.proofs.WordLaws.{agreed, agrees_or_not, alike_broke, alike_disagreed, apart, breaks, breaks_none, clash, ends_alike, ends_as, ends_only, hunt_ends, hunt_walks, hunt_zero, hunting_gathering, hunting_idle, hunting_skipping, hunts_or_not, off, on_gathering, on_zero, skip_called, sound, under_way_or_not, walks, walks_alike, walks_as}

-- a frame that is neither private nor idle carries packets
carries : (h : Header) → h.synchronisation ≡ false → (h.pointer ≡ 2046 → ⊥) → carries_none h ≡ false
unfolding carries_none
carries h q i = rw (q, ne_eqb h.pointer 2046 i)

-- step 1
gap_unheard : (h : Header) (c : Channel) → c.heard ≡ false → gap_for c h ≡ 0
unfolding gap_for
gap_unheard h c e = rw e

gap_heard : (h : Header) (c : Channel) → c.heard ≡ true → gap_for c h ≡ (h.count.0 + 256 - c.last.0 - 1) % 256
unfolding gap_for gap_of
gap_heard h c e = rw e

gap_repeated : (h : Header) (c : Channel) → c.heard ≡ true → h.count.0 ≡ c.last.0 → gap_for c h ≡ 255
gap_repeated h c e q =
    let z : h.count.0 + 256 - c.last.0 - 1 ≡ 255 = omega arith in
    gap_heard h c e ∙ ap (λ (n : ℕ). n % 256) z

-- the steps keep to the sentences: an idle or a private frame, a gap, a pointer that agrees, and one that does not
module _ (F : Family) (limit : ℕ) (part field : List ℕ) (h : Header) (c : Channel) where
  none_words : carries_none h ≡ true → StepsInWords F limit part field h c (gap_for c h) (broke c.state (only Hunting))
  unfolding agreed
  none_words e =
      let ends : EndsIn Hunting (broke c.state (only Hunting)) = ends_as (alike_broke c.state (only Hunting)) (ends_only Hunting) in
      record {
        unheard = gap_unheard h c;
        heard = gap_heard h c;
        repeated = gap_repeated h c;
        second = Hunting;
        third = Hunting;
        gap_hunts = λ n. refl;
        idle_hunts = λ i. refl;
        private_hunts = λ q. refl;
        goes_on = λ g i q. absurd (false≢true (sym (carries h q i) ∙ e));
        hunting_breaks = λ z. breaks c.state;
        idle_ends = λ i. ends;
        private_ends = λ q. ends;
        agrees = λ a. (refl, refl);
        disagrees = λ n. absurd (n (sound F part field h.pointer Hunting refl));
        disagreement_breaks = λ n. breaks c.state;
        none_to_break = breaks_none c.state;
        unbroken = λ n. absurd (n refl);
        none_begins = λ z i. ends;
        starts = λ q i. absurd (false≢true (sym (carries h q i) ∙ e));
        gathering = λ k z. hunting_gathering z;
        skip_ends = λ r z. hunting_skipping z;
        skip_goes_on = λ r z. hunting_skipping z;
      }

  module _ (e : carries_none h ≡ false) where
    gap_words : (gap_for c h ≡ 0 → ⊥)
        → StepsInWords F limit part field h c (gap_for c h) (broke c.state (hunted F limit field h.pointer))
    unfolding agreed
    gap_words g =
        let q = carries_packets h e in
        let a = alike_broke c.state (hunted F limit field h.pointer) in
        record {
          unheard = gap_unheard h c;
          heard = gap_heard h c;
          repeated = gap_repeated h c;
          second = Hunting;
          third = Hunting;
          gap_hunts = λ n. refl;
          idle_hunts = λ i. refl;
          private_hunts = λ t. refl;
          goes_on = λ z. absurd (g z);
          hunting_breaks = λ z. breaks c.state;
          idle_ends = λ i. absurd (q.1 i);
          private_ends = λ t. absurd (false≢true (sym q.0 ∙ t));
          agrees = λ x. (refl, (hunt_zero F limit field h.pointer).1);
          disagrees = λ n. absurd (n (sound F part field h.pointer Hunting refl));
          disagreement_breaks = λ n. breaks c.state;
          none_to_break = breaks_none c.state;
          unbroken = λ n. absurd (n refl);
          none_begins = λ z i. ends_as a (hunt_ends F limit field h.pointer i);
          starts = λ t i z n. walks_as F limit (drop h.pointer field) a (hunt_walks F limit field h.pointer n);
          gathering = λ k z. hunting_gathering z;
          skip_ends = λ r z. hunting_skipping z;
          skip_goes_on = λ r z. hunting_skipping z;
        }

    module _ (g : gap_for c h ≡ 0) where
      on_words : agreed F part field c.state h.pointer ≡ true
          → StepsInWords F limit part field h c (gap_for c h) (resumed F limit part field h.pointer c.state)
      unfolding resumed
      on_words t =
          let q = carries_packets h e in
          let zero = on_zero F limit part field h.pointer c.state t in
          record {
            unheard = gap_unheard h c;
            heard = gap_heard h c;
            repeated = gap_repeated h c;
            second = c.state;
            third = c.state;
            gap_hunts = λ n. absurd (n g);
            idle_hunts = λ i. absurd (q.1 i);
            private_hunts = λ p. absurd (false≢true (sym q.0 ∙ p));
            goes_on = λ z i p. refl;
            hunting_breaks = λ z u. absurd (hunting_idle c.state z u);
            idle_ends = λ i. absurd (q.1 i);
            private_ends = λ p. absurd (false≢true (sym q.0 ∙ p));
            agrees = λ a. (refl, zero.1);
            disagrees = λ n. absurd (n (sound F part field h.pointer c.state t));
            disagreement_breaks = λ n. absurd (n (sound F part field h.pointer c.state t));
            none_to_break = λ n. zero.0;
            unbroken = λ n a. zero.0;
            none_begins = λ z i. rw z (hunt_ends F limit field h.pointer i);
            starts = λ p i z n. rw z (hunt_walks F limit field h.pointer n);
            gathering = λ k z. rw (z, on_gathering F limit part field h.pointer k (rw z at t)) (walks F limit (take k part ++ field));
            skip_ends = λ r z l. rw (z, skips_out_lem F limit part field h.pointer r (skip_called F limit part field h.pointer r (rw z at t)) l)
                (walks F limit (drop r field));
            skip_goes_on = λ r z l. rw (z, skips_on F limit part field h.pointer r (skip_called F limit part field h.pointer r (rw z at t)) l)
                (ends_only (Skipping (r - length field)));
          }

      off_words : agreed F part field c.state h.pointer ≡ false
          → StepsInWords F limit part field h c (gap_for c h) (disagreed c.state (hunted F limit field h.pointer))
      off_words t =
          let q = carries_packets h e in
          let n = apart F part field h.pointer c.state t in
          let a = alike_disagreed c.state (hunted F limit field h.pointer) in
          record {
            unheard = gap_unheard h c;
            heard = gap_heard h c;
            repeated = gap_repeated h c;
            second = c.state;
            third = Hunting;
            gap_hunts = λ z. absurd (z g);
            idle_hunts = λ i. absurd (q.1 i);
            private_hunts = λ p. absurd (false≢true (sym q.0 ∙ p));
            goes_on = λ z i p. refl;
            hunting_breaks = λ z. breaks c.state;
            idle_ends = λ i. absurd (q.1 i);
            private_ends = λ p. absurd (false≢true (sym q.0 ∙ p));
            agrees = λ x. absurd (n x);
            disagrees = λ x. (refl, refl);
            disagreement_breaks = λ x. breaks c.state;
            none_to_break = breaks_none c.state;
            unbroken = λ z x. absurd (n x);
            none_begins = λ z i. ends_as a (hunt_ends F limit field h.pointer i);
            starts = λ p i z m. walks_as F limit (drop h.pointer field) a (hunt_walks F limit field h.pointer m);
            gathering = λ k z. hunting_gathering z;
            skip_ends = λ r z. hunting_skipping z;
            skip_goes_on = λ r z. hunting_skipping z;
          }

  steps_words : StepsInWords F limit part field h c (gap_for c h) (steps_of F limit part field h c)
  steps_words = first (carries_none h) refl
    where
      third : (e : carries_none h ≡ false) (g : gap_for c h ≡ 0) (b : Bool) → agreed F part field c.state h.pointer ≡ b
          → StepsInWords F limit part field h c (gap_for c h) (steps_of F limit part field h c)
      third e g true t = rw (steps_on F limit part field h c e g) (on_words e g t)
      third e g false t = rw (steps_on F limit part field h c e g, off F limit part field h.pointer c.state t) (off_words e g t)

      second : (e : carries_none h ≡ false) → Dec (gap_for c h ≡ 0)
          → StepsInWords F limit part field h c (gap_for c h) (steps_of F limit part field h c)
      second e (yes g) = third e g (agreed F part field c.state h.pointer) refl
      second e (no g) = rw (steps_gap F limit part field h c e g) (gap_words e g)

      first : (b : Bool) → carries_none h ≡ b → StepsInWords F limit part field h c (gap_for c h) (steps_of F limit part field h c)
      first true e = rw (steps_none F limit part field h c e) (none_words e)
      first false e = second e (ℕ_discrete (gap_for c h) 0)

done_same : {d e : Done} → Alike d e → d.broken ≡ e.broken → d.disagreement ≡ e.disagreement → d ≡ e
done_same a b g =
    λ i. record {
      state = a.state i;
      held = a.held i;
      whole = a.whole i;
      broken = b i;
      disagreement = g i;
      foreign = a.foreign i;
      oversize = a.oversize i;
    }

-- the sentences leave no choice
module _ {F : Family} {limit : ℕ} {part field : List ℕ} {h : Header} {c : Channel} {gap gap' : ℕ} {d e : Done}
    (w : StepsInWords F limit part field h c gap d) (v : StepsInWords F limit part field h c gap' e) where
  gap_same : gap ≡ gap'
  gap_same = go c.heard refl
    where
      go : (b : Bool) → c.heard ≡ b → gap ≡ gap'
      go true q = w.heard q ∙ sym (v.heard q)
      go false q = w.unheard q ∙ sym (v.unheard q)

  second_same : w.second ≡ v.second
  second_same = first h.synchronisation refl
    where
      third : h.synchronisation ≡ false → (h.pointer ≡ 2046 → ⊥) → Dec (gap ≡ 0) → w.second ≡ v.second
      third q i (yes g) = w.goes_on g i q ∙ sym (v.goes_on (sym gap_same ∙ g) i q)
      third q i (no g) = w.gap_hunts g ∙ sym (v.gap_hunts (λ z. g (gap_same ∙ z)))

      second : h.synchronisation ≡ false → Dec (h.pointer ≡ 2046) → w.second ≡ v.second
      second q (yes i) = w.idle_hunts i ∙ sym (v.idle_hunts i)
      second q (no i) = third q i (ℕ_discrete gap 0)

      first : (b : Bool) → h.synchronisation ≡ b → w.second ≡ v.second
      first true q = w.private_hunts q ∙ sym (v.private_hunts q)
      first false q = second q (ℕ_discrete h.pointer 2046)

  there : Agrees F part field w.second h.pointer → Agrees F part field v.second h.pointer
  there a = rw second_same at a

  back : Agrees F part field v.second h.pointer → Agrees F part field w.second h.pointer
  back a = rw (← second_same) at a

  third_same : Dec (Agrees F part field w.second h.pointer) → (w.third ≡ v.third) × (d.disagreement ≡ e.disagreement)
  third_same (yes a) =
      let x = w.agrees a in
      let y = v.agrees (there a) in
      (x.0 ∙ second_same ∙ sym y.0, x.1 ∙ sym y.1)
  third_same (no n) =
      let x = w.disagrees n in
      let y = v.disagrees (λ a. n (back a)) in
      (x.0 ∙ sym y.0, x.1 ∙ sym y.1)

  broken_same : Dec (UnderWay c.state) → Dec (Agrees F part field w.second h.pointer) → Dec (w.second ≡ Hunting) → d.broken ≡ e.broken
  broken_same (no n) a z = w.none_to_break n ∙ sym (v.none_to_break n)
  broken_same (yes u) (no n) z = w.disagreement_breaks n u ∙ sym (v.disagreement_breaks (λ a. n (back a)) u)
  broken_same (yes u) (yes a) (yes z) = w.hunting_breaks z u ∙ sym (v.hunting_breaks (sym second_same ∙ z) u)
  broken_same (yes u) (yes a) (no z) = w.unbroken z a ∙ sym (v.unbroken (λ y. z (second_same ∙ y)) (there a))

  rest_same : w.third ≡ v.third → Alike d e
  rest_same same = first h.synchronisation refl
    where
      hunts : h.synchronisation ≡ false → (h.pointer ≡ 2046 → ⊥) → w.third ≡ Hunting → v.third ≡ Hunting → Dec (h.pointer ≡ 2047) → Alike d e
      hunts q i x y (yes n) = ends_alike (w.none_begins x n) (v.none_begins y n)
      hunts q i x y (no n) = walks_alike F limit (drop h.pointer field) (w.starts q i x n) (v.starts q i y n)

      skips : (r : ℕ) → w.third ≡ Skipping r → v.third ≡ Skipping r → Dec (r ≤ length field) → Alike d e
      skips r x y (yes l) = walks_alike F limit (drop r field) (w.skip_ends r x l) (v.skip_ends r y l)
      skips r x y (no l) = ends_alike (w.skip_goes_on r x (omega arith)) (v.skip_goes_on r y (omega arith))

      third : h.synchronisation ≡ false → (h.pointer ≡ 2046 → ⊥) → (s : State) → w.third ≡ s → Alike d e
      third q i Hunting x = hunts q i x (sym same ∙ x) (ℕ_discrete h.pointer 2047)
      third q i (Gathering k) x = walks_alike F limit (take k part ++ field) (w.gathering k x) (v.gathering k (sym same ∙ x))
      third q i (Skipping r) x = skips r x (sym same ∙ x) (dec_le r (length field))

      second : h.synchronisation ≡ false → Dec (h.pointer ≡ 2046) → Alike d e
      second q (yes i) = ends_alike (w.idle_ends i) (v.idle_ends i)
      second q (no i) = third q i w.third refl

      first : (b : Bool) → h.synchronisation ≡ b → Alike d e
      first true q = ends_alike (w.private_ends q) (v.private_ends q)
      first false q = second q (ℕ_discrete h.pointer 2046)

  words_same : d ≡ e
  words_same =
      let a = agrees_or_not F part field h.pointer w.second in
      let t = third_same a in
      done_same (rest_same t.0) (broken_same (under_way_or_not c.state) a (hunts_or_not w.second)) t.1

pub steps_in_words : StepsInWordsLaw
steps_in_words F limit part field h c gap d =
    let s = steps_words F limit part field h c in
    (λ e. rw (e.0, e.1) s, λ w. (gap_same w s, words_same w s))

-- a broken packet counts nowhere else
hunting : Channel → Channel
hunting c = record { heard = c.heard; last = c.last; state = Hunting }

hunting_gap : (h : Header) (c : Channel) → gap_for (hunting c) h ≡ gap_for c h
unfolding gap_for hunting
hunting_gap h c = refl

pub broken_nowhere_else : BrokenNowhereElse
unfolding hunting resumed
broken_nowhere_else F limit part other field h c b = first (carries_none h) refl
  where
    third : (e : carries_none h ≡ false) (g : gap_for c h ≡ 0) (t : Bool) → agreed F part field c.state h.pointer ≡ t
        → Alike (steps_of F limit part field h c) (steps_of F limit other field h (hunting c))
    third e g true t =
        clash (sym (on_zero F limit part field h.pointer c.state t).0 ∙ sym (ap (λ (d : Done). d.broken) (steps_on F limit part field h c e g)) ∙ b)
    third e g false t =
        rw (steps_on F limit part field h c e g, off F limit part field h.pointer c.state t, steps_on F limit other field h (hunting c) e (hunting_gap h c ∙ g))
        (record { state = refl; held = refl; whole = refl; foreign = refl; oversize = refl })

    second : (e : carries_none h ≡ false) → Dec (gap_for c h ≡ 0) → Alike (steps_of F limit part field h c) (steps_of F limit other field h (hunting c))
    second e (yes g) = third e g (agreed F part field c.state h.pointer) refl
    second e (no g) =
        rw (steps_gap F limit part field h c e g, steps_gap F limit other field h (hunting c) e (λ z. g (sym (hunting_gap h c) ∙ z)))
        (record { state = refl; held = refl; whole = refl; foreign = refl; oversize = refl })

    first : (t : Bool) → carries_none h ≡ t → Alike (steps_of F limit part field h c) (steps_of F limit other field h (hunting c))
    first true e =
        rw (steps_none F limit part field h c e, steps_none F limit other field h (hunting c) e)
        (record { state = refl; held = refl; whole = refl; foreign = refl; oversize = refl })
    first false e = second e (ℕ_discrete (gap_for c h) 0)

-- the walk, by what stands at its front
walk_words : (limit : ℕ) (d : List ℕ) → WalkInWords limit d (walk_of source limit d)
unfolding cut_of
walk_words limit d =
    let w : Words d = size_in_words d in
    record {
      packet = λ l v t n. walk_whole source source_lawful limit d (total_of d) (sym (sees_packet source limit d (total_of d) (w.six l v) t n));
      foreign = λ l v. walk_stop source source_lawful limit d End.Foreign (sym (sees_foreign source limit d (w.other l v)));
      oversize = λ l v t. walk_stop source source_lawful limit d (End.Oversize (total_of d - length d))
          (sym (sees_oversize source limit d (total_of d) (w.six l v) t));
      cut_header = λ l v f. walk_stop source source_lawful limit d (End.Cut (length d)) (sym (sees_few source limit d (w.few l v f) (omega arith)));
      cut = λ l v t n. walk_stop source source_lawful limit d (End.Cut (length d)) (sym (sees_cut source limit d (total_of d) (w.six l v) t n));
      exact = λ z. walk_stop source source_lawful limit d End.Exact (sym (sees_end source limit d (w.none z) z));
    }

walk_same : (limit : ℕ) (d : List ℕ) (w v : Walked) → WalkInWords limit d w → WalkInWords limit d v → w ≡ v
walk_same limit d w v p q = first (ℕ_discrete (length d) 0)
  where
    fifth : 6 ≤ length d → version_of d ≡ 0 → total_of d ≤ limit → Dec (total_of d ≤ length d) → w ≡ v
    fifth l z t (yes n) = p.packet l z t n ∙ sym (q.packet l z t n)
    fifth l z t (no n) = let m : length d < total_of d = omega arith in p.cut l z t m ∙ sym (q.cut l z t m)

    fourth : 6 ≤ length d → version_of d ≡ 0 → Dec (total_of d ≤ limit) → w ≡ v
    fourth l z (yes t) = fifth l z t (dec_le (total_of d) (length d))
    fourth l z (no t) = let m : limit < total_of d = omega arith in p.oversize l z m ∙ sym (q.oversize l z m)

    third : 1 ≤ length d → version_of d ≡ 0 → Dec (6 ≤ length d) → w ≡ v
    third s z (yes l) = fourth l z (dec_le (total_of d) limit)
    third s z (no l) = let m : length d < 6 = omega arith in p.cut_header s z m ∙ sym (q.cut_header s z m)

    second : 1 ≤ length d → Dec (version_of d ≡ 0) → w ≡ v
    second s (yes z) = third s z (dec_le 6 (length d))
    second s (no z) = p.foreign s z ∙ sym (q.foreign s z)

    first : Dec (length d ≡ 0) → w ≡ v
    first (yes z) = p.exact z ∙ sym (q.exact z)
    first (no z) = second (omega arith) (ℕ_discrete (version_of d) 0)

pub walk_in_words : WalkInWordsLaw
walk_in_words limit d w = (λ e. rw e (walk_words limit d), λ p. walk_same limit d w (walk_of source limit d) p (walk_words limit d))

-- a walk that ends Oversize ends in no other way, and one without whole packets has none at its front
module _ {e : End} {r : ℕ} (over : e ≡ End.Oversize r) where
  not_exact : e ≡ End.Exact → ⊥
  not_exact q = let z : ◌≡◌ {A = ℕ} 0 1 = cc in omega arith

  not_foreign : e ≡ End.Foreign → ⊥
  not_foreign q = let z : ◌≡◌ {A = ℕ} 0 1 = cc in omega arith

  not_cut : (k : ℕ) → e ≡ End.Cut k → ⊥
  not_cut k q = let z : ◌≡◌ {A = ℕ} 0 1 = cc in omega arith

not_whole : {p : List ℕ} {ps whole : List (List ℕ)} → whole ≡ [] → whole ≡ p ∷ ps → ⊥
not_whole e f = let z = ap length (sym e ∙ f) in omega arith

-- six octets are there when a packet turns out oversize
over_six : (limit : ℕ) (d : List ℕ) (r : ℕ) → (walk_of source limit d).end ≡ End.Oversize r → 6 ≤ length d
over_six limit d r over = first (dec_le 6 (length d))
  where
    w : WalkInWords limit d (walk_of source limit d)
    w = walk_words limit d

    ends : {v : Walked} → walk_of source limit d ≡ v → (walk_of source limit d).end ≡ v.end
    ends e = ap (λ (v : Walked). v.end) e

    third : 1 ≤ length d → length d < 6 → Dec (version_of d ≡ 0) → ⊥
    third s l (yes z) = not_cut over (length d) (ends (w.cut_header s z l))
    third s l (no z) = not_foreign over (ends (w.foreign s z))

    second : length d < 6 → Dec (length d ≡ 0) → ⊥
    second l (yes z) = not_exact over (ends (w.exact z))
    second l (no z) = third (omega arith) l (ℕ_discrete (version_of d) 0)

    first : Dec (6 ≤ length d) → 6 ≤ length d
    first (yes l) = l
    first (no l) = absurd (second (omega arith) (ℕ_discrete (length d) 0))

pub oversize_at_six : OversizeAtSix
oversize_at_six limit part field c k r follows gathers none over =
    let six = over_six limit (take k part ++ field) r over in (below (dec_lt k 6), omega (arith, there))
  where
    d : List ℕ
    d = take k part ++ field

    rules : Rules limit part c
    rules = (rules_in_words limit part c).0 follows

    held : length (take k part) ≡ k
    held = length-take-le k part (rules.there k gathers)

    there : length d ≡ k + length field
    there = simp length-append (omega (arith, held))

    -- six held octets tell a total within the limit
    within : 6 ≤ k → (source.size d ≡ Total (total_of (take k part))) × (total_of (take k part) ≤ limit)
    within l =
        let told = (size_in_words (take k part)).six (omega (arith, held)) (rules.version k gathers (omega arith)) in
        (source_lawful.total_stays (take k part) field (total_of (take k part)) told, (rules.total k gathers l).1)

    held_six : 6 ≤ k → Dec (total_of (take k part) ≤ length d) → ⊥
    held_six l (yes n) =
        let t = within l in
        let w = walk_whole source source_lawful limit d (total_of (take k part)) (sym (sees_packet source limit d _ t.0 t.1 n)) in
        not_whole none (ap (λ (v : Walked). v.whole) w)
    held_six l (no n) =
        let t = within l in
        let w = walk_stop source source_lawful limit d (End.Cut (length d)) (sym (sees_cut source limit d _ t.0 t.1 (omega arith))) in
        not_cut over (length d) (ap (λ (v : Walked). v.end) w)

    below : Dec (k < 6) → k < 6
    below (yes l) = l
    below (no l) = absurd (held_six (omega arith) (dec_le (total_of (take k part)) (length d)))
