-- The words of the steps: states, the pointer that a packet calls for, and what a call or a walk that ends leaves.
-- Assumes nothing.
use mathlib.Core.Path.{◌≡◌, refl, ◌∙◌, sym, ap}
use mathlib.Core.Bool.{Bool, true, false, false≢true}
use mathlib.Core.List.{List, ◌++◌}
use Prim.Native.Nat.{ℕ, ◌-◌, ◌≤◌, ◌<◌}
use native.Mathlib.Decide.{dec_le, dec_lt, ℕ_discrete}
use native.Mathlib.Omega.{arith}
use lib.Dec.{eqb}
use lib.ListN.{length, take, drop}
use borrow.Author.Tests.{eq-eqb, eqb-true, eqb-false, lt-ltb, le-ltb}
use Rattle.packet.specs.Family.{Family}
use Rattle.packet.specs.declared.source.Size.{Size}
use Rattle.packet.specs.declared.source.Size.TheVariants.{Wait, Foreign, Total}
use Rattle.channel.specs.Busy.{busy_state}
use Rattle.channel.specs.declared.state.State.{State}
use Rattle.channel.specs.declared.state.State.TheVariants.{Hunting, Gathering, Skipping}
use Rattle.walk.specs.declared.walking.End.{End}
use Rattle.walk.specs.Steps.{agrees, broke, broken_by, called_at, disagreed, hunted, resumed}
use Rattle.walk.specs.Theorems.{Agrees, Alike, CallsFor, EndsIn, UnderWay, Walks}
use Rattle.walk.specs.Walk.{Done, ended, ended_by, only, walk_of}
use Rattle.walk.proofs.DoneLaws.{whole_by}
use Rattle.walk.proofs.StepLaws.{agrees_foreign, agrees_start, agrees_total, agrees_wait, called_none, called_within, gathers_apart, gathers_on, hunted_from, hunted_none, skips_apart, skips_on, skips_out_lem}

-- a state is of one variant, with one number
pub clash : {A : Type 0} → ◌≡◌ {A = ℕ} 0 1 → A
clash z = absurd (omega arith)

pub hunting_gathering : {A : Type 0} {k : ℕ} → Hunting ≡ Gathering k → A
hunting_gathering e = clash (cc)

pub hunting_skipping : {A : Type 0} {r : ℕ} → Hunting ≡ Skipping r → A
hunting_skipping e = clash (cc)

gathering_skipping : {A : Type 0} {k r : ℕ} → Gathering k ≡ Skipping r → A
gathering_skipping e = clash (cc)

gathering_same : {k m : ℕ} → Gathering k ≡ Gathering m → m ≡ k
gathering_same e = cc

skipping_same : {r m : ℕ} → Skipping r ≡ Skipping m → m ≡ r
skipping_same e = cc

pub hunts_or_not : (s : State) → Dec (s ≡ Hunting)
hunts_or_not Hunting = yes refl
hunts_or_not (Gathering k) = no (λ e. hunting_gathering (sym e))
hunts_or_not (Skipping r) = no (λ e. hunting_skipping (sym e))

-- a packet under way, and what it counts as if it is broken
pub under_way_or_not : (s : State) → Dec (UnderWay s)
under_way_or_not Hunting = no (λ u. u)
under_way_or_not (Gathering k) = dec_le 1 k
under_way_or_not (Skipping r) = yes tt

pub hunting_idle : (s : State) → s ≡ Hunting → UnderWay s → ⊥
hunting_idle Hunting e u = u
hunting_idle (Gathering k) e u = hunting_gathering (sym e)
hunting_idle (Skipping r) e u = hunting_skipping (sym e)

pub breaks : (s : State) → UnderWay s → broken_by s ≡ 1
unfolding busy_state
breaks Hunting u = absurd u
breaks (Gathering k) u = rw (lt-ltb 0 k u)
breaks (Skipping r) u = refl

pub breaks_none : (s : State) → (UnderWay s → ⊥) → broken_by s ≡ 0
unfolding busy_state
breaks_none Hunting n = refl
breaks_none (Gathering k) n = rw (le-ltb 0 k (omega (arith, n)))
breaks_none (Skipping r) n = absurd (n tt)

-- the pointer that an end calls for
module _ (D end pointer : ℕ) where
  calls : pointer ≡ called_at D end → CallsFor D end pointer
  calls e = record { below = λ h. e ∙ sym (called_within D end h); beyond = λ h. e ∙ sym (called_none D end h) }

  called : CallsFor D end pointer → pointer ≡ called_at D end
  called c = go (dec_lt end D)
    where
      go : Dec (end < D) → pointer ≡ called_at D end
      go (yes h) = c.below h ∙ called_within D end h
      go (no h) = c.beyond (omega arith) ∙ called_none D end (omega arith)

-- the test of the pointer, by the state
unfoldable pub agreed : Family → List ℕ → List ℕ → State → ℕ → Bool
agreed F part field Hunting pointer = true
agreed F part field (Gathering k) pointer = agrees (length field) k (F.size (take k part ++ field)) pointer
agreed F part field (Skipping r) pointer = eqb pointer (called_at (length field) r)

module _ (F : Family) (part field : List ℕ) (pointer : ℕ) where
  between_calls : (k : ℕ) → agrees (length field) k (F.size (take k part ++ field)) pointer ≡ true → k ≡ 0 → CallsFor (length field) 0 pointer
  between_calls k t z =
      calls (length field) 0 pointer
      (eqb-true pointer (called_at (length field) 0)
      (agrees_start (length field) k pointer (F.size (take k part ++ field)) (called_at (length field) 0) refl z ∙ t))

  known_calls : (k n : ℕ) → agrees (length field) k (F.size (take k part ++ field)) pointer ≡ true → 1 ≤ k
      → F.size (take k part ++ field) ≡ Total n → CallsFor (length field) (n - k) pointer
  known_calls k n t some e =
      calls (length field) (n - k) pointer
      (eqb-true pointer (called_at (length field) (n - k))
      (agrees_total (length field) k pointer (F.size (take k part ++ field)) (omega arith) n (called_at (length field) (n - k)) (n - k) e refl refl
      ∙ t))

  unknown_calls : (k : ℕ) → agrees (length field) k (F.size (take k part ++ field)) pointer ≡ true → 1 ≤ k
      → F.size (take k part ++ field) ≡ Wait → pointer ≡ 2047
  unknown_calls k t some e =
      eqb-true pointer 2047 (agrees_wait (length field) k pointer (F.size (take k part ++ field)) (omega arith) e ∙ t)

  pub sound : (s : State) → agreed F part field s pointer ≡ true → Agrees F part field s pointer
  unfolding agreed
  sound Hunting t =
      record {
        between = λ e. hunting_gathering e;
        known = λ k n e. hunting_gathering e;
        unknown = λ k e. hunting_gathering e;
        skipping = λ r e. hunting_skipping e;
      }
  sound (Gathering k) t =
      record {
        between = λ e. between_calls k t (sym (gathering_same e));
        known = λ m n e. rw (gathering_same e) (known_calls k n t);
        unknown = λ m e. rw (gathering_same e) (unknown_calls k t);
        skipping = λ r e. gathering_skipping e;
      }
  sound (Skipping r) t =
      record {
        between = λ e. gathering_skipping (sym e);
        known = λ k n e. gathering_skipping (sym e);
        unknown = λ k e. gathering_skipping (sym e);
        skipping = λ m e. rw (skipping_same e) (calls (length field) r pointer (eqb-true pointer (called_at (length field) r) t));
      }

  complete : (s : State) → Agrees F part field s pointer → agreed F part field s pointer ≡ true
  unfolding agreed
  complete Hunting a = refl
  complete (Gathering k) a = first (ℕ_discrete k 0)
    where
      by : (k ≡ 0 → ⊥) → (z : Size) → F.size (take k part ++ field) ≡ z
          → agrees (length field) k (F.size (take k part ++ field)) pointer ≡ true
      by n Wait e =
          sym (agrees_wait (length field) k pointer (F.size (take k part ++ field)) n e)
          ∙ eq-eqb pointer 2047 (a.unknown k refl (omega arith) e)
      by n Foreign e = sym (agrees_foreign (length field) k pointer (F.size (take k part ++ field)) n e)
      by n (Total m) e =
          sym (agrees_total (length field) k pointer (F.size (take k part ++ field)) n m (called_at (length field) (m - k)) (m - k) e refl refl)
          ∙ eq-eqb pointer (called_at (length field) (m - k)) (called (length field) (m - k) pointer (a.known k m refl (omega arith) e))

      first : Dec (k ≡ 0) → agrees (length field) k (F.size (take k part ++ field)) pointer ≡ true
      first (yes z) =
          sym (agrees_start (length field) k pointer (F.size (take k part ++ field)) (called_at (length field) 0) refl z)
          ∙ eq-eqb pointer (called_at (length field) 0) (called (length field) 0 pointer (a.between (ap Gathering z)))
      first (no n) = by n (F.size (take k part ++ field)) refl
  complete (Skipping r) a =
      eq-eqb pointer (called_at (length field) r) (called (length field) r pointer (a.skipping r refl))

  pub apart : (s : State) → agreed F part field s pointer ≡ false → Agrees F part field s pointer → ⊥
  apart s e a = false≢true (sym e ∙ complete s a)

  pub agrees_or_not : (s : State) → Dec (Agrees F part field s pointer)
  agrees_or_not s = go (agreed F part field s pointer) refl
    where
      go : (b : Bool) → agreed F part field s pointer ≡ b → Dec (Agrees F part field s pointer)
      go true e = yes (sound s e)
      go false e = no (apart s e)

-- what was done, but for broken and disagreement: one ending, or one walk, decides it, and passes to what is alike
pub ends_alike : {s : State} {d e : Done} → EndsIn s d → EndsIn s e → Alike d e
ends_alike p q =
    record {
      state = p.state ∙ sym q.state;
      held = p.held ∙ sym q.held;
      whole = p.whole ∙ sym q.whole;
      foreign = p.foreign ∙ sym q.foreign;
      oversize = p.oversize ∙ sym q.oversize;
    }

pub ends_as : {s : State} {d e : Done} → Alike d e → EndsIn s d → EndsIn s e
ends_as a p =
    record {
      state = sym a.state ∙ p.state;
      held = sym a.held ∙ p.held;
      whole = sym a.whole ∙ p.whole;
      foreign = sym a.foreign ∙ p.foreign;
      oversize = sym a.oversize ∙ p.oversize;
    }

-- foreign, oversize, state and held, as the end of a walk gives them
abbrev Left : Done → ℕ → ℕ → State → List ℕ → Type 0
Left d f o s held = (d.foreign ≡ f) × (d.oversize ≡ o) × (d.state ≡ s) × (d.held ≡ held)

left_as : {d e : Done} {f o : ℕ} {s : State} {held : List ℕ} → Alike d e → Left d f o s held → Left e f o s held
left_as a l = (sym a.foreign ∙ l.0, sym a.oversize ∙ l.1, sym a.state ∙ l.2, sym a.held ∙ l.3)

left_alike : {d e : Done} {f o : ℕ} {s : State} {held : List ℕ} → d.whole ≡ e.whole → Left d f o s held → Left e f o s held → Alike d e
left_alike w p q =
    record {
      state = p.2 ∙ sym q.2;
      held = p.3 ∙ sym q.3;
      whole = w;
      foreign = p.0 ∙ sym q.0;
      oversize = p.1 ∙ sym q.1;
    }

ended_zero : (e : End) (ws : List (List ℕ)) (rest : List ℕ) → ((ended_by e ws rest).broken ≡ 0) × ((ended_by e ws rest).disagreement ≡ 0)
unfolding ended_by
ended_zero End.Foreign ws rest = (refl, refl)
ended_zero End.Exact ws rest = (refl, refl)
ended_zero (End.Cut k) ws rest = (refl, refl)
ended_zero (End.Oversize r) ws rest = (refl, refl)

pub ends_only : (s : State) → EndsIn s (only s)
ends_only s = record { state = refl; held = refl; whole = refl; foreign = refl; oversize = refl }

pub alike_broke : (s : State) (d : Done) → Alike d (broke s d)
alike_broke s d = record { state = refl; held = refl; whole = refl; foreign = refl; oversize = refl }

pub alike_disagreed : (s : State) (d : Done) → Alike d (disagreed s d)
alike_disagreed s d = record { state = refl; held = refl; whole = refl; foreign = refl; oversize = refl }

module _ (F : Family) (limit : ℕ) (run : List ℕ) where
  pub walks_alike : {d e : Done} → Walks F limit run d → Walks F limit run e → Alike d e
  walks_alike {d} {e} p q = go (walk_of F limit run).end refl
    where
      whole : d.whole ≡ e.whole
      whole = p.whole ∙ sym q.whole

      go : (x : End) → (walk_of F limit run).end ≡ x → Alike d e
      go End.Foreign z = left_alike whole (p.foreign z) (q.foreign z)
      go End.Exact z = left_alike whole (p.exact z) (q.exact z)
      go (End.Cut k) z = left_alike whole (p.cut k z) (q.cut k z)
      go (End.Oversize r) z = left_alike whole (p.oversize r z) (q.oversize r z)

  pub walks_as : {d e : Done} → Alike d e → Walks F limit run d → Walks F limit run e
  walks_as a p =
      record {
        whole = sym a.whole ∙ p.whole;
        foreign = λ z. left_as a (p.foreign z);
        oversize = λ r z. left_as a (p.oversize r z);
        cut = λ k z. left_as a (p.cut k z);
        exact = λ z. left_as a (p.exact z);
      }

  pub walks : Walks F limit run (ended (walk_of F limit run))
  unfolding ended_by
  walks =
      let w = walk_of F limit run in
      record {
        whole = whole_by w.end w.whole w.rest;
        foreign = λ z. rw z (refl, refl, refl, refl);
        oversize = λ r z. rw z (refl, refl, refl, refl);
        cut = λ k z. rw z (refl, refl, refl, refl);
        exact = λ z. rw z (refl, refl, refl, refl);
      }

-- step 4
module _ (F : Family) (limit : ℕ) (field : List ℕ) (pointer : ℕ) where
  pub hunt_ends : pointer ≡ 2047 → EndsIn Hunting (hunted F limit field pointer)
  hunt_ends e = rw (hunted_none F limit field pointer e) (ends_only Hunting)

  pub hunt_walks : (pointer ≡ 2047 → ⊥) → Walks F limit (drop pointer field) (hunted F limit field pointer)
  hunt_walks n = rw (hunted_from F limit field pointer n) (walks F limit (drop pointer field))

  pub hunt_zero : ((hunted F limit field pointer).broken ≡ 0) × ((hunted F limit field pointer).disagreement ≡ 0)
  hunt_zero = go (ℕ_discrete pointer 2047)
    where
      go : Dec (pointer ≡ 2047) → ((hunted F limit field pointer).broken ≡ 0) × ((hunted F limit field pointer).disagreement ≡ 0)
      go (yes e) = rw (hunted_none F limit field pointer e) (refl, refl)
      go (no n) = rw (hunted_from F limit field pointer n) (ended_zero _ _ _)

-- steps 3 to 5, by the pointer's test
module _ (F : Family) (limit : ℕ) (part field : List ℕ) (pointer : ℕ) where
  pub on_gathering : (k : ℕ) → agreed F part field (Gathering k) pointer ≡ true
      → resumed F limit part field pointer (Gathering k) ≡ ended (walk_of F limit (take k part ++ field))
  unfolding agreed
  on_gathering k t = gathers_on F limit part field pointer k t

  pub skip_called : (r : ℕ) → agreed F part field (Skipping r) pointer ≡ true → pointer ≡ called_at (length field) r
  unfolding agreed
  skip_called r t = eqb-true pointer (called_at (length field) r) t

  pub on_zero : (s : State) → agreed F part field s pointer ≡ true
      → ((resumed F limit part field pointer s).broken ≡ 0) × ((resumed F limit part field pointer s).disagreement ≡ 0)
  unfolding resumed
  on_zero Hunting t = hunt_zero F limit field pointer
  on_zero (Gathering k) t = rw (on_gathering k t) (ended_zero _ _ _)
  on_zero (Skipping r) t = go (dec_le r (length field))
    where
      go : Dec (r ≤ length field)
          → ((resumed F limit part field pointer (Skipping r)).broken ≡ 0) × ((resumed F limit part field pointer (Skipping r)).disagreement ≡ 0)
      go (yes l) = rw (skips_out_lem F limit part field pointer r (skip_called r t) l) (ended_zero _ _ _)
      go (no l) = rw (skips_on F limit part field pointer r (skip_called r t) (omega arith)) (refl, refl)

  pub off : (s : State) → agreed F part field s pointer ≡ false
      → resumed F limit part field pointer s ≡ disagreed s (hunted F limit field pointer)
  unfolding agreed
  off Hunting t = absurd (false≢true (sym t))
  off (Gathering k) t = gathers_apart F limit part field pointer k t
  off (Skipping r) t = skips_apart F limit part field pointer r (eqb-false pointer (called_at (length field) r) t)
