-- What a walk comes to: whole packets that stand end to end at the front of its octets, and what is held behind them.
-- Assumes nothing.
use mathlib.Core.Path.{◌≡◌, refl, ◌∙◌, sym, ap}
use mathlib.Core.List.{List, [], ◌∷◌, ◌++◌, append_assoc}
use mathlib.Core.Logic.{◌⊎◌, inl, inr}
use Prim.Native.Nat.{ℕ, zero, suc, ◌<◌}
use native.Mathlib.Decide.{dec_lt, ℕ_discrete}
use native.Mathlib.Omega.{arith}
use lib.ListN.{length, take, drop, length-drop, take-append-drop}
use lib.Seq.{length-take-le}
use Rattle.packet.specs.Family.{Family, Lawful, AllWhole}
use Rattle.packet.specs.Theorems.{end_to_end}
use Rattle.packet.specs.declared.source.Size.{Size}
use Rattle.packet.specs.declared.source.Size.TheVariants.{Wait, Foreign, Total}
use Rattle.channel.specs.declared.state.State.{State}
use Rattle.channel.specs.declared.state.State.TheVariants.{Hunting, Gathering, Skipping}
use Rattle.walk.specs.declared.walking.End.{End}
use Rattle.walk.specs.Walk.{Done, ended_by, ended, Walked, cut_of, walk_of}
use Rattle.walk.proofs.DoneLaws.{ended_foreign, ended_oversize}
use Rattle.walk.proofs.WalkLaws.{Stands, seen_whole, walk_stop, walk_whole, sees_end, sees_few, sees_packet, sees_cut}
use Rattle.walk.proofs.WholeLaws.{from_walk}
use Rattle.demands.proofs.Aligned.{AllFit}

-- a state that gathers says how many octets are held
abbrev pub Kept : State → List ℕ → Type 0
Kept s held = (k : ℕ) → s ≡ Gathering k → k ≡ length held

-- octets that begin a packet and do not end it
abbrev pub Open : Family → List ℕ → Type 0
Open F d = (F.size d ≡ Wait) ⊎ ((n : ℕ) × ((F.size d ≡ Total n) × (length d < n)))

-- an end counts nothing broken and no disagreement, and a whole packet more before it changes only the packets
pub record Clean (e : End) (p : List ℕ) (ws : List (List ℕ)) (rest : List ℕ) : Type 0 where
  pub unbroken : (ended_by e ws rest).broken ≡ 0
  pub agreeing : (ended_by e ws rest).disagreement ≡ 0
  pub more : (ended_by e (p ∷ ws) rest).whole ≡ p ∷ (ended_by e ws rest).whole
  pub held_same : (ended_by e (p ∷ ws) rest).held ≡ (ended_by e ws rest).held
  pub state_same : (ended_by e (p ∷ ws) rest).state ≡ (ended_by e ws rest).state

pub clean : (e : End) (p : List ℕ) (ws : List (List ℕ)) (rest : List ℕ) → Clean e p ws rest
unfolding ended_by
clean End.Foreign p ws rest = record { unbroken = refl; agreeing = refl; more = refl; held_same = refl; state_same = refl }
clean End.Exact p ws rest = record { unbroken = refl; agreeing = refl; more = refl; held_same = refl; state_same = refl }
clean (End.Cut k) p ws rest = record { unbroken = refl; agreeing = refl; more = refl; held_same = refl; state_same = refl }
clean (End.Oversize r) p ws rest = record { unbroken = refl; agreeing = refl; more = refl; held_same = refl; state_same = refl }

pub not_gathering : {s : State} {A : Type 0} (k : ℕ) → s ≡ Gathering k → (s ≡ Hunting) ⊎ ((r : ℕ) × (s ≡ Skipping r)) → A
not_gathering k e (inl h) = absurd (let z : ◌≡◌ {A = ℕ} 0 1 = cc in omega arith)
not_gathering k e (inr (r, h)) = absurd (let z : ◌≡◌ {A = ℕ} 0 1 = cc in omega arith)

-- what a walk over d comes to: it stops at once and nothing is held; or all of d is held; or a whole packet stands first
pub data AtFront (F : Family) (limit : ℕ) (d : List ℕ) (x : Done) : Type 0 where
  stops : x.whole ≡ [] → x.held ≡ [] → Kept x.state x.held → AtFront F limit d x
  holds : x.whole ≡ [] → x.held ≡ d → Kept x.state x.held → Open F d → AtFront F limit d x
  packet : (n : ℕ) → Stands F limit d n → x.whole ≡ take n d ∷ (ended (walk_of F limit (drop n d))).whole
      → x.held ≡ (ended (walk_of F limit (drop n d))).held → x.state ≡ (ended (walk_of F limit (drop n d))).state → AtFront F limit d x

module _ (F : Family) (laws : Lawful F) (limit : ℕ) (d : List ℕ) where
  holds_all : (x : Done) → x ≡ ended_by (End.Cut (length d)) [] d → Open F d → AtFront F limit d x
  unfolding ended_by
  holds_all x e o = rw e (holds refl refl (λ k q. cc) o)

  front_total : (n : ℕ) → F.size d ≡ Total n → Dec (limit < n) → Dec (length d < n) → AtFront F limit d (ended (walk_of F limit d))
  unfolding ended_by cut_of
  front_total n e (yes l) _ = rw (ended_oversize F laws limit d n (length d) e l refl) (stops refl refl (λ k q. not_gathering k q (inr (_, refl))))
  front_total n e (no l) (yes h) =
      holds_all (ended (walk_of F limit d)) (ap ended (walk_stop F laws limit d _ (sym (sees_cut F limit d n e (omega arith) h)))) (inr (n, (e, h)))
  front_total n e (no l) (no h) =
      let s = sym (sees_packet F limit d n e (omega arith) (omega arith)) in
      let w = walk_of F limit (drop n d) in
      let c = clean w.end (take n d) w.whole w.rest in
      let y = walk_whole F laws limit d n s in
      packet n (seen_whole F laws limit d n s) (ap (λ (v : Walked). (ended v).whole) y ∙ c.more) (ap (λ (v : Walked). (ended v).held) y ∙ c.held_same)
      (ap (λ (v : Walked). (ended v).state) y ∙ c.state_same)

  front_waits : F.size d ≡ Wait → Dec (length d ≡ 0) → AtFront F limit d (ended (walk_of F limit d))
  unfolding ended_by cut_of
  front_waits e (yes z) =
      rw (ap ended (walk_stop F laws limit d _ (sym (sees_end F limit d e z)))) (stops refl refl (λ k q. cc))
  front_waits e (no z) = holds_all (ended (walk_of F limit d)) (ap ended (walk_stop F laws limit d _ (sym (sees_few F limit d e z)))) (inl e)

  pub walk_front : AtFront F limit d (ended (walk_of F limit d))
  walk_front = go (F.size d) refl
    where
      go : (s : Size) → F.size d ≡ s → AtFront F limit d (ended (walk_of F limit d))
      go Wait e = front_waits e (ℕ_discrete (length d) 0)
      go Foreign e = rw (ended_foreign F laws limit d e) (stops refl refl (λ k q. not_gathering k q (inl refl)))
      go (Total n) e = front_total n e (dec_lt limit n) (dec_lt (length d) n)

-- packets that stand end to end at the front of d, and what is held behind them
pub record InRow (F : Family) (limit : ℕ) (d : List ℕ) (x : Done) : Type 0 where
  pub all_whole : AllWhole F x.whole
  pub all_fit : AllFit limit x.whole
  pub behind : List ℕ
  pub laid_end_to_end : d ≡ end_to_end x.whole ++ behind
  pub held_is : (x.held ≡ []) ⊎ (x.held ≡ behind)
  pub kept : Kept x.state x.held

module _ (F : Family) (laws : Lawful F) (limit : ℕ) where
  one_more : (d : List ℕ) (n : ℕ) (x y : Done) → AllWhole F x.whole → Stands F limit d n → x.whole ≡ take n d ∷ y.whole → x.held ≡ y.held → x.state ≡ y.state
      → InRow F limit (drop n d) y → InRow F limit d x
  one_more d n x y k t w i j h =
      record {
        all_whole = k;
        all_fit = rw w (omega (arith, length-take-le n d t.there, t.within), h.all_fit);
        behind = h.behind;
        laid_end_to_end =
            rw w
            (sym (take-append-drop n d) ∙ ap (λ (r : List ℕ). take n d ++ r) h.laid_end_to_end
            ∙ sym (append_assoc (take n d) (end_to_end y.whole) h.behind));
        held_is = rw i h.held_is;
        kept = rw (i, j) h.kept;
      }

  in_row_by : (d : List ℕ) → AtFront F limit d (ended (walk_of F limit d))
      → ((n : ℕ) → Stands F limit d n → InRow F limit (drop n d) (ended (walk_of F limit (drop n d)))) → InRow F limit d (ended (walk_of F limit d))
  in_row_by d (stops w i k) on = record { all_whole = rw w tt; all_fit = rw w tt; behind = d; laid_end_to_end = rw w refl; held_is = inl i; kept = k }
  in_row_by d (holds w i k o) on = record { all_whole = rw w tt; all_fit = rw w tt; behind = d; laid_end_to_end = rw w refl; held_is = inr i; kept = k }
  in_row_by d (packet n t w i j) on = one_more d n (ended (walk_of F limit d)) (ended (walk_of F limit (drop n d))) (from_walk F laws limit d).all_whole t w i j (on n t)

  in_row_within : (f : ℕ) (d : List ℕ) → length d < f → InRow F limit d (ended (walk_of F limit d))
  in_row_within zero d l = absurd (omega arith)
  in_row_within (suc f) d l =
      in_row_by d (walk_front F laws limit d) (λ n t. in_row_within f (drop n d) (omega (arith, t.some, t.there, length-drop n d)))

  -- those of every walk do
  pub walk_in_row : (d : List ℕ) → InRow F limit d (ended (walk_of F limit d))
  walk_in_row d = in_row_within (suc (length d)) d (omega arith)
