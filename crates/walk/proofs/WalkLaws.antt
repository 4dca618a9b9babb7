-- The walk: one turn without a number of turns, and what its whole packets come to.
-- Assumes nothing.
use mathlib.Core.Path.{◌≡◌, refl, ◌∙◌, sym, ap}
use mathlib.Core.Bool.{Bool, true, false}
use mathlib.Core.List.{List, [], ◌∷◌}
use Prim.Native.Nat.{ℕ, zero, suc, ◌+◌, ◌-◌, ◌*◌, ◌≤◌, ◌<◌}
use native.Mathlib.Nat.{mul-zero, mul-suc}
use native.Mathlib.Omega.{arith}
use lib.Dec.{ltb, leb}
use lib.ListN.{length, take, drop, length-append, length-drop, length-take}
use lib.Seq.{take_all, drop-drop}
use borrow.Author.Tests.{ltb-false, leb-true, lt-ltb, le-ltb, le-leb, lt-leb, ne_eqb}
use Rattle.octets.specs.Laid.{laid}
use Rattle.octets.proofs.Laws.{length_laid}
use Rattle.octets.specs.Pick.{pick}
use Rattle.packet.specs.Family.{Family, Lawful}
use Rattle.packet.specs.declared.source.Size.{Size}
use Rattle.packet.specs.declared.source.Size.TheVariants.{Wait, Foreign, Total}
use Rattle.walk.specs.declared.walking.End.{End}
use Rattle.std.specs.Prelude.{Result, Err, Ok}
use Rattle.walk.specs.declared.walking.Tally.{Tally}
use Rattle.octets.proofs.Runs.{laid_nil, laid_behind}
use Rattle.walk.specs.Walk.{front, seen_of, Walked, cut_of, turn, turns, walk_of, handed, handed_all, one_idle, one_delivered, tallied, tallied_all, ended_with}
use Rattle.walk.specs.Theorems.{WalkTurn}

-- a whole packet at the front: its total, within the limit, is there
pub record Stands (F : Family) (limit : ℕ) (d : List ℕ) (n : ℕ) : Type 0 where
  pub told : F.size d ≡ Total n
  pub within : n ≤ limit
  pub there : n ≤ length d
  pub some : 1 ≤ n
  pub least : F.least ≤ n

front_whole : (limit : ℕ) (s : Size) (k n : ℕ) → front limit s k ≡ Ok n → (s ≡ Total n) × (n ≤ limit) × (n ≤ k)
unfolding front
front_whole limit Wait k n e = cc
front_whole limit Foreign k n e = cc
front_whole limit (Total t) k n e = go (ltb limit t) refl (leb t k) refl e
  where
    go : (a : Bool) → ltb limit t ≡ a → (b : Bool) → leb t k ≡ b
        → ◌≡◌ {A = Result ℕ End} (pick a (Err (End.Oversize (t - k))) (pick b (Ok t) (Err (End.Cut k)))) (Ok n)
        → (Total t ≡ Total n) × (n ≤ limit) × (n ≤ k)
    go true p b q e = cc
    go false p false q e = cc
    go false p true q e =
        let s : t ≡ n = cc in
        (ap Total s, omega (arith, ltb-false limit t p), omega (arith, leb-true t k q))

pub seen_whole : (F : Family) (laws : Lawful F) (limit : ℕ) (d : List ℕ) (n : ℕ) → seen_of F limit d ≡ Ok n → Stands F limit d n
unfolding seen_of
seen_whole F laws limit d n e =
    let f = front_whole limit (F.size d) (length d) n e in
    record { told = f.0; within = f.1; there = f.2; some = omega (arith, laws.total_least d n f.0, laws.least_some); least = laws.total_least d n f.0 }

-- what a turn needs of the walk behind it is its answer behind a whole packet
turn_same : (s : Result ℕ End) (d : List ℕ) (f g : List ℕ → Walked) → ((n : ℕ) → s ≡ Ok n → f (drop n d) ≡ g (drop n d)) → turn s d f ≡ turn s d g
unfolding turn
turn_same (Err e) d f g h = refl
turn_same (Ok n) d f g h = rw (h n refl)

shorter : (F : Family) (laws : Lawful F) (limit : ℕ) (d : List ℕ) (n : ℕ) → seen_of F limit d ≡ Ok n → length (drop n d) < length d
shorter F laws limit d n e = let s = seen_whole F laws limit d n e in simp length-drop (omega arith)

enough : (F : Family) (laws : Lawful F) (limit f g : ℕ) (d : List ℕ) → length d < f → length d < g → turns F limit f d ≡ turns F limit g d
unfolding turns
enough F laws limit zero g d hf hg = absurd (omega arith)
enough F laws limit (suc f) zero d hf hg = absurd (omega arith)
enough F laws limit (suc f) (suc g) d hf hg =
    turn_same (seen_of F limit d) d (turns F limit f) (turns F limit g)
    (λ n e. enough F laws limit f g (drop n d) (omega (arith, shorter F laws limit d n e)) (omega (arith, shorter F laws limit d n e)))

-- one turn of the walk
pub walk_turn : (F : Family) (limit : ℕ) → WalkTurn F limit
unfolding walk_of turns
walk_turn F limit laws d =
    turn_same (seen_of F limit d) d (turns F limit (length d)) (walk_of F limit)
    (λ n e. enough F laws limit (length d) (suc (length (drop n d))) (drop n d) (shorter F laws limit d n e) (omega arith))

pub walk_stop : (F : Family) (laws : Lawful F) (limit : ℕ) (d : List ℕ) (e : End) → seen_of F limit d ≡ Err e → walk_of F limit d ≡ record { whole = []; end = e; rest = cut_of e d }
unfolding turn
walk_stop F laws limit d e s = walk_turn F limit laws d ∙ ap (λ (x : Result ℕ End). turn x d (walk_of F limit)) s

pub walk_whole : (F : Family) (laws : Lawful F) (limit : ℕ) (d : List ℕ) (n : ℕ) → seen_of F limit d ≡ Ok n
    → walk_of F limit d
    ≡ record { whole = take n d ∷ (walk_of F limit (drop n d)).whole; end = (walk_of F limit (drop n d)).end; rest = (walk_of F limit (drop n d)).rest }
unfolding turn
walk_whole F laws limit d n s = walk_turn F limit laws d ∙ ap (λ (x : Result ℕ End). turn x d (walk_of F limit)) s

-- what holds where a walk ends, and goes from behind a whole packet to its front, holds of every walk
by_front : (F : Family) (limit : ℕ) (P : List ℕ → Type 0) (d : List ℕ) (s : Result ℕ End) → seen_of F limit d ≡ s
    → ((e : End) → seen_of F limit d ≡ Err e → P d) → ((n : ℕ) → seen_of F limit d ≡ Ok n → P d) → P d
by_front F limit P d (Err e) p stop whole = stop e p
by_front F limit P d (Ok n) p stop whole = whole n p

walk_within : (F : Family) (laws : Lawful F) (limit : ℕ) (P : List ℕ → Type 0) → ((d : List ℕ) (e : End) → seen_of F limit d ≡ Err e → P d)
    → ((d : List ℕ) (n : ℕ) → seen_of F limit d ≡ Ok n → P (drop n d) → P d) → (f : ℕ) (d : List ℕ) → length d < f → P d
walk_within F laws limit P stop whole zero d h = absurd (omega arith)
walk_within F laws limit P stop whole (suc f) d h =
    by_front F limit P d (seen_of F limit d) refl (stop d)
    (λ n e. whole d n e (walk_within F laws limit P stop whole f (drop n d) (omega (arith, shorter F laws limit d n e))))

pub walk_ind : (F : Family) (laws : Lawful F) (limit : ℕ) (P : List ℕ → Type 0) → ((d : List ℕ) (e : End) → seen_of F limit d ≡ Err e → P d)
    → ((d : List ℕ) (n : ℕ) → seen_of F limit d ≡ Ok n → P (drop n d) → P d) → (d : List ℕ) → P d
walk_ind F laws limit P stop whole d = walk_within F laws limit P stop whole (suc (length d)) d (omega arith)

-- whole packets give at most as many octets as there were, and each takes at least those of the least packet
handed_fits : (F : Family) (p : List ℕ) → length (handed F p) ≤ length p
unfolding handed
handed_fits F p = go (F.idle p)
  where
    go : (b : Bool) → length (pick b [] p) ≤ length p
    go true = omega arith
    go false = omega arith

pub walk_fits : (F : Family) (laws : Lawful F) (limit : ℕ) (d : List ℕ) → length (handed_all F (walk_of F limit d).whole) ≤ length d
unfolding handed_all
walk_fits F laws limit =
    walk_ind F laws limit (λ d. length (handed_all F (walk_of F limit d).whole) ≤ length d)
    (λ d e s. rw (walk_stop F laws limit d e s) (omega arith))
    (λ d n s h.
    let t = seen_whole F laws limit d n s in
    rw (walk_whole F laws limit d n s)
    (simp length-append (omega (arith, handed_fits F (take n d), length-take n d, length-drop n d))))

pub walk_count : (F : Family) (laws : Lawful F) (limit : ℕ) (d : List ℕ) → F.least * length (walk_of F limit d).whole ≤ length d
walk_count F laws limit =
    walk_ind F laws limit (λ d. F.least * length (walk_of F limit d).whole ≤ length d)
    (λ d e s. rw (walk_stop F laws limit d e s, mul-zero F.least) (omega arith))
    (λ d n s h.
    let t = seen_whole F laws limit d n s in
    rw (walk_whole F laws limit d n s, mul-suc F.least (length (walk_of F limit (drop n d)).whole)) (omega (arith, length-drop n d)))

-- the octets of a cut packet are the last of the run, and there is at least one
pub record CutRest (F : Family) (limit : ℕ) (d : List ℕ) (k : ℕ) : Type 0 where
  pub last : (walk_of F limit d).rest ≡ drop (length d - k) d
  pub some : 1 ≤ k
  pub there : k ≤ length d

-- one more whole packet: the counts and the output
pub filled_more : (F : Family) (t : Tally) (p : List ℕ) → (tallied F t p).filled ≡ t.filled + length (handed F p)
unfolding tallied handed
filled_more F t p = go (F.idle p)
  where
    go : (b : Bool) → (pick {A = Tally} b (one_idle t) (one_delivered t (length p))).filled ≡ t.filled + length (pick b [] p)
    go true = omega arith
    go false = refl

pub counted_more : (F : Family) (t : Tally) (p : List ℕ) → (tallied F t p).delivered + (tallied F t p).idle ≡ t.delivered + t.idle + 1
unfolding tallied
counted_more F t p = go (F.idle p)
  where
    after : Bool → Tally
    after b = pick b (one_idle t) (one_delivered t (length p))

    go : (b : Bool) → (after b).delivered + (after b).idle ≡ t.delivered + t.idle + 1
    go true = omega arith
    go false = omega arith

pub ended_with_more : (F : Family) (laws : Lawful F) (limit : ℕ) (t : Tally) (d : List ℕ) (n : ℕ) → seen_of F limit d ≡ Ok n
    → ended_with F (tallied F t (take n d)) (walk_of F limit (drop n d)) ≡ ended_with F t (walk_of F limit d)
unfolding ended_with tallied_all
ended_with_more F laws limit t d n s = rw (walk_whole F laws limit d n s)

pub output_more : (F : Family) (laws : Lawful F) (limit : ℕ) (t : Tally) (d out : List ℕ) (n : ℕ) → seen_of F limit d ≡ Ok n → t.filled + length d ≤ length out
    → laid (laid out t.filled (handed F (take n d))) (tallied F t (take n d)).filled (handed_all F (walk_of F limit (drop n d)).whole)
    ≡ laid out t.filled (handed_all F (walk_of F limit d).whole)
unfolding handed_all
output_more F laws limit t d out n s h =
    let l : t.filled + length (handed F (take n d)) ≤ length out = omega (arith, handed_fits F (take n d), length-take n d) in
    rw (filled_more, walk_whole F laws limit d n s)
    (laid_behind out t.filled (t.filled + length (handed F (take n d))) (handed F (take n d)) (handed_all F (walk_of F limit (drop n d)).whole) l refl)

pub ended_with_stop : (F : Family) (laws : Lawful F) (limit : ℕ) (t : Tally) (d : List ℕ) (e : End) → seen_of F limit d ≡ Err e
    → record { tally = t; end = e } ≡ ended_with F t (walk_of F limit d)
unfolding ended_with tallied_all
ended_with_stop F laws limit t d e s = rw (walk_stop F laws limit d e s)

pub output_stop : (F : Family) (laws : Lawful F) (limit : ℕ) (d out : List ℕ) (e : End) (at : ℕ) → seen_of F limit d ≡ Err e
    → out ≡ laid out at (handed_all F (walk_of F limit d).whole)
unfolding handed_all
output_stop F laws limit d out e at s = rw (walk_stop F laws limit d e s) (sym (laid_nil out at))

-- a whole packet that is idle, and one that is not
pub idle_tally : (F : Family) (t : Tally) (p : List ℕ) → F.idle p ≡ true → one_idle t ≡ tallied F t p
unfolding tallied
idle_tally F t p e = rw e

pub idle_output : (F : Family) (out p : List ℕ) (at : ℕ) → F.idle p ≡ true → out ≡ laid out at (handed F p)
unfolding handed
idle_output F out p at e = rw e (sym (laid_nil out at))

pub delivered_tally : (F : Family) (t : Tally) (p : List ℕ) → F.idle p ≡ false → one_delivered t (length p) ≡ tallied F t p
unfolding tallied
delivered_tally F t p e = rw e

pub delivered_output : (F : Family) (out p : List ℕ) (at : ℕ) → F.idle p ≡ false → laid out at p ≡ laid out at (handed F p)
unfolding handed
delivered_output F out p at e = rw e

-- what stands at the front, case by case
module _ (F : Family) (limit : ℕ) (d : List ℕ) where
  pub sees_foreign : F.size d ≡ Foreign → Err End.Foreign ≡ seen_of F limit d
  unfolding seen_of front
  sees_foreign e = rw e

  pub sees_end : F.size d ≡ Wait → length d ≡ 0 → Err End.Exact ≡ seen_of F limit d
  unfolding seen_of front
  sees_end e h = rw (e, h)

  pub sees_few : F.size d ≡ Wait → (length d ≡ 0 → ⊥) → Err (End.Cut (length d)) ≡ seen_of F limit d
  unfolding seen_of front
  sees_few e h = rw (e, ne_eqb (length d) 0 h)

  module _ (n : ℕ) (e : F.size d ≡ Total n) where
    pub sees_oversize : limit < n → Err (End.Oversize (n - length d)) ≡ seen_of F limit d
    unfolding seen_of front
    sees_oversize h = rw (e, lt-ltb limit n h)

    pub sees_packet : n ≤ limit → n ≤ length d → Ok n ≡ seen_of F limit d
    unfolding seen_of front
    sees_packet h k = rw (e, le-ltb limit n h, le-leb n (length d) k)

    pub sees_cut : n ≤ limit → length d < n → Err (End.Cut (length d)) ≡ seen_of F limit d
    unfolding seen_of front
    sees_cut h k = rw (e, le-ltb limit n h, lt-leb n (length d) k)

-- the whole of what is left of the field is looked at
pub looked : (F : Family) (limit : ℕ) (field : List ℕ) (at : ℕ) (s : Result ℕ End) → s ≡ seen_of F limit (take (length field - at) (drop at field))
    → seen_of F limit (drop at field) ≡ s
looked F limit field at s e =
    ap (seen_of F limit) (sym (take_all (length field - at) (drop at field) (simp length-drop (omega arith)))) ∙ sym e

-- what every turn of the walk keeps: at place `at`, with the counts t and the output out, the walk comes to what it came to from the start
pub record Kept (F : Family) (limit : ℕ) (field : List ℕ) (from : ℕ) (out₀ : List ℕ) (t₀ : Tally) (out : List ℕ) (t : Tally) (at : ℕ) : Type 0 where
  pub inside : at ≤ length field
  pub length_kept : length out ≡ length out₀
  pub same : ended_with F t (walk_of F limit (drop at field)) ≡ ended_with F t₀ (walk_of F limit (drop from field))
  pub output : laid out t.filled (handed_all F (walk_of F limit (drop at field)).whole)
      ≡ laid out₀ t₀.filled (handed_all F (walk_of F limit (drop from field)).whole)
  pub room : t.filled + (length field - at) ≤ length out₀
  pub counts : t.delivered + t.idle + (length field - at) ≤ length out₀

module _ (F : Family) (laws : Lawful F) (limit : ℕ) (field : List ℕ) (from : ℕ) (out₀ : List ℕ) (t₀ : Tally) where
  pub kept_start : from ≤ length field → t₀.filled + (length field - from) ≤ length out₀
      → t₀.delivered + t₀.idle + (length field - from) ≤ length out₀ → Kept F limit field from out₀ t₀ out₀ t₀ from
  kept_start h r c = record { inside = h; length_kept = refl; same = refl; output = refl; room = r; counts = c }

  module _ (out : List ℕ) (t : Tally) (at : ℕ) (k : Kept F limit field from out₀ t₀ out t at) where
    -- a whole packet was handed out
    pub kept_more : (n : ℕ) (out' : List ℕ) (t' : Tally) → seen_of F limit (drop at field) ≡ Ok n
        → t' ≡ tallied F t (take (at + n - at) (drop at field)) → out' ≡ laid out t.filled (handed F (take (at + n - at) (drop at field)))
        → Kept F limit field from out₀ t₀ out' t' (at + n)
    kept_more n out' t' s et eo =
        let d : List ℕ = drop at field in
        let st = seen_whole F laws limit d n s in
        let ld = length-drop at field in
        let en : at + n - at ≡ n = omega arith in
        let p : take (at + n - at) d ≡ take n d = ap (λ (m : ℕ). take m d) en in
        let et' : t' ≡ tallied F t (take n d) = et ∙ ap (tallied F t) p in
        let eo' : out' ≡ laid out t.filled (handed F (take n d)) = eo ∙ ap (λ (q : List ℕ). laid out t.filled (handed F q)) p in
        let on : drop (at + n) field ≡ drop n d = sym (drop-drop n at field) in
        let room : t.filled + length d ≤ length out = omega (arith, k.length_kept, k.room, k.inside) in
        let lh : t.filled + length (handed F (take n d)) ≤ length out = omega (arith, handed_fits F (take n d), length-take n d) in
        let lf : t'.filled ≡ t.filled + length (handed F (take n d)) = ap (λ (x : Tally). x.filled) et' ∙ filled_more F t (take n d) in
        let lc : t'.delivered + t'.idle ≡ t.delivered + t.idle + 1 =
        ap (λ (x : Tally). x.delivered + x.idle) et' ∙ counted_more F t (take n d) in
        record {
          inside = omega (arith, st.there, k.inside);
          length_kept = ap length eo' ∙ length_laid out t.filled (handed F (take n d)) lh ∙ k.length_kept;
          same = rw (on, et') (ended_with_more F laws limit t d n s ∙ k.same);
          output = rw (on, eo', et') (output_more F laws limit t d out n s room ∙ k.output);
          room = omega (arith, handed_fits F (take n d), length-take n d, st.there, k.room, k.inside);
          counts = omega (arith, st.there, st.some, k.counts, k.inside);
        }

    -- the walk ended
    pub kept_end : (e : End) → seen_of F limit (drop at field) ≡ Err e
        → (record { tally = t; end = e } ≡ ended_with F t₀ (walk_of F limit (drop from field)))
        × (out ≡ laid out₀ t₀.filled (handed_all F (walk_of F limit (drop from field)).whole))
    kept_end e s = (
      ended_with_stop F laws limit t (drop at field) e s ∙ k.same,
      output_stop F laws limit (drop at field) out e t.filled s ∙ k.output,
    )
