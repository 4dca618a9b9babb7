-- The walk over octets that begin at a packet's start: whole packets, and then nothing, or the beginning of one more.
-- Assumes nothing.
use mathlib.Core.Path.{◌≡◌, refl, ◌∙◌, sym, ap, ap₂}
use mathlib.Core.List.{List, [], ◌∷◌, ◌++◌, append_assoc, append-nil}
use mathlib.Core.Logic.{◌⊎◌, inl, inr}
use Prim.Native.Nat.{ℕ, ◌-◌, ◌≤◌, ◌<◌}
use native.Mathlib.Decide.{dec_lt}
use native.Mathlib.Omega.{arith}
use lib.ListN.{length, length-append}
use lib.Seq.{take-append_seam, drop-append_seam}
use Rattle.packet.specs.Family.{Family, Lawful, Whole, AllWhole}
use Rattle.packet.specs.Theorems.{end_to_end}
use Rattle.packet.specs.declared.source.Size.{Size}
use Rattle.packet.specs.declared.source.Size.TheVariants.{Wait, Foreign, Total}
use Rattle.channel.specs.declared.state.State.{State}
use Rattle.channel.specs.declared.state.State.TheVariants.{Gathering, Skipping}
use Rattle.walk.specs.declared.walking.End.{End}
use Rattle.walk.specs.Walk.{Done, ended, ended_by, Walked, cut_of, walk_of}
use Rattle.walk.proofs.WalkLaws.{walk_stop, walk_whole, sees_end, sees_few, sees_oversize, sees_packet, sees_cut}

-- the beginning of a packet tells nothing yet, or the packet's length
pub begin_tells : (F : Family) (laws : Lawful F) (a b : List ℕ) → Whole F (a ++ b) → (F.size a ≡ Wait) ⊎ (F.size a ≡ Total (length (a ++ b)))
begin_tells F laws a b w = go (F.size a) refl
  where
    go : (s : Size) → F.size a ≡ s → (F.size a ≡ Wait) ⊎ (F.size a ≡ Total (length (a ++ b)))
    go Wait e = inl e
    go Foreign e = absurd (let f = laws.foreign_stays a b e in let z : ◌≡◌ {A = ℕ} 0 1 = cc in omega arith)
    go (Total n) e = let t = laws.total_stays a b n e in let z : n ≡ length (a ++ b) = cc in inr (e ∙ ap Total z)

-- packets of at most so many octets
abbrev pub AllFit : ℕ → List (List ℕ) → Type 0
AllFit limit [] = Unit {0}
AllFit limit (p ∷ ps) = (length p ≤ limit) × AllFit limit ps

pub fit_of : (limit : ℕ) (ps : List (List ℕ)) → length (end_to_end ps) ≤ limit → AllFit limit ps
fit_of limit [] h = tt
fit_of limit (p ∷ ps) h =
    (omega (arith, length-append p (end_to_end ps)), fit_of limit ps (omega (arith, length-append p (end_to_end ps))))

walk_one : (F : Family) (laws : Lawful F) (limit : ℕ) (p d : List ℕ) → Whole F p → length p ≤ limit
    → walk_of F limit (p ++ d)
    ≡ record { whole = p ∷ (walk_of F limit d).whole; end = (walk_of F limit d).end; rest = (walk_of F limit d).rest }
walk_one F laws limit p d w h =
    let t : F.size (p ++ d) ≡ Total (length p) = laws.total_stays p d (length p) w in
    let s = sees_packet F limit (p ++ d) (length p) t h (omega (arith, length-append p d)) in
    walk_whole F laws limit (p ++ d) (length p) (sym s)
    ∙ ap₂ (λ (a b : List ℕ). record { whole = a ∷ (walk_of F limit b).whole; end = (walk_of F limit b).end; rest = (walk_of F limit b).rest })
    (take-append_seam p d) (drop-append_seam p d)

-- whole packets up to where the walk ends
walk_until : (F : Family) (laws : Lawful F) (limit : ℕ) (ws : List (List ℕ)) (d : List ℕ) (e : End) → AllWhole F ws → AllFit limit ws
    → walk_of F limit d ≡ record { whole = []; end = e; rest = cut_of e d }
    → walk_of F limit (end_to_end ws ++ d) ≡ record { whole = ws; end = e; rest = cut_of e d }
walk_until F laws limit [] d e w f s = s
walk_until F laws limit (p ∷ ws) d e w f s =
    ap (walk_of F limit) (append_assoc p (end_to_end ws) d)
    ∙ walk_one F laws limit p (end_to_end ws ++ d) w.0 f.0
    ∙ ap (λ (x : Walked). record { whole = p ∷ x.whole; end = x.end; rest = x.rest }) (walk_until F laws limit ws d e w.1 f.1 s)

-- what came of a field: these whole packets, nothing foreign and no disagreement
pub record Ran (d : Done) (ws : List (List ℕ)) : Type 0 where
  pub whole : d.whole ≡ ws
  pub none_foreign : d.foreign ≡ 0
  pub none_disagrees : d.disagreement ≡ 0

-- a packet of which `begun` came and `left` is to come is held, or skipped if it is too long
pub data Standing (F : Family) (limit : ℕ) (s : State) (held begun left : List ℕ) : Type 0 where
  gathering : s ≡ Gathering (length begun) → held ≡ begun → (length (begun ++ left) ≤ limit) ⊎ (F.size begun ≡ Wait)
      → Standing F limit s held begun left
  skipping : s ≡ Skipping (length left) → limit < length (begun ++ left) → Standing F limit s held begun left

module _ (F : Family) (laws : Lawful F) (limit : ℕ) (ws : List (List ℕ)) (w : AllWhole F ws) (f : AllFit limit ws) where
  walk_to : (d : List ℕ) (e : End) → walk_of F limit d ≡ record { whole = []; end = e; rest = cut_of e d }
      → ended (walk_of F limit (end_to_end ws ++ d)) ≡ ended_by e ws (cut_of e d)
  walk_to d e s = ap (λ (x : Walked). ended x) (walk_until F laws limit ws d e w f s)

  -- an exact end
  walk_exact : ended (walk_of F limit (end_to_end ws)) ≡ ended_by End.Exact ws []
  unfolding cut_of
  walk_exact = ap (λ (l : List ℕ). ended (walk_of F limit l)) (sym (append-nil (end_to_end ws))) ∙ walk_to [] End.Exact (walk_stop F laws limit [] End.Exact (sym (sees_end F limit [] laws.empty_waits refl)))

  pub exact_ran : Ran (ended (walk_of F limit (end_to_end ws))) ws
  unfolding ended_by
  exact_ran = rw walk_exact (record { whole = refl; none_foreign = refl; none_disagrees = refl })

  pub exact_state : (ended (walk_of F limit (end_to_end ws))).state ≡ Gathering 0
  unfolding ended_by
  exact_state = rw walk_exact

  -- the beginning of a packet
  module _ (begun left : List ℕ) (p : Whole F (begun ++ left)) (a : 1 ≤ length begun) (b : 1 ≤ length left) where
    cut_done : walk_of F limit begun ≡ record { whole = []; end = End.Cut (length begun); rest = begun }
        → (length (begun ++ left) ≤ limit) ⊎ (F.size begun ≡ Wait)
        → let d : Done = ended (walk_of F limit (end_to_end ws ++ begun)) in Ran d ws × Standing F limit d.state d.held begun left
    unfolding ended_by cut_of
    cut_done s o =
        rw (walk_to begun (End.Cut (length begun)) s)
        (record { whole = refl; none_foreign = refl; none_disagrees = refl }, gathering refl refl o)

    pub midst_done : let d : Done = ended (walk_of F limit (end_to_end ws ++ begun)) in Ran d ws × Standing F limit d.state d.held begun left
    unfolding ended_by cut_of
    midst_done = go (begin_tells F laws begun left p) (dec_lt limit (length (begun ++ left)))
      where
        go : (F.size begun ≡ Wait) ⊎ (F.size begun ≡ Total (length (begun ++ left))) → Dec (limit < length (begun ++ left))
            → let d : Done = ended (walk_of F limit (end_to_end ws ++ begun)) in Ran d ws × Standing F limit d.state d.held begun left
        go (inl e) o = cut_done (walk_stop F laws limit begun (End.Cut (length begun)) (sym (sees_few F limit begun e (λ z. omega arith)))) (inr e)
        go (inr e) (no n) =
            cut_done
            (walk_stop F laws limit begun (End.Cut (length begun))
            (sym (sees_cut F limit begun (length (begun ++ left)) e (omega arith) (omega (arith, length-append begun left)))))
            (inl (omega arith))
        go (inr e) (yes m) =
            let l : length (begun ++ left) - length begun ≡ length left = omega (arith, length-append begun left) in
            let o : End = End.Oversize (length (begun ++ left) - length begun) in
            rw (walk_to begun o (walk_stop F laws limit begun o (sym (sees_oversize F limit begun (length (begun ++ left)) e m))), l)
            (record { whole = refl; none_foreign = refl; none_disagrees = refl }, skipping refl m)
