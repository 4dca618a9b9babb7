-- Every packet of a walk, and of what an accepted frame does, is whole by its own header.
-- Assumes nothing.
use mathlib.Core.Path.{◌≡◌, ◌∙◌, sym, ap}
use mathlib.Core.Bool.{Bool, true, false}
use mathlib.Core.List.{List}
use Prim.Native.Nat.{ℕ, ◌≤◌}
use native.Mathlib.Omega.{arith}
use lib.ListN.{length, take, drop, take-append-drop}
use lib.Seq.{length-take-le}
use Rattle.octets.specs.Pick.{pick}
use Rattle.packet.specs.Family.{Family, Lawful, Whole, AllWhole}
use Rattle.packet.specs.declared.source.Size.TheVariants.{Total}
use Rattle.frame.specs.declared.header.Header.{Header}
use Rattle.channel.specs.declared.state.Channel.{Channel}
use Rattle.channel.specs.declared.state.State.{State}
use Rattle.channel.specs.declared.state.State.TheVariants.{Hunting, Gathering, Skipping}
use Rattle.walk.specs.Steps.{broke, disagreed, hunted, gathered, skipped, resumed, steps_of}
use Rattle.walk.specs.Walk.{walk_of, Done, only, ended_by, ended}
use Rattle.walk.specs.declared.walking.End.{End}
use Rattle.walk.proofs.WalkLaws.{walk_ind, walk_stop, walk_whole, seen_whole}

-- what stands whole at the front of d, cut out, is a whole packet
cut_whole : (F : Family) (laws : Lawful F) (d : List ℕ) (n : ℕ) → F.size d ≡ Total n → n ≤ length d → Whole F (take n d)
cut_whole F laws d n e k =
    laws.last_tells (take n d) (drop n d) n (ap F.size (take-append-drop n d) ∙ e) (omega (arith, length-take-le n d k))
    ∙ ap Total (sym (length-take-le n d k))

walk_all : (F : Family) (laws : Lawful F) (limit : ℕ) (d : List ℕ) → AllWhole F (walk_of F limit d).whole
walk_all F laws limit =
    walk_ind F laws limit (λ d. AllWhole F (walk_of F limit d).whole)
    (λ d e s. rw (walk_stop F laws limit d e s) tt)
    (λ d n s h. let t = seen_whole F laws limit d n s in rw (walk_whole F laws limit d n s) (cut_whole F laws d n t.told t.there, h))

pub record InOne (F : Family) (x : Done) : Type 0 where
  pub all_whole : AllWhole F x.whole

ended_all : (F : Family) (e : End) (whole : List (List ℕ)) (rest : List ℕ) → AllWhole F whole → InOne F (ended_by e whole rest)
unfolding ended_by
ended_all F End.Foreign whole rest h = record { all_whole = h }
ended_all F End.Exact whole rest h = record { all_whole = h }
ended_all F (End.Cut k) whole rest h = record { all_whole = h }
ended_all F (End.Oversize r) whole rest h = record { all_whole = h }

module _ (F : Family) where
  pick_all : (b : Bool) {x y : Done} → InOne F x → InOne F y → InOne F (pick b x y)
  pick_all true h k = h
  pick_all false h k = k

  none : (s : State) → InOne F (only s)
  none s = record { all_whole = tt }

  broke_all : (s : State) (x : Done) → InOne F x → InOne F (broke s x)
  broke_all s x h = record { all_whole = h.all_whole }

  disagreed_all : (s : State) (x : Done) → InOne F x → InOne F (disagreed s x)
  disagreed_all s x h = record { all_whole = h.all_whole }

module _ (F : Family) (laws : Lawful F) (limit : ℕ) where
  pub from_walk : (d : List ℕ) → InOne F (ended (walk_of F limit d))
  from_walk d = ended_all F _ _ _ (walk_all F laws limit d)

  module _ (field : List ℕ) where
    hunted_all : (pointer : ℕ) → InOne F (hunted F limit field pointer)
    unfolding hunted
    hunted_all pointer = search (pick_all, none, from_walk)

    resumed_all : (part : List ℕ) (pointer : ℕ) (s : State) → InOne F (resumed F limit part field pointer s)
    unfolding resumed gathered skipped
    resumed_all part pointer Hunting = hunted_all pointer
    resumed_all part pointer (Gathering k) = search (pick_all, disagreed_all, from_walk, hunted_all)
    resumed_all part pointer (Skipping r) = search (pick_all, disagreed_all, from_walk, none, hunted_all)

    pub steps_all : (part : List ℕ) (h : Header) (c : Channel) → InOne F (steps_of F limit part field h c)
    unfolding steps_of
    steps_all part h c = search (pick_all, broke_all, none, hunted_all, resumed_all)
