-- by what the held octets and the field tell.
use mathlib.Core.Path.{◌≡◌, ◌∙◌, sym}
use mathlib.Core.Bool.{true}
use mathlib.Core.List.{List, ◌++◌}
use Prim.Native.Nat.{ℕ, ◌+◌, ◌-◌, ◌≤◌, ◌<◌}
use native.Mathlib.Omega.{arith}
use lib.ListN.{length, take}
use Rattle.channel.specs.Rules.{state_follows}
use Rattle.channel.specs.declared.state.State.TheVariants.{Gathering}
use Rattle.frame.specs.SetUp.{most_field, most_length}
use Rattle.packet.specs.Size.{size_of, source}
use Rattle.packet.specs.declared.source.Size.{Size}
use Rattle.packet.specs.declared.source.Size.TheVariants.{Total}
use Rattle.packet.proofs.Laws.{source_lawful}
use Rattle.walk.proofs.CutLaws.{cut_fits}
use Rattle.walk.proofs.DoneLaws.{did_as, did_nothing, did_hold, ended_foreign, ended_oversize}
use Rattle.walk.proofs.GatherLaws.{did_gather, gather_room, gathers, held_there, length_run, not_too_long, too_long, under_way, waits_room}
use Rattle.walk.proofs.WalkLaws.{sees_few, sees_cut}
use Rattle.gathering.proofs.gather.Goals as goal

-- the k held octets are in the part, and the field follows them
record Held (part field : List ℕ) (k : ℕ) : Type 0 where
  there : k ≤ length part
  seam : k ≡ length (take k part)
  run : length (take k part ++ field) ≡ k + length field

held : (limit : ℕ) (part field : List ℕ) (k : ℕ) → length part ≡ limit → state_follows source limit part (Gathering k) ≡ true → Held part field k
held limit part field k e f =
    let h = held_there limit part k e f in
    record { there = h.0; seam = h.1; run = length_run part field k h.0 }

-- what is known of a total that they tell
record Told (limit : ℕ) (part field : List ℕ) (k n : ℕ) : Type 0 where
  told : size_of (take k part ++ field) ≡ Total n
  least : 7 ≤ n
  above : k < n
  beyond : limit < n → k + length field < n

total : (limit : ℕ) (part field : List ℕ) (k n : ℕ) (size : Size) → length part ≡ limit → most_length ≤ limit → length field ≤ most_field
    → state_follows source limit part (Gathering k) ≡ true → size ≡ size_of (take k part ++ field) → size ≡ Total n → Told limit part field k n
total limit part field k n size lp wide few f e is =
    let t : size_of (take k part ++ field) ≡ Total n = sym e ∙ is in
    let u = under_way limit part field k n lp wide few f t in
    record { told = t; least = source_lawful.total_least (take k part ++ field) n t; above = u.0; beyond = u.1 }

pub overflow_add-there : goal.overflow_add-there
overflow_add-there c = omega (arith, (gathers _ _ _ c.requires.held.0).0, c.requires.room)

pub hold_more-requires : goal.hold_more-requires
hold_more-requires c = let a = c.args in
    let h = held _ _ a.field.octets.now _ c.requires.room.0 c.requires.held.0 in
    omega (arith, waits_room a.part.now a.field.octets.now a.k h.there (sym c.requires.held.1 ∙ c.in-Wait.is), c.requires.room)

pub overflow_sub-total : goal.overflow_sub-total
overflow_sub-total c = let p = c.requires in
    let t = total _ _ _ _ _ _ p.room.0 p.room.1 p.room.4 p.held.0 p.held.1 c.in-Total.is in
    omega (arith, t.beyond (too_long _ _ _ t.told c.fits_within.ensures c.if-not-fits_within.true))

pub returns-then-not-fits_within : goal.returns-then-not-fits_within
returns-then-not-fits_within c = let p = c.requires in
    let h = held _ _ c.args.field.octets.now _ p.room.0 p.held.0 in
    let t = total _ _ _ _ _ _ p.room.0 p.room.1 p.room.4 p.held.0 p.held.1 c.in-Total.is in
    did_as (ended_oversize source source_lawful _ _ _ _ t.told (too_long _ _ _ t.told c.fits_within.ensures c.if-not-fits_within.true) h.run)
    (did_nothing source _ 0 1 _ _ _ _ c.none_yet-then-not-fits_within.ensures c.plain-then-not-fits_within.ensures)

pub hold_more-requires-then-there-total : goal.hold_more-requires-then-there-total
hold_more-requires-then-there-total c = let p = c.requires in
    let t = total _ _ _ _ _ _ p.room.0 p.room.1 p.room.4 p.held.0 p.held.1 c.in-Total.is in
    omega (arith, not_too_long _ _ _ t.told c.fits_within.ensures c.if-not-fits_within.false, p.room)

pub returns-then-there-total : goal.returns-then-there-total
returns-then-there-total c = let p = c.requires in
    let h = held _ _ c.args.field.octets.now _ p.room.0 p.held.0 in
    let t = total _ _ _ _ _ _ p.room.0 p.room.1 p.room.4 p.held.0 p.held.1 c.in-Total.is in
    let e = c.hold_more-then-there-total.ensures in
    did_hold source source_lawful _ _ _ _ _ _ _
    (sees_cut source _ _ _ t.told (not_too_long _ _ _ t.told c.fits_within.ensures c.if-not-fits_within.false) (omega (arith, h.run, c.if-there-total.true)))
    h.run e.reports e.holds

pub slice_bounds-finish-end : goal.slice_bounds-finish-end
slice_bounds-finish-end c = (held_there _ _ _ c.requires.room.0 c.requires.held.0).0

pub slice_bounds-finish-end-in-Total : goal.slice_bounds-finish-end-in-Total
slice_bounds-finish-end-in-Total c = (held_there _ _ _ c.requires.room.0 c.requires.held.0).1

pub finish-t-requires : goal.finish-t-requires
finish-t-requires c = let p = c.requires in
    let h = held _ _ c.args.field.octets.now _ p.room.0 p.held.0 in
    let t = total _ _ _ _ _ _ p.room.0 p.room.1 p.room.4 p.held.0 p.held.1 c.in-Total.is in
    omega (arith, h, t, p.room)

pub overflow_sub-total-in-Total : goal.overflow_sub-total-in-Total
overflow_sub-total-in-Total c = let p = c.requires in
    let t = total _ _ _ _ _ _ p.room.0 p.room.1 p.room.4 p.held.0 p.held.1 c.in-Total.is in
    omega (arith, t.above)

pub walk-e-requires : goal.walk-e-requires
walk-e-requires c = let p = c.requires in
    let a = c.args in
    let h = held _ _ a.field.octets.now _ p.room.0 p.held.0 in
    let t = total _ _ _ _ _ _ p.room.0 p.room.1 p.room.4 p.held.0 p.held.1 c.in-Total.is in
    gather_room (take a.k a.part.now) a.field.octets.now a.k c.in-Total.total h.seam (omega (arith, t.above)) a.field.limit c.finish-t.new.out _
    c.if-there-total.false (omega (arith, p.room)) (omega (arith, h.there, p.room, c.finish-t.auto)) c.finish-t.ensures.tally

pub settle-requires : goal.settle-requires
settle-requires c = let a = c.args in
    cut_fits source source_lawful a.field.limit a.field.octets.now (c.in-Total.total - a.k) (omega (arith, c.if-there-total.false)) _
    (omega (arith, c.requires.room)) _ _ c.walk-e.ensures.answer

pub returns-in-Foreign : goal.returns-in-Foreign
returns-in-Foreign c =
    did_as (ended_foreign source source_lawful _ _ (sym c.requires.held.1 ∙ c.in-Foreign.is)) (did_nothing source _ 1 0 _ _ _ _ c.none_yet.ensures c.plain.ensures)

pub returns-in-Wait : goal.returns-in-Wait
returns-in-Wait c = let p = c.requires in
    let h = held _ _ c.args.field.octets.now _ p.room.0 p.held.0 in
    let e = c.hold_more.ensures in
    did_hold source source_lawful _ _ _ _ _ _ _ (sees_few source _ _ (sym p.held.1 ∙ c.in-Wait.is) (λ z. omega (arith, h.run, p.room))) h.run e.reports e.holds

pub returns-else-there-total : goal.returns-else-there-total
returns-else-there-total c = let p = c.requires in
    let a = c.args in
    let h = held _ _ a.field.octets.now _ p.room.0 p.held.0 in
    let t = total _ _ _ _ _ _ p.room.0 p.room.1 p.room.4 p.held.0 p.held.1 c.in-Total.is in
    let s = c.settle.ensures in
    did_gather (take a.k a.part.now) a.field.octets.now a.k c.in-Total.total h.seam (omega (arith, t.above)) _ _ _ _ _ _ _ _ _
    t.told (not_too_long _ _ _ t.told c.fits_within.ensures c.if-not-fits_within.false) c.if-there-total.false (omega (arith, h.there, p.room))
    c.finish-t.ensures.tally c.finish-t.ensures.output c.walk-e.ensures.answer c.walk-e.ensures.output s.reports s.holds
