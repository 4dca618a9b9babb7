-- A source packet under way: its held octets and the field in one run, where it ends, and what it comes to.
-- Assumes nothing.
use mathlib.Core.Path.{◌≡◌, refl, ◌∙◌, sym, ap}
use mathlib.Core.Bool.{Bool, true, false}
use mathlib.Core.List.{List, ◌++◌}
use Prim.Native.Nat.{ℕ, ◌+◌, ◌-◌, ◌≤◌, ◌<◌}
use native.Mathlib.Omega.{arith}
use lib.ListN.{length, take, drop, length-append, length-take}
use lib.Seq.{take-append-add, drop-append-add}
use borrow.Author.Tests.{ltb-true, leb-true, leb-false}
use Rattle.octets.specs.Laid.{laid}
use Rattle.octets.proofs.Runs.{laid_behind}
use Rattle.octets.specs.Pick.{pick}
use Rattle.packet.specs.Size.{packet_fits, size_of, idle_of, source}
use Rattle.packet.specs.declared.source.Size.{Size}
use Rattle.frame.specs.SetUp.{most_field, most_length}
use Rattle.packet.specs.declared.source.Size.TheVariants.{Wait, Foreign, Total}
use Rattle.packet.proofs.Laws.{source_lawful, fits_by_limit, idle_told}
use Rattle.channel.specs.Rules.{judged, state_follows}
use Rattle.channel.specs.declared.state.State.TheVariants.{Gathering}
use Rattle.channel.proofs.RuleLaws.{both, gathers_told}
use Rattle.walk.specs.declared.stepping.Course.{Course}
use Rattle.walk.specs.declared.walking.Ended.{Ended}
use Rattle.std.specs.Prelude.{Ok}
use Rattle.walk.specs.declared.walking.Tally.{Tally}
use Rattle.walk.specs.Inside.{course_by, held_by}
use Rattle.walk.specs.Steps.{Did}
use Rattle.walk.specs.Walk.{seen_of, walk_of, handed, handed_all, no_tally, one_idle, one_delivered, tallied, ended_with, ended}
use Rattle.walk.proofs.WalkLaws.{walk_whole, sees_packet, counted_more, ended_with_more, output_more, idle_tally, idle_output, delivered_tally, delivered_output}
use Rattle.walk.proofs.DoneLaws.{did_walk}

-- the run of k held octets and the field
pub length_run : (part field : List ℕ) (k : ℕ) → k ≤ length part → length (take k part ++ field) ≡ k + length field
length_run part field k h = omega (arith, length-append (take k part) field, length-take k part)

-- the field laid behind k held octets is both laid at the start
pub laid_more : (part field : List ℕ) (k : ℕ) → k ≤ length part → laid part k field ≡ laid part 0 (take k part ++ field)
unfolding laid
laid_more part field k h =
    let l : 0 + length (take k part ++ field) ≡ k + length field = omega (arith, length_run part field k h) in
    rw l

-- one packet fills at most its own length
tally_fits : (p : List ℕ) → (tallied source no_tally p).filled ≤ length p
unfolding tallied
tally_fits p = go (idle_of p)
  where
    go : (b : Bool) → (pick {A = Tally} b (one_idle no_tally) (one_delivered no_tally (length p))).filled ≤ length p
    go true = omega arith
    go false = omega arith

-- a packet of n octets that begins with the k held ones and ends in the field
module _ (held field : List ℕ) (k n : ℕ) (e : k ≡ length held) (above : k ≤ n) where
  seam : length held + (n - k) ≡ n
  seam = omega arith

  across_take : take n (held ++ field) ≡ held ++ take (n - k) field
  across_take = ap (λ (m : ℕ). take m (held ++ field)) (sym seam) ∙ take-append-add held field (n - k)

  across_drop : drop n (held ++ field) ≡ drop (n - k) field
  across_drop = ap (λ (m : ℕ). drop m (held ++ field)) (sym seam) ∙ drop-append-add held field (n - k)

  -- the walk over the field that goes on behind it has room
  pub gather_room : (limit : ℕ) (out : List ℕ) (t : Tally) → n ≤ k + length field → length field ≤ limit → k + length field < length out
      → t ≡ tallied source no_tally (take n (held ++ field))
      → (n - k ≤ length field) × (length field ≤ limit) × (t.filled + (length field - (n - k)) ≤ length out)
      × (t.delivered + t.idle + (length field - (n - k)) ≤ length out)
  gather_room limit out t there fits room et =
      let p = take n (held ++ field) in
      let l = length-take n (held ++ field) in
      let f = tally_fits p in
      let o = counted_more source no_tally p in
      rw et (omega arith)

  -- it is finished, and the walk over the field went on behind it
  pub did_gather : (limit : ℕ) (course : Course) (part part' out out₁ out' : List ℕ) (t : Tally) (end : Ended)
      → size_of (held ++ field) ≡ Total n → n ≤ limit → n ≤ k + length field → k + length field ≤ length out
      → t ≡ tallied source no_tally (take n (held ++ field)) → out₁ ≡ laid out 0 (handed source (take n (held ++ field)))
      → end ≡ ended_with source t (walk_of source limit (drop (n - k) field))
      → out' ≡ laid out₁ t.filled (handed_all source (walk_of source limit (drop (n - k) field)).whole)
      → course ≡ course_by end.tally end.end → part' ≡ laid part 0 (held_by end.end field)
      → Did source (ended (walk_of source limit (held ++ field))) course part part' out out'
  did_gather limit course part part' out out₁ out' t end told within there room et e₁ answer output reports holds =
      let d = held ++ field in
      let l : length d ≡ k + length field = omega (arith, length-append held field) in
      let s : seen_of source limit d ≡ Ok n = sym (sees_packet source limit d n told within (omega arith)) in
      let w = walk_whole source source_lawful limit d n s in
      did_walk source source_lawful limit field (n - k) (omega arith) course part part' out out' end d
      (rw (w, across_drop))
      (rw (w, across_drop))
      no_tally
      refl
      (answer ∙ rw (et, ← across_drop) (ended_with_more source source_lawful limit no_tally d n s))
      (output ∙ rw (et, e₁, ← across_drop) (output_more source source_lawful limit no_tally d out n s (omega arith)))
      reports
      holds

-- such a packet, idle or delivered
module _ (held field out : List ℕ) (n : ℕ) (least : 7 ≤ n) where
  pub finish_idle : idle_of (held ++ field) ≡ true
      → (record { delivered = 0; idle = 1; filled = 0 } ≡ tallied source no_tally (take n (held ++ field)))
      × (out ≡ laid out 0 (handed source (take n (held ++ field))))
  finish_idle i =
      let p = take n (held ++ field) in
      let j : idle_of p ≡ true = idle_told (held ++ field) n (omega arith) ∙ i in
      (idle_tally source no_tally p j, idle_output source out p 0 j)

  pub finish_delivered : length held ≤ n → n ≤ length held + length field → n ≤ length out → idle_of (held ++ field) ≡ false
      → (out₁ out₂ : List ℕ) → out₁ ≡ laid out 0 held → out₂ ≡ laid out₁ (length held) (take (n - length held) field)
      → (record { delivered = 1; idle = 0; filled = n } ≡ tallied source no_tally (take n (held ++ field)))
      × (out₂ ≡ laid out 0 (handed source (take n (held ++ field))))
  finish_delivered h there room i out₁ out₂ e₁ e₂ =
      let p = take n (held ++ field) in
      let r = take (n - length held) field in
      let j : idle_of p ≡ false = idle_told (held ++ field) n (omega arith) ∙ i in
      let l : n ≡ 0 + length p = omega (arith, length-take n (held ++ field), length-append held field) in (
        ap (λ (m : ℕ). record { delivered = 1; idle = 0; filled = m }) l ∙ delivered_tally source no_tally p j,
        e₂ ∙ ap (λ (o : List ℕ). laid o (length held) r) e₁ ∙ laid_behind out 0 (length held) held r (omega arith) (omega arith)
            ∙ ap (laid out 0) (sym (across_take held field (length held) n refl h)) ∙ delivered_output source out p 0 j,
      )

-- fewer than six octets wait
pub waits_room : (part field : List ℕ) (k : ℕ) → k ≤ length part → size_of (take k part ++ field) ≡ Wait → k + length field < 6
waits_room part field k h e = omega (arith, source_lawful.header_tells (take k part ++ field) e, length_run part field k h)

-- what the test of the limit says of a total that octets tell
module _ (limit : ℕ) (p : List ℕ) (n : ℕ) {b : Bool} (t : size_of p ≡ Total n) (e : b ≡ packet_fits limit n) where
  pub too_long : b ≡ false → limit < n
  too_long f = leb-false n limit (sym (fits_by_limit limit p n t) ∙ sym e ∙ f)

  pub not_too_long : b ≡ true → n ≤ limit
  not_too_long f = leb-true n limit (sym (fits_by_limit limit p n t) ∙ sym e ∙ f)

-- what the rules say of k held octets
pub gathers : (limit : ℕ) (part : List ℕ) (k : ℕ) → state_follows source limit part (Gathering k) ≡ true
    → (k < limit) × (judged limit k (size_of (take k part)) ≡ true)
gathers limit part k e = let t = gathers_told source limit part k e in (t.0, t.2)

pub held_there : (limit : ℕ) (part : List ℕ) (k : ℕ) → length part ≡ limit → state_follows source limit part (Gathering k) ≡ true
    → (k ≤ length part) × (k ≡ length (take k part))
held_there limit part k e follows =
    let g = (gathers limit part k follows).0 in
    (omega arith, omega (arith, length-take k part))

-- a total that the held octets and the field tell lies above k, and above the limit only if it is not all there
pub under_way : (limit : ℕ) (part field : List ℕ) (k n : ℕ) → length part ≡ limit → most_length ≤ limit → length field ≤ most_field
    → state_follows source limit part (Gathering k) ≡ true → size_of (take k part ++ field) ≡ Total n → (k < n) × (limit < n → k + length field < n)
unfolding judged
under_way limit part field k n lp wide few follows e = go (size_of (take k part)) refl (gathers limit part k follows).1
  where
    go : (s : Size) → size_of (take k part) ≡ s → judged limit k s ≡ true → (k < n) × (limit < n → k + length field < n)
    go Wait p j =
        let w = source_lawful.header_tells (take k part) p in
        let l = held_there limit part k lp follows in
        let t = source_lawful.total_least (take k part ++ field) n e in
        (omega arith, λ h. omega arith)
    go Foreign p j = absurd (let z : ◌≡◌ {A = ℕ} 0 1 = cc in omega arith)
    go (Total m) p j =
        let t = source_lawful.total_stays (take k part) field m p in
        let s : m ≡ n = cc in
        let b = both _ _ j in
        (omega (arith, ltb-true k m b.0), λ h. absurd (omega (arith, leb-true m limit b.1)))
