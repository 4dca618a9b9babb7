-- What decides whether a state keeps the rules, variant by variant and test by test, and a record, channel by channel.
-- Assumes nothing.
use mathlib.Core.Path.{◌≡◌, refl, ◌∙◌, sym}
use mathlib.Core.Bool.{Bool, true, false, ◌&&◌, false≢true}
use mathlib.Core.List.{List, [], ◌∷◌}
use mathlib.Core.Logic.{◌↔◌}
use Prim.Native.Nat.{ℕ, zero, suc, ◌+◌, ◌-◌, ◌≤◌, ◌<◌, min}
use native.Mathlib.Decide.{dec_lt}
use native.Mathlib.Nat.{add-zero, add-suc, suc-add, zero-add}
use native.Mathlib.Numerals.{add-one}
use native.Mathlib.Omega.{arith}
use lib.Dec.{ltb, leb}
use lib.ListN.{length, get_or, take, drop, drop_of_length-le}
use lib.Seq.{drop-cons}
use borrow.Author.Tests.{lt-ltb, le-ltb, le-leb, ltb-true, leb-true}
use Rattle.packet.specs.Family.{Family}
use Rattle.channel.specs.declared.state.Channel.{Channel}
use Rattle.channel.specs.declared.state.State.TheVariants.{Gathering}
use Rattle.channel.specs.Rules.{judged, state_follows, hunts, channel_follows, all_follow, record_follows}
use Rattle.channel.specs.State.{fresh_channel}
use Rattle.channel.specs.Store.{part_place, part_of}
use Rattle.channel.specs.Theorems.{EachFollows, FreshFollows, PartHasRoom}
use Rattle.channel.proofs.PartLaws.{short_part}

-- two tests
pub both : (a b : Bool) → (a && b) ≡ true → (a ≡ true) × (b ≡ true)
both true b e = (refl, e)
both false b e = absurd (false≢true e)

pub and : {a b : Bool} → a ≡ true → b ≡ true → (a && b) ≡ true
and p q = rw (p, q)

-- what the rules say of k octets gathered, and what makes them kept
module _ (F : Family) (limit : ℕ) (part : List ℕ) (k : ℕ) where
  pub gathers_told : state_follows F limit part (Gathering k) ≡ true
      → (k < limit) × (k ≤ length part) × (judged limit k (F.size (take k part)) ≡ true)
  unfolding state_follows
  gathers_told e =
      let t = both (ltb k limit && leb k (length part)) (judged limit k (F.size (take k part))) e in
      let u = both (ltb k limit) (leb k (length part)) t.0 in
      (ltb-true k limit u.0, leb-true k (length part) u.1, t.1)

  pub gathers_from : k < limit → k ≤ length part → judged limit k (F.size (take k part)) ≡ true
      → state_follows F limit part (Gathering k) ≡ true
  unfolding state_follows
  gathers_from h l j = and (and (lt-ltb k limit h) (le-leb k (length part) l)) j

  -- fewer octets than the limit, all in the part, are judged by the size that they tell
  pub gathers_below : k < limit → k ≤ length part → judged limit k (F.size (take k part)) ≡ state_follows F limit part (Gathering k)
  unfolding state_follows
  gathers_below h l = rw (lt-ltb k limit h, le-leb k (length part) l)

  pub gathers_above : limit ≤ k → false ≡ state_follows F limit part (Gathering k)
  unfolding state_follows
  gathers_above h = rw (le-ltb k limit h)

pub part_has_room : PartHasRoom
part_has_room F limit k part l = go (dec_lt k limit)
  where
    go : Dec (k < limit) → state_follows F limit part (Gathering k) ≡ (ltb k limit && judged limit k (F.size (take k part)))
    go (yes h) = sym (gathers_below F limit part k h (omega arith)) ∙ rw (lt-ltb k limit h)
    go (no h) = sym (gathers_above F limit part k (omega arith)) ∙ rw (le-ltb k limit (omega arith))

-- the channels one by one: none is left, or one more, by what the code cuts out of the store for it
module _ (F : Family) (limit : ℕ) (store : List ℕ) (cs : List Channel) (v : ℕ) where
  pub follow_end : length cs ≤ v → all_follow F limit store v (drop v cs) ≡ true
  unfolding all_follow
  follow_end h = rw (drop_of_length-le cs h)

  module _ (place at end : ℕ) (d : Channel) (b : Bool) (h : v < length cs) (e : place ≡ part_place limit v) (ea : at ≡ min place (length store))
      (ee : end ≡ min (place + limit) (length store)) (f : b ≡ channel_follows F limit (take (end - at) (drop at store)) (get_or cs v d)) where
    pub follow_next : b ≡ true → all_follow F limit store v (drop v cs) ≡ all_follow F limit store (v + 1) (drop (v + 1) cs)
    unfolding all_follow
    follow_next t = rw (add-one v, drop-cons cs v d h, ← short_part limit v place at end store e ea ee, ← f, t)

    pub follow_stop : b ≡ false → all_follow F limit store v (drop v cs) ≡ false
    unfolding all_follow
    follow_stop t = rw (drop-cons cs v d h, ← short_part limit v place at end store e ea ee, ← f, t)

pub fresh_follows : FreshFollows
unfolding record_follows all_follow channel_follows hunts
fresh_follows F limit store = refl

-- from channel number w on: all follow exactly when each does
each_from : (F : Family) (limit : ℕ) (store : List ℕ) (w : ℕ) (cs : List Channel)
    → all_follow F limit store w cs ≡ true
    ↔ ((v : ℕ) → v < length cs → channel_follows F limit (part_of limit (w + v) store) (get_or cs v fresh_channel) ≡ true)
unfolding all_follow
each_from F limit store w [] = (λ e v h. absurd (omega arith), λ f. refl)
each_from F limit store w (c ∷ cs) =
    let rest = each_from F limit store (suc w) cs in (
      λ e. let t = both _ _ e in elim [
        | zero ↦ λ h. rw add-zero t.0
        | suc v ↦ λ h. rw (add-suc w v, ← suc-add w v) (rest.0 t.1 v (omega arith))
      ],
      λ f. and (rw add-zero at (f 0 (omega arith))) (rest.1 (λ v h. rw (suc-add w v, ← add-suc w v) (f (suc v) (omega arith)))),
    )

pub each_follows : EachFollows
unfolding record_follows
each_follows F limit store rec =
    let each = each_from F limit store 0 rec.channels in (
      λ e v h. rw zero-add at (each.0 e v h),
      λ f. each.1 (λ v h. rw zero-add (f v h)),
    )
