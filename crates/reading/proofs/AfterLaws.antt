-- What an accepted frame leaves behind: the lengths, the other channels and their parts, the rules of the record, and few packets.
-- Assumes nothing.
use mathlib.Core.Path.{◌≡◌, ◌∙◌, sym}
use mathlib.Core.Bool.{true}
use mathlib.Core.List.{List}
use Prim.Native.Nat.{ℕ, ◌+◌, ◌*◌, ◌≤◌, ◌<◌}
use native.Mathlib.Decide.{ℕ_discrete}
use native.Mathlib.Nat.{zero-add}
use native.Mathlib.Omega.{arith}
use lib.ListN.{length, get_or, drop, length-set}
use lib.Seq.{get_or-set_same, get_or-set_other}
use Rattle.octets.specs.Laid.{laid}
use Rattle.octets.proofs.Laws.{length_laid}
use Rattle.octets.specs.Octets.{Octets}
use Rattle.packet.specs.Family.{Family, Lawful}
use Rattle.frame.specs.SetUp.{most_field}
use Rattle.frame.specs.declared.opening.Frame.{Frame}
use Rattle.channel.specs.Rules.{record_follows, channel_follows}
use Rattle.channel.specs.State.{fresh_channel}
use Rattle.channel.specs.Store.{part_of}
use Rattle.channel.specs.declared.state.Record.{Record}
use Rattle.channel.proofs.Laws.{part_own, part_length, part_apart, each_follows}
use Rattle.reading.specs.Inside.{Ready}
use Rattle.reading.specs.Reading.{field_of, channel_of, done_by, report_of, record_after, store_after, output_after}
use Rattle.reading.specs.declared.Report.{Report}
use Rattle.walk.specs.Steps.{course_of}
use Rattle.walk.specs.Walk.{Done, no_tally, handed_all, tallied_all}
use Rattle.reading.specs.Theorems.{skip_ended}
use Rattle.reading.proofs.AcceptLaws.{own_follows, field_length, part_whole}
use Rattle.walk.proofs.FewLaws.{counted, steps_few}
use Rattle.walk.proofs.KeepLaws.{LeavesBy, state_follows_lem, steps_leave}
use Rattle.octets.proofs.OctetLaws.{octets_take, octets_drop, octets_laid}
use Rattle.walk.proofs.OctetLaws.{octets_part, octets_with}

module _ (F : Family) (laws : Lawful F) (limit : ℕ) (rec : Record) (x : Frame) (f store out : List ℕ) (r : Ready F limit rec x f store out) where
  own_channel : channel_follows F limit (part_of limit x.header.channel store) (channel_of x rec) ≡ true
  own_channel = own_follows F limit store rec x.header.channel r.follows

  pub done_few : let a : Report = report_of F x (channel_of x rec) (done_by F limit x rec store f) in
      F.least * (a.delivered + a.idle + skip_ended x rec) < x.size + F.least
  unfolding report_of course_of
  done_few =
      let d : Done = done_by F limit x rec store f in
      let many : (tallied_all F no_tally d.whole).delivered + (tallied_all F no_tally d.whole).idle ≡ length d.whole =
      counted F no_tally d.whole ∙ zero-add (length d.whole) in
      let few = steps_few F laws limit (part_of limit x.header.channel store) (field_of x f) (part_whole rec x f store out r) x.header
      (channel_of x rec) (state_follows_lem F limit _ (channel_of x rec) own_channel) in
      rw many (rw (field_length rec x f store out r) at few)

module _ (F : Family) (laws : Lawful F) (limit : ℕ) (wide : F.header + most_field ≤ limit) (rec : Record) (x : Frame) (f store out : List ℕ)
    (r : Ready F limit rec x f store out) where
  done_leaves : (O : Type 0) → (O → Octets store) → (O → Octets f) → LeavesBy F limit O (length out) (done_by F limit x rec store f)
  done_leaves O os of =
      let l = field_length rec x f store out r in
      steps_leave F laws limit O (length out) (omega (arith, wide)) (part_of limit x.header.channel store) (field_of x f) (part_whole rec x f store out r)
      (omega (arith, r.few, wide)) (omega (arith, r.few, r.output_room))
      (λ o. octets_part limit x.header.channel store (os o))
      (λ o. octets_take (drop x.place f) x.size (octets_drop f x.place (of o)))
      x.header (channel_of x rec) (own_channel F laws limit rec x f store out r)

  -- without anything known of the octets
  fits : LeavesBy F limit ⊥ (length out) (done_by F limit x rec store f)
  fits = done_leaves ⊥ (λ z. absurd z) (λ z. absurd z)

  part_left : length (laid (part_of limit x.header.channel store) 0 (done_by F limit x rec store f).held) ≡ limit
  part_left =
      let w = part_whole rec x f store out r in
      length_laid _ 0 (done_by F limit x rec store f).held (omega (arith, fits.short)) ∙ w

  pub store_kept : length (store_after limit x store (done_by F limit x rec store f)) ≡ length store
  unfolding store_after
  store_kept = part_length limit x.header.channel store _ r.store_whole r.channel part_left ∙ sym r.store_whole

  pub output_kept : length (output_after F out (done_by F limit x rec store f)) ≡ length out
  unfolding output_after
  output_kept = length_laid out 0 (handed_all F (done_by F limit x rec store f).whole) (omega (arith, fits.hands))

  pub channels_kept : length (record_after x rec (done_by F limit x rec store f)).channels ≡ length rec.channels
  unfolding record_after
  channels_kept = simp length-set

  pub other_part : (w : ℕ) → w < 8 → (w ≡ x.header.channel → ⊥) → part_of limit w (store_after limit x store (done_by F limit x rec store f)) ≡ part_of limit w store
  unfolding store_after
  other_part w h n =
      part_apart limit x.header.channel w store _ r.store_whole r.channel h part_left (λ e. n (sym e))

  pub other_channel : (w : ℕ) → (w ≡ x.header.channel → ⊥)
      → get_or (record_after x rec (done_by F limit x rec store f)).channels w fresh_channel ≡ get_or rec.channels w fresh_channel
  unfolding record_after
  other_channel w n = get_or-set_other rec.channels x.header.channel w _ fresh_channel n

  pub octets_kept : Octets store → Octets f → Octets (store_after limit x store (done_by F limit x rec store f))
  unfolding store_after
  octets_kept os of =
      let held = (done_by F limit x rec store f).held in
      octets_with limit x.header.channel store (laid (part_of limit x.header.channel store) 0 held) os
      (octets_laid (part_of limit x.header.channel store) 0 held (octets_part limit x.header.channel store os)
      ((done_leaves (Unit {0}) (λ _. os) (λ _. of)).octets tt))

  -- the rules of the record: of the frame's own channel by what its steps leave, of every other as they were
  module _ (os : Octets store) (of : Octets f) (eight : length rec.channels ≡ 8) where
    own_kept : channel_follows F limit (part_of limit x.header.channel (store_after limit x store (done_by F limit x rec store f)))
        (get_or (record_after x rec (done_by F limit x rec store f)).channels x.header.channel fresh_channel) ≡ true
    unfolding store_after record_after channel_follows
    own_kept =
        let there : x.header.channel < length rec.channels = omega (arith, r.channel) in
        rw (
          part_own limit x.header.channel store _ r.store_whole r.channel part_left,
          get_or-set_same rec.channels x.header.channel _ fresh_channel there,
        )
        ((done_leaves (Unit {0}) (λ _. os) (λ _. of)).keeps (part_of limit x.header.channel store) tt)

    pub record_kept : record_follows F limit (store_after limit x store (done_by F limit x rec store f)) (record_after x rec (done_by F limit x rec store f)) ≡ true
    unfolding record_after
    record_kept = (each_follows F limit _ (record_after x rec (done_by F limit x rec store f))).1 (λ w h. go w (ℕ_discrete w x.header.channel) (rw length-set at h))
      where
        go : (w : ℕ) → Dec (w ≡ x.header.channel) → w < length rec.channels
            → channel_follows F limit (part_of limit w (store_after limit x store (done_by F limit x rec store f)))
            (get_or (record_after x rec (done_by F limit x rec store f)).channels w fresh_channel) ≡ true
        go w (yes e) h = rw e own_kept
        go w (no n) h = rw (other_part w (omega (arith, eight)) n, other_channel w n) ((each_follows F limit store rec).0 r.follows w h)
