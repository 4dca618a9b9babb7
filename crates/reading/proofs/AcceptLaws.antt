-- The steps of a frame that passed all tests: what they may rely on, and what they come to for the whole call.
-- Assumes nothing.
use mathlib.Core.Path.{◌≡◌, ◌∙◌, sym}
use mathlib.Core.Bool.{true, false}
use mathlib.Core.List.{List, ◌++◌, append_assoc}
use Prim.Native.Nat.{ℕ, ◌+◌, ◌-◌, ◌≤◌, ◌<◌}
use native.Mathlib.Decide.{dec_lt}
use native.Mathlib.Omega.{arith}
use lib.ListN.{length, get_or, set, take, drop, length-take, length-drop, get_or-eq_default}
use lib.Seq.{drop-drop}
use Rattle.std.specs.Prelude.{Ok}
use Rattle.packet.specs.Family.{Family}
use Rattle.packet.specs.Size.{most, source}
use Rattle.frame.specs.declared.opening.Frame.{Frame}
use Rattle.channel.specs.Rules.{record_follows, channel_follows, hunts}
use Rattle.channel.specs.State.{fresh_channel}
use Rattle.channel.specs.Store.{part_place, part_of, with_part}
use Rattle.channel.specs.declared.state.Record.{Record}
use Rattle.channel.proofs.Laws.{part_inside, each_follows}
use Rattle.channel.proofs.PartLaws.{cut_part}
use Rattle.walk.specs.declared.stepping.Course.{Course}
use Rattle.reading.specs.declared.Kind.{Kind}
use Rattle.reading.specs.Inside.{ReadBy, Ready}
use Rattle.reading.specs.Reading.{kind_of, field_of, channel_of, report_of, record_after, store_after, output_after}
use Rattle.walk.specs.Inside.{Fit}
use Rattle.walk.specs.Steps.{Did, course_of, gap_for, steps_of}

-- in a record that keeps the rules each channel does; one that is not there stands for a fresh one
pub own_follows : (F : Family) (limit : ℕ) (store : List ℕ) (rec : Record) (v : ℕ) → record_follows F limit store rec ≡ true
    → channel_follows F limit (part_of limit v store) (get_or rec.channels v fresh_channel) ≡ true
unfolding channel_follows hunts
own_follows F limit store rec v e = go (dec_lt v (length rec.channels))
  where
    go : Dec (v < length rec.channels) → channel_follows F limit (part_of limit v store) (get_or rec.channels v fresh_channel) ≡ true
    go (yes h) = (each_follows F limit store rec).0 e v h
    go (no h) =
        let n : length rec.channels ≤ v = omega arith in
        rw (get_or-eq_default rec.channels fresh_channel n)

-- the field that code cuts out from its place to its end
cut_field : (x : Frame) (f : List ℕ) → take (x.place + x.size - x.place) (drop x.place f) ≡ field_of x f
cut_field x f =
    let e : x.place + x.size - x.place ≡ x.size = omega arith in
    rw e

-- the store with the part that comes back from a loan
part_back : (limit v at : ℕ) (store part : List ℕ) → at ≡ part_place limit v
    → take at store ++ (part ++ drop (at + limit - at) (drop at store)) ≡ with_part limit v store part
unfolding with_part
part_back limit v at store part e =
    let n : at + (at + limit - at) ≡ at + limit = omega arith in
    rw (drop-drop, n, e) (sym (append_assoc (take (part_place limit v) store) part (drop (part_place limit v + limit) store)))

module _ {F : Family} {limit : ℕ} (rec : Record) (x : Frame) (f store out : List ℕ) (r : Ready F limit rec x f store out) where
  pub field_length : length (field_of x f) ≡ x.size
  field_length = simp (length-take, length-drop) (omega (arith, r.inside))

  pub part_whole : length (part_of limit x.header.channel store) ≡ limit
  part_whole = part_inside limit x.header.channel store r.store_whole r.channel

  module _ (at : ℕ) (e : at ≡ part_place limit x.header.channel) where
    pub follows_cut : channel_follows F limit (take (at + limit - at) (drop at store)) (channel_of x rec) ≡ true
    follows_cut = rw (cut_part limit x.header.channel at store e) (own_follows F limit store rec x.header.channel r.follows)

    -- what the steps did over the channel's part is what the call does
    pub read_by : (gap : ℕ) (kind : Kind) (course : Course) (part' out' : List ℕ) → gap ≡ gap_for (channel_of x rec) x.header
        → kind ≡ kind_of x.header
        → Did F (steps_of F limit (take (at + limit - at) (drop at store)) (take (x.place + x.size - x.place) (drop x.place f)) x.header (channel_of x rec))
        course (take (at + limit - at) (drop at store)) part' out out'
        → ReadBy F limit x rec store out f
        (Ok (record {
          kind = kind;
          header = x.header;
          word = x.word;
          gap = gap;
          delivered = course.tally.delivered;
          idle = course.tally.idle;
          broken = course.broken;
          disagreement = course.disagreement;
          foreign = course.foreign;
          oversize = course.oversize;
        }))
        (record { channels = set rec.channels x.header.channel (record { heard = true; last = x.header.count; state = course.state }) })
        (take at store ++ (part' ++ drop (at + limit - at) (drop at store))) out'
    unfolding report_of record_after store_after output_after course_of
    read_by gap kind course part' out' eg ek d =
        let t = rw (cut_part limit x.header.channel at store e, cut_field x f) at d in
        record {
          answers = rw (eg, ek, t.reports);
          record_left = rw t.reports;
          store_left = part_back limit x.header.channel at store part' e ∙ rw t.holds;
          output_left = t.hands;
        }

-- the same for source packets of up to 4,096 octets
module _ (rec : Record) (x : Frame) (f store out : List ℕ) (r : Ready source most rec x f store out) where
  fits : x.header.synchronisation ≡ false → Fit most (part_of most x.header.channel store) (field_of x f) x.header.pointer out
  fits s =
      record {
        whole_part = part_whole rec x f store out r;
        wide = omega arith;
        not_too_wide = omega arith;
        some = rw (field_length rec x f store out r) r.some;
        few = rw (field_length rec x f store out r) r.few;
        room = r.output_room;
        points = rw (field_length rec x f store out r) (r.points s);
      }

  module _ (at : ℕ) (e : at ≡ part_place most x.header.channel) where
    pub fits_cut : x.header.synchronisation ≡ false
        → Fit most (take (at + most - at) (drop at store)) (take (x.place + x.size - x.place) (drop x.place f)) x.header.pointer out
    fits_cut s = rw (cut_part most x.header.channel at store e, cut_field x f) (fits s)
