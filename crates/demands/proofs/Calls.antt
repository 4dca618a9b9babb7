-- One call with the kept record and store: what an accepted frame of the sender answers and leaves in its channel, and what every other
-- call keeps.
-- Assumes nothing.
use Rattle.std.specs.Prelude.{Ok}
use mathlib.Core.Path.{◌≡◌, refl, ◌∙◌, sym, ap}
use mathlib.Core.Bool.{true}
use mathlib.Core.List.{List, ◌++◌}
use mathlib.Core.Logic.{inl, inr}
use Prim.Native.Nat.{ℕ, ◌+◌, ◌*◌, ◌≤◌, ◌<◌}
use native.Mathlib.Omega.{arith}
use lib.ListN.{length, get_or, take, drop, length-append, length-take, length-drop}
use lib.Seq.{get_or-set_same, take_at}
use borrow.Author.Tests.{eq-eqb, ne_eqb, le-leb}
use Rattle.octets.specs.Laid.{laid}
use Rattle.octets.specs.Octets.{Octets}
use Rattle.packet.specs.Family.{Family}
use Rattle.frame.specs.Opening.{open_of, frame_of, idle_data}
use Rattle.frame.specs.SetUp.{most_length}
use Rattle.table.specs.Table.{None}
use Rattle.frame.specs.declared.opening.Frame.{Frame}
use Rattle.frame.specs.declared.set_up.SetUp.{SetUp}
use Rattle.frame.proofs.Laws.{accepted_exactly, opened_sound}
use Rattle.channel.specs.Rules.{record_follows}
use Rattle.channel.specs.State.{fresh_channel}
use Rattle.channel.specs.Store.{store_fits, output_fits, part_place, part_of, with_part}
use Rattle.channel.specs.declared.state.Record.{Record}
use Rattle.channel.proofs.Laws.{part_own}
use Rattle.channel.proofs.PartLaws.{apart}
use Rattle.reading.specs.Reading.{read_table_over, record_over, store_over, channel_of, done_by, report_of, record_after, store_after, output_after, ReadOver}
use Rattle.walk.specs.Walk.{Done}
use Rattle.reading.specs.Theorems.{Keeps}
use Rattle.walk.specs.Theorems.{Roomy}
use Rattle.reading.proofs.Laws.{accepted_keeps, store_octets, refused_untouched, others_apart}
use Rattle.reading.proofs.ReadLaws.{at_none, accepts}
use Rattle.demands.specs.History.{Harmless, carried}

-- the kept record and store pass tests 2 and 4
pub record Fine (F : Family) (limit : ℕ) (rec : Record) (store : List ℕ) : Type 0 where
  pub eight : length rec.channels ≡ 8
  pub store_whole : length store ≡ limit * 8
  pub octets : Octets store
  pub follows : record_follows F limit store rec ≡ true

-- octets laid at the start of a part are what it starts with
pub starts_with : (part held : List ℕ) → take (length held) (laid part 0 held) ≡ held
unfolding laid
starts_with part held = take_at held (drop (0 + length held) part) (length held) refl

-- a part that leaves the store its length has the length of a part
part_of_length : (limit v : ℕ) (store part : List ℕ) → length store ≡ limit * 8 → v < 8 → length (with_part limit v store part) ≡ length store
    → length part ≡ limit
unfolding with_part part_place
part_of_length limit v store part e h l =
    omega (
      arith,
      apart limit h,
      length-append (take (limit * v) store ++ part) (drop (limit * v + limit) store),
      length-append (take (limit * v) store) part,
      length-take (limit * v) store,
      length-drop (limit * v + limit) store,
    )

-- a frame that opens: its count, and how many octets of the stream it carries
module _ (u : SetUp) (f : List ℕ) (x : Frame) (opens : open_of u f ≡ Ok x) where
  frame_is : x ≡ frame_of u f
  frame_is = ((accepted_exactly u f x).0 opens).0

  pub count_lt : x.header.count.0 < 256
  count_lt = (opened_sound u f x opens).count_bits

  pub carried_none : x.header.pointer ≡ idle_data → carried u f ≡ 0
  carried_none e = rw (← frame_is, eq-eqb x.header.pointer idle_data e)

  pub carried_all : (x.header.pointer ≡ idle_data → ⊥) → carried u f ≡ x.size
  carried_all n = rw (← frame_is, ne_eqb x.header.pointer idle_data n)

module _ {F : Family} {limit : ℕ} (G : Roomy F limit)
    (u : SetUp) (rec : Record) (store out f : List ℕ) (x : Frame) (fine : Fine F limit rec store) (room : limit + most_length ≤ length out)
    (opens : open_of u f ≡ Ok x) where
  no_cause : (x ≡ frame_of u f) × None (read_table_over F limit u rec store out f)
  unfolding store_fits output_fits
  no_cause =
      at_none F limit u rec store out f (opened_sound u f x opens).fits (eq-eqb (length store) (limit * 8) fine.store_whole)
      (le-leb (limit + most_length) (length out) room) fine.follows x opens

  pub read : let d : Done = done_by F limit x rec store f in
      ReadOver F limit u rec store out f (Ok (report_of F x (channel_of x rec) d)) (record_after x rec d) (store_after limit x store d) (output_after F out d)
  read = accepts F limit u rec store out f x no_cause _ _ _ _ (record { answers = refl; record_left = refl; store_left = refl; output_left = refl })

  module _ (real : Octets f) where
    keeps : Keeps F limit u rec store out f
    keeps = accepted_keeps F limit G u rec store out f _ fine.octets real fine.eight (sym read.answers)

    pub fine_after : Fine F limit (record_over F limit u rec store out f) (store_over F limit u rec store out f)
    fine_after =
        record {
          eight = keeps.eight;
          store_whole = keeps.store_length ∙ fine.store_whole;
          octets = store_octets F limit G u rec store out f fine.octets real;
          follows = keeps.follows;
        }

    module _ (v : ℕ) (channel : x.header.channel ≡ v) where
      in_range : v < 8
      in_range = let s = (opened_sound u f x opens).channel in omega arith

      pub own_after : get_or (record_over F limit u rec store out f).channels v fresh_channel
          ≡ record { heard = true; last = x.header.count; state = (done_by F limit x rec store f).state }
      unfolding record_after
      own_after =
          let there : v < length rec.channels = omega (arith, in_range, fine.eight) in
          rw (← read.record_left, channel) (get_or-set_same rec.channels v _ fresh_channel there)

      pub part_after_lem : part_of limit v (store_over F limit u rec store out f) ≡ laid (part_of limit v store) 0 (done_by F limit x rec store f).held
      unfolding store_after
      part_after_lem =
          let e : store_over F limit u rec store out f ≡ with_part limit v store (laid (part_of limit v store) 0 (done_by F limit x rec store f).held) =
          sym read.store_left
          ∙ ap (λ (w : ℕ). with_part limit w store (laid (part_of limit w store) 0 (done_by F limit x rec store f).held)) channel in
          ap (part_of limit v) e
          ∙ part_own limit v store (laid (part_of limit v store) 0 (done_by F limit x rec store f).held) fine.store_whole in_range
          (part_of_length limit v store _ fine.store_whole in_range (ap length (sym e) ∙ keeps.store_length))

-- another call keeps the record and the store fine, and the sender's channel with its part
pub record Same (F : Family) (limit : ℕ) (v : ℕ) (rec rec' : Record) (store store' : List ℕ) : Type 0 where
  pub fine : Fine F limit rec' store'
  pub channel : get_or rec'.channels v fresh_channel ≡ get_or rec.channels v fresh_channel
  pub part : part_of limit v store' ≡ part_of limit v store

pub others_keep : {F : Family} {limit : ℕ} (G : Roomy F limit) (v : ℕ) (u : SetUp) (rec : Record) (store out f : List ℕ) → v < 8
    → Fine F limit rec store → Octets f → Harmless F limit v u rec store out f
    → Same F limit v rec (record_over F limit u rec store out f) store (store_over F limit u rec store out f)
others_keep {F} {limit} G v u rec store out f h fine real (inl (r, e)) =
    let t = refused_untouched F limit u rec store out f r e in
    rw (t.same_record, t.same_store) (record { fine = fine; channel = refl; part = refl })
others_keep {F} {limit} G v u rec store out f h fine real (inr (a, (e, n))) =
    let k = accepted_keeps F limit G u rec store out f a fine.octets real fine.eight e in
    let t = others_apart F limit G u rec store out f a v e h (λ z. n (sym z)) in
    record {
      fine = record {
        eight = k.eight;
        store_whole = k.store_length ∙ fine.store_whole;
        octets = store_octets F limit G u rec store out f fine.octets real;
        follows = k.follows;
      };
      channel = t.channel_kept;
      part = t.part_kept;
    }
