-- B1 to B8, computed from the definitions of reader and writer.
-- Assumes nothing.
use Rattle.std.specs.Prelude.{Option, Result, Ok, Err}
use mathlib.Core.Path.{◌≡◌, refl, ◌∙◌, ap}
use mathlib.Core.Bool.{true}
use mathlib.Core.List.{List, [], ◌∷◌}
use Prim.Native.Nat.{ℕ, ◌+◌, ◌*◌, ◌/◌, ◌≤◌}
use native.Mathlib.Omega.{arith}
use borrow.Author.Tests.{le-leb}
use lib.ListN.{length, take, set, replicate}
use Rattle.octets.specs.Laid.{laid}
use Rattle.octets.proofs.Laws.{length_laid}
use Rattle.octets.proofs.Runs.{laid_nil}
use Rattle.octets.specs.Layout as layout
use Rattle.octets.specs.Numbers.{number_at, bits_at, octets_of}
use Rattle.packet.specs.Chain.{whole_in, front_of, chain_in, chain_of, distance_in, distance_of}
use Rattle.packet.specs.Size.{idle_of, size_of, most, source}
use Rattle.frame.specs.Closing.{row20, row25, flagged_by, word_octets, header_octets, close_size, with_check, frame_around}
use Rattle.frame.specs.Counts.{after, gap_of}
use Rattle.frame.specs.Header.{header_of}
use Rattle.frame.specs.Opening.{row1, row5, row6, row7, row8, row9, row10, row11, row12, secondary_size, data_size, word_of, frame_of, frame_table}
use Rattle.frame.specs.SetUp.{fits_of}
use Rattle.frame.specs.declared.closing.ControlWord.{ControlWord}
use Rattle.frame.specs.declared.set_up.SetUp.{SetUp}
use Rattle.table.specs.Table.{first_cause}
use Rattle.channel.specs.Busy.{busy_state}
use Rattle.channel.specs.Rules.{record_follows, all_follow, channel_follows, state_follows, hunts, judged}
use Rattle.channel.specs.State.{fresh_channel, fresh_record}
use Rattle.channel.specs.Store.{store_fits, output_fits, part_of, with_part}
use Rattle.channel.proofs.Laws.{part_inside, part_own, part_length, fresh_follows}
use Rattle.channel.specs.declared.state.Channel.{Channel}
use Rattle.channel.specs.declared.state.Record.{Record}
use Rattle.channel.specs.declared.state.State.{State}
use Rattle.channel.specs.declared.state.State.TheVariants.{Gathering}
use Rattle.reading.specs.Answers as reading
use Rattle.reading.specs.declared.Refusal.{Refusal}
use Rattle.reading.specs.declared.Report.{Report}
use Rattle.reading.specs.Reading as read
use Rattle.walk.specs.Steps.{steps_of, carries_none, gap_for, hunted, course_of, resumed, gathered, agrees, agrees_by, called_at}
use Rattle.walk.specs.Walk.{ended_by, walk_of, turns, turn, seen_of, front, cut_of, tallied_all, tallied, handed, handed_all}
use Rattle.writing.specs.Answers as writing
use Rattle.writing.specs.Laying.{idle_packet, left_part, run_part, placed_part, filler_of, left_after, field_of, left_over_after, pointer_of, nothing_of}
use Rattle.writing.specs.Writing as write
use Rattle.writing.specs.declared.Place.{Place}
use Rattle.bench.specs.Bench.{bench, bench_place, run, frame1, frame2, frame3, written, told, values, bench_of, number, writing_number, packets_finished, heard_at, Bench}
use Rattle.demands.proofs.FewEnough.{few_enough}

-- the writings
b1 : (w : List ℕ) → length w ≡ 20 → written (bench_place 0 9 4) run w ≡ 0 ∷ 8 ∷ 1 ∷ 10 ∷ 5 ∷ frame1
unfolding write.answer_of write.next_of write.output_of write.write_table write.next_place write.frame_written write.row21 write.row22 write.row23 write.row24 row1 fits_of row20 row25 first_cause chain_of chain_in front_of whole_in size_of layout.value_in layout.first_among layout.width_among layout.bits_from bits_at number_at distance_of distance_in flagged_by word_octets header_octets close_size data_size with_check frame_around layout.numbered layout.laid_out layout.octets_in layout.bits_together octets_of after idle_packet left_part run_part placed_part filler_of left_after field_of left_over_after pointer_of nothing_of writing.values_of
b1 w h = rw h

b2 : (w : List ℕ) → length w ≡ 20 → written (bench_place 1 10 5) [] w ≡ 0 ∷ 0 ∷ 0 ∷ 11 ∷ 6 ∷ frame2
unfolding write.answer_of write.next_of write.output_of write.write_table write.next_place write.frame_written write.row21 write.row22 write.row23 write.row24 row1 fits_of row20 row25 first_cause chain_of chain_in front_of whole_in size_of layout.value_in layout.first_among layout.width_among layout.bits_from bits_at number_at distance_of distance_in flagged_by word_octets header_octets close_size data_size with_check frame_around layout.numbered layout.laid_out layout.octets_in layout.bits_together octets_of after idle_packet left_part run_part placed_part filler_of left_after field_of left_over_after pointer_of nothing_of writing.values_of
b2 w h = rw h

b3 : (w : List ℕ) → length w ≡ 20 → written (bench_place 0 11 6) [] w ≡ 0 ∷ 0 ∷ 0 ∷ 12 ∷ 7 ∷ frame3
unfolding write.answer_of write.next_of write.output_of write.write_table write.next_place write.frame_written write.row21 write.row22 write.row23 write.row24 row1 fits_of row20 row25 first_cause chain_of chain_in front_of whole_in size_of layout.value_in layout.first_among layout.width_among layout.bits_from bits_at number_at distance_of distance_in flagged_by word_octets header_octets close_size data_size with_check frame_around layout.numbered layout.laid_out layout.octets_in layout.bits_together octets_of after idle_packet left_part run_part placed_part filler_of left_after field_of left_over_after pointer_of nothing_of writing.values_of
b3 w h = rw h

-- what passes tests 2, 3 and 4
pub record Passes (rec : Record) (store out : List ℕ) : Type 0 where
  pub store_is_fit : store_fits most (length store) ≡ true
  pub output_is_fit : output_fits most (length out) ≡ true
  pub follows : record_follows source most store rec ≡ true

-- the first reading
told1 : (store out : List ℕ) → Passes fresh_record store out → told fresh_record store out frame1 ≡ values 1 9 4 0 0 1 0 0
unfolding read.answer_over read.read_table_over read.kind_of read.report_of row1 fits_of frame_table row5 row6 row7 row8 row9 row10 row11 row12 secondary_size data_size word_of frame_of header_of layout.value_in layout.first_among layout.width_among layout.bits_from first_cause bits_at number_at steps_of carries_none gap_for gap_of hunted ended_by course_of walk_of turns turn seen_of front cut_of size_of idle_of tallied_all tallied reading.values_of resumed
told1 store out p = rw (p.store_is_fit, p.output_is_fit, p.follows)

-- what it leaves: channel 3 heard, with the first six octets of a filler packet held
channel_after : ℕ → State → Channel
channel_after count state = record { heard = true; last = record { 0 = count }; state = state }

record_after : ℕ → State → Record
record_after count state = record { channels = set (replicate 8 fresh_channel) 3 (channel_after count state) }

held : List ℕ
held = 0x07 ∷ 0xFF ∷ 0xC0 ∷ 0x00 ∷ 0x00 ∷ 0x00 ∷ []

part_after : List ℕ → List ℕ
part_after store = laid (part_of most 3 store) 0 held

store_after : List ℕ → List ℕ
store_after store = with_part most 3 store (part_after store)

record1 : (store out : List ℕ) → Passes fresh_record store out
    → read.record_of bench fresh_record store out frame1 ≡ record_after 4 (Gathering 6)
unfolding read.record_over read.read_table_over read.record_after row1 fits_of frame_table row5 row6 row7 row8 row9 row10 row11 row12 secondary_size data_size word_of frame_of header_of layout.value_in layout.first_among layout.width_among layout.bits_from first_cause bits_at number_at steps_of carries_none gap_for gap_of hunted ended_by course_of walk_of turns turn seen_of front cut_of size_of idle_of tallied_all tallied resumed record_after channel_after
record1 store out p = rw (p.store_is_fit, p.output_is_fit, p.follows)

store1 : (store out : List ℕ) → Passes fresh_record store out → read.store_of bench fresh_record store out frame1 ≡ store_after store
unfolding read.store_over read.read_table_over read.store_after row1 fits_of frame_table row5 row6 row7 row8 row9 row10 row11 row12 secondary_size data_size word_of frame_of header_of layout.value_in layout.first_among layout.width_among layout.bits_from first_cause bits_at number_at steps_of carries_none gap_for gap_of hunted ended_by course_of walk_of turns turn seen_of front cut_of size_of idle_of tallied_all tallied resumed store_after part_after held
store1 store out p = rw (p.store_is_fit, p.output_is_fit, p.follows)

output1 : (store out : List ℕ) → Passes fresh_record store out → take 8 (read.output_of bench fresh_record store out frame1) ≡ run
unfolding read.output_over read.read_table_over read.output_after row1 fits_of frame_table row5 row6 row7 row8 row9 row10 row11 row12 secondary_size data_size word_of frame_of header_of layout.value_in layout.first_among layout.width_among layout.bits_from first_cause bits_at number_at steps_of carries_none gap_for gap_of hunted ended_by course_of walk_of turns turn seen_of front cut_of size_of idle_of tallied_all tallied handed handed_all resumed laid
output1 store out p = rw (p.store_is_fit, p.output_is_fit, p.follows)

module _ (store : List ℕ) (h : length store ≡ most * 8) where
  part_length_after : length (part_after store) ≡ most
  unfolding part_after held
  part_length_after =
      let l : length (part_of most 3 store) ≡ most = part_inside most 3 store h (omega arith) in
      length_laid (part_of most 3 store) 0 held (omega arith) ∙ l

  held_there : take 6 (part_of most 3 (store_after store)) ≡ held
  unfolding store_after part_after held laid
  held_there = rw (part_own most 3 store (part_after store) h (omega arith) part_length_after)

  store_after_length : length (store_after store) ≡ most * 8
  unfolding store_after
  store_after_length = part_length most 3 store (part_after store) h (omega arith) part_length_after

  -- the record and the store after the first reading pass, and after the second
  passes_after : (out : List ℕ) → output_fits most (length out) ≡ true → Passes (record_after 4 (Gathering 6)) (store_after store) out
  unfolding record_after channel_after held store_fits record_follows all_follow channel_follows state_follows hunts judged size_of layout.value_in layout.bits_from layout.first_among layout.width_among bits_at number_at
  passes_after out o = record {
    store_is_fit = rw store_after_length;
    output_is_fit = o;
    follows = rw (held_there, part_inside most 3 (store_after store) store_after_length (omega arith));
  }

  told2 : (out : List ℕ) → output_fits most (length out) ≡ true
      → told (record_after 4 (Gathering 6)) (store_after store) out frame2 ≡ values 1 10 5 1 0 0 2 0
  unfolding read.answer_over read.read_table_over read.kind_of read.report_of row1 fits_of frame_table row5 row6 row7 row8 row9 row10 row11 row12 secondary_size data_size word_of frame_of header_of layout.value_in layout.first_among layout.width_among layout.bits_from first_cause bits_at number_at steps_of carries_none gap_for gap_of hunted ended_by course_of walk_of turns turn seen_of front cut_of size_of idle_of tallied_all tallied reading.values_of resumed gathered agrees agrees_by called_at held record_after channel_after
  told2 out o =
      let p = passes_after out o in
      rw (p.store_is_fit, p.output_is_fit, p.follows, held_there)

  record2 : (out : List ℕ) → output_fits most (length out) ≡ true
      → read.record_of bench (record_after 4 (Gathering 6)) (store_after store) out frame2 ≡ record_after 5 (Gathering 0)
  unfolding read.record_over read.read_table_over read.record_after row1 fits_of frame_table row5 row6 row7 row8 row9 row10 row11 row12 secondary_size data_size word_of frame_of header_of layout.value_in layout.first_among layout.width_among layout.bits_from first_cause bits_at number_at steps_of carries_none gap_for gap_of hunted ended_by course_of walk_of turns turn seen_of front cut_of size_of idle_of tallied_all tallied resumed gathered agrees agrees_by called_at held record_after channel_after
  record2 out o =
      let p = passes_after out o in
      rw (p.store_is_fit, p.output_is_fit, p.follows, held_there)

  store2 : (out : List ℕ) → output_fits most (length out) ≡ true
      → read.store_of bench (record_after 4 (Gathering 6)) (store_after store) out frame2
      ≡ with_part most 3 (store_after store) (laid (part_of most 3 (store_after store)) 0 [])
  unfolding read.store_over read.read_table_over read.store_after row1 fits_of frame_table row5 row6 row7 row8 row9 row10 row11 row12 secondary_size data_size word_of frame_of header_of layout.value_in layout.first_among layout.width_among layout.bits_from first_cause bits_at number_at steps_of carries_none gap_for gap_of hunted ended_by course_of walk_of turns turn seen_of front cut_of size_of idle_of tallied_all tallied resumed gathered agrees agrees_by called_at held record_after channel_after
  store2 out o =
      let p = passes_after out o in
      rw (p.store_is_fit, p.output_is_fit, p.follows, held_there)

  store2_length : (out : List ℕ) → output_fits most (length out) ≡ true
      → length (read.store_of bench (record_after 4 (Gathering 6)) (store_after store) out frame2) ≡ most * 8
  store2_length out o =
      let s : List ℕ = store_after store in
      let l : length (part_of most 3 s) ≡ most = part_inside most 3 s store_after_length (omega arith) in
      ap length (store2 out o)
      ∙ part_length most 3 s (laid (part_of most 3 s) 0 []) store_after_length (omega arith) (ap length (laid_nil (part_of most 3 s) 0) ∙ l)

  -- the third reading, with B2 and without
  told3 : (out : List ℕ) → output_fits most (length out) ≡ true
      → told (record_after 4 (Gathering 6)) (store_after store) out frame3 ≡ values 2 11 6 2046 1 0 0 1
  unfolding read.answer_over read.read_table_over read.kind_of read.report_of row1 fits_of frame_table row5 row6 row7 row8 row9 row10 row11 row12 secondary_size data_size word_of frame_of header_of layout.value_in layout.first_among layout.width_among layout.bits_from first_cause bits_at number_at steps_of carries_none gap_for gap_of hunted ended_by course_of walk_of turns turn seen_of front cut_of size_of idle_of tallied_all tallied reading.values_of resumed record_after channel_after busy_state
  told3 out o =
      let p = passes_after out o in
      rw (p.store_is_fit, p.output_is_fit, p.follows)

told3_behind : (store out : List ℕ) → length store ≡ most * 8 → output_fits most (length out) ≡ true
    → told (record_after 5 (Gathering 0)) store out frame3 ≡ values 2 11 6 2046 0 0 0 0
unfolding read.answer_over read.read_table_over read.kind_of read.report_of row1 fits_of frame_table row5 row6 row7 row8 row9 row10 row11 row12 secondary_size data_size word_of frame_of header_of layout.value_in layout.first_among layout.width_among layout.bits_from first_cause bits_at number_at steps_of carries_none gap_for gap_of hunted ended_by course_of walk_of turns turn seen_of front cut_of size_of idle_of tallied_all tallied reading.values_of resumed record_after channel_after busy_state store_fits record_follows all_follow channel_follows state_follows hunts judged
told3_behind store out h o = rw (h, o, part_inside most 3 store h (omega arith))

-- B6 and B7
pointed : (store out : List ℕ) → Passes fresh_record store out
    → (number bench fresh_record store out (set frame1 5 14) ≡ 12 ∷ []) × (number bench fresh_record store out (set frame1 5 13) ≡ 0 ∷ [])
unfolding read.answer_over read.read_table_over read.kind_of read.report_of row1 fits_of frame_table row5 row6 row7 row8 row9 row10 row11 row12 secondary_size data_size word_of frame_of header_of layout.value_in layout.first_among layout.width_among layout.bits_from first_cause bits_at number_at steps_of carries_none gap_for gap_of hunted ended_by course_of walk_of turns turn seen_of front cut_of size_of idle_of tallied_all tallied reading.values_of resumed
pointed store out p = (rw (p.store_is_fit, p.output_is_fit, p.follows), rw (p.store_is_fit, p.output_is_fit, p.follows))

outside : (rec : Record) (store out f : List ℕ) → (number (bench_of 12) rec store out f ≡ 1 ∷ []) × (number (bench_of 2049) rec store out f ≡ 1 ∷ [])
unfolding read.answer_over read.read_table_over row1 fits_of first_cause reading.values_of
outside rec store out f = (refl, refl)

outside_writing : (v : ℕ) (p : Place) (word : Option ControlWord) (r out : List ℕ)
    → (writing_number (bench_of 12) v p word r out ≡ 1 ∷ []) × (writing_number (bench_of 2049) v p word r out ≡ 1 ∷ [])
unfolding write.answer_of write.next_of write.write_table row1 fits_of first_cause writing.values_of
outside_writing v p word r out = (refl, refl)

-- B5
told5 : (store out : List ℕ) → length store ≡ most * 8 → output_fits most (length out) ≡ true
    → told (heard_at 254) store out (set frame1 3 1) ≡ values 1 9 1 0 2 1 0 0
unfolding read.answer_over read.read_table_over read.kind_of read.report_of row1 fits_of frame_table row5 row6 row7 row8 row9 row10 row11 row12 secondary_size data_size word_of frame_of header_of layout.value_in layout.first_among layout.width_among layout.bits_from first_cause bits_at number_at steps_of carries_none gap_for gap_of hunted ended_by course_of walk_of turns turn seen_of front cut_of size_of idle_of tallied_all tallied reading.values_of resumed record_after channel_after busy_state store_fits record_follows all_follow channel_follows state_follows hunts judged
told5 store out h o = rw (h, o)

output_passes : (out : List ℕ) → 6144 ≤ length out → output_fits most (length out) ≡ true
unfolding output_fits
output_passes out h = le-leb 6144 (length out) h

fresh_passes : (store out : List ℕ) → length store ≡ 32768 → 6144 ≤ length out → Passes fresh_record store out
unfolding store_fits
fresh_passes store out h o =
    record { store_is_fit = rw h; output_is_fit = output_passes out o; follows = fresh_follows source most store }

-- B8, by the bound on every accepted frame
at_most_292 : (u : SetUp) (rec : Record) (store out f : List ℕ) → (frame_of u f).size ≡ 2042 → packets_finished (read.answer_of u rec store out f) ≤ 292
at_most_292 u rec store out f d = by (read.answer_of u rec store out f) refl
  where
    by : (a : Result Report Refusal) → read.answer_of u rec store out f ≡ a → packets_finished a ≤ 292
    by (Err r) e = omega arith
    by (Ok a) e =
        let b : ((frame_of u f).size + 6) / 7 ≡ 292 = rw d in
        omega (arith, few_enough u rec store out f a e)

-- a line and those below it
and : {A B : Type 0} → A → B → A × B
and a b = (a, b)

pub bench_holds : Bench
bench_holds i k =
    let p = fresh_passes i.store i.out₁ k.store_whole k.room₁ in
    let q₂ = output_passes i.out₂ k.room₂ in
    let q₃ = output_passes i.out₃ k.room₃ in
    let r₁ = record1 i.store i.out₁ p in
    let s₁ = store1 i.store i.out₁ p in
    let h = k.store_whole in
    let reading7 = outside i.rec i.any_store i.any_out i.any_frame in
    let writing7 = outside_writing i.any_channel i.any_place i.any_word i.any_run i.any_output in
    and (b1 i.w k.output_whole)
    (and (b2 i.w k.output_whole)
    (and (b3 i.w k.output_whole)
    (and (told1 i.store i.out₁ p)
    (and (output1 i.store i.out₁ p)
    (and (rw (r₁, s₁) (told2 i.store h i.out₂ q₂))
    (and (rw (r₁, s₁, record2 i.store h i.out₂ q₂) (told3_behind _ i.out₃ (store2_length i.store h i.out₂ q₂) q₃))
    (and (rw (r₁, s₁) (told3 i.store h i.out₃ q₃))
    (and (told5 i.store i.out₁ h p.output_is_fit)
    (and (pointed i.store i.out₁ p).0
    (and (pointed i.store i.out₁ p).1
    (and reading7.0
    (and reading7.1
    (and writing7.0
    (and writing7.1
    (and (at_most_292 i.u i.rec i.any_store i.any_out i.f k.field_of_2042) tt)))))))))))))))
