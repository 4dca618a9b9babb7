-- The history of specs/Witness.antt meets the conditions of demand 3, what is due in each arrival is computed, and by demand 3 it is handed
-- out.
-- Assumes nothing.
use Rattle.std.specs.Prelude.{Ok}
use mathlib.Core.Path.{◌≡◌, refl, sym}
use mathlib.Core.Bool.{Bool, true, false, ◌&&◌}
use mathlib.Core.List.{List, [], ◌∷◌, ◌++◌, map}
use mathlib.Core.Logic.{inl, inr}
use Prim.Native.Nat.{ℕ, zero, suc, ◌+◌, ◌≤◌, ◌<◌}
use native.Mathlib.Omega.{arith}
use lib.Dec.{ltb}
use lib.ListN.{length, drop}
use borrow.Author.Tests.{ltb-true, le-leb, ne_eqb, lt-leb}
use Rattle.octets.specs.Laid.{laid}
use Rattle.octets.proofs.Runs.{laid_nil}
use Rattle.octets.specs.Layout as layout
use Rattle.octets.specs.Numbers.{bits_at, number_at}
use Rattle.octets.specs.Octets.{Octets}
use Rattle.packet.specs.Family.{AllWhole}
use Rattle.packet.specs.Size.{most, size_of, idle_of, source}
use Rattle.frame.specs.Counts.{after}
use Rattle.frame.specs.Header.{header_of}
use Rattle.frame.specs.Opening.{open_of, open_table, frame_table, frame_of, secondary_size, data_size, word_of, row1, row5, row6, row7, row8, row9, row10, row11, row12}
use Rattle.frame.specs.SetUp.{fits_of, most_length}
use Rattle.table.specs.Table.{first_cause}
use Rattle.frame.specs.declared.opening.Refusal.TheVariants.{OtherSpacecraft}
use Rattle.channel.specs.State.{fresh_record}
use Rattle.channel.specs.Store.{store_fits, output_fits}
use Rattle.channel.specs.declared.state.Record.{Record}
use Rattle.channel.proofs.Laws.{fresh_follows}
use Rattle.channel.proofs.RuleLaws.{both}
use Rattle.reading.specs.Reading.{answer_over, record_of, store_of, read_table_over, report_of, channel_of, done_by}
use Rattle.reading.specs.declared.Refusal.TheVariants.{OfFrame, OutputLength, StoreLength}
use Rattle.demands.specs.History.{Harmless, Refuses, Allowed, Delivers, last_in, all_arrived, wanted, unwanted}
use Rattle.demands.specs.Sender.{Mark, Sent, Sends, stream_of, inner, marks_of, marks_of_all, octets_marked, first_start, between}
use Rattle.demands.specs.Sender.Sends.{no_more, packets, idle}
use Rattle.bench.specs.Witness.{ours, theirs, earlier, first, second, fourth, fifth, sixth, laid_packets, frame1, frame2, frame3, frame4, frame5, frame6, frame7, frames, elsewhere, history, brought_in, outputs_of, due_table, idle_table, Demand3Met}
use Rattle.demands.proofs.Calls.{Fine, fine_after, others_keep, read}
use Rattle.walk.proofs.SourceLaws.{source_roomy}
use Rattle.demands.proofs.Demand3.{demand3_fresh}

-- octets by a test of each
below : List ℕ → Bool
below [] = true
below (o ∷ l) = ltb o 256 && below l

octets_by : (l : List ℕ) → below l ≡ true → Octets l
unfolding below
octets_by [] e i = omega arith
octets_by (o ∷ l) e zero = ltb-true o 256 (both (ltb o 256) (below l) e).0
octets_by (o ∷ l) e (suc i) = octets_by l (both (ltb o 256) (below l) e).1 i

real6 : Octets frame6
unfolding below
real6 = octets_by frame6 refl

-- the sender's frames
sent : (f : List ℕ) (count : ℕ) → below f ≡ true → open_of ours f ≡ Ok (frame_of ours f)
    → (frame_of ours f).header.channel ≡ 3 → (frame_of ours f).header.synchronisation ≡ false → (frame_of ours f).header.count.0 ≡ count
    → Sent ours 3 count f (frame_of ours f)
sent f count o e c s n = record { real = octets_by f o; opens = e; channel = c; not_private = s; counted = n }

all_whole : AllWhole source laid_packets
unfolding size_of layout.value_in layout.bits_from layout.first_among layout.width_among bits_at number_at
all_whole = (refl, (refl, (refl, (refl, (refl, (refl, (refl, tt)))))))

sends_all : Sends ours 3 254 (stream_of earlier laid_packets) frames
unfolding below open_of open_table frame_table frame_of first_cause row1 row5 row6 row7 row8 row9 row10 row11 row12 fits_of header_of layout.value_in layout.first_among layout.width_among layout.bits_from secondary_size data_size word_of bits_at number_at after stream_of inner marks_of marks_of_all octets_marked first_start between
sends_all =
    let all : List Mark = stream_of earlier laid_packets in
    packets 254 all frame1 _ (frame_of ours frame1) (sent frame1 254 refl refl refl refl refl) (omega arith) refl refl
    (packets 255 (drop 14 all) frame2 _ (frame_of ours frame2) (sent frame2 255 refl refl refl refl refl) (omega arith) refl refl
    (packets 0 (drop 25 all) frame3 _ (frame_of ours frame3) (sent frame3 0 refl refl refl refl refl) (omega arith) refl refl
    (idle 1 (drop 39 all) frame4 _ (frame_of ours frame4) (sent frame4 1 refl refl refl refl refl) refl refl
    (packets 2 (drop 39 all) frame5 _ (frame_of ours frame5) (sent frame5 2 refl refl refl refl refl) (omega arith) refl refl
    (packets 3 (drop 53 all) frame6 _ (frame_of ours frame6) (sent frame6 3 refl refl refl refl refl) (omega arith) refl refl
    (packets 4 (drop 67 all) frame7 _ (frame_of ours frame7) (sent frame7 4 refl refl refl refl refl) (omega arith) refl refl
    (no_more 5 [])))))))

-- an arriving frame keeps record and store fine
arrived : (f : List ℕ) (rec : Record) (store out : List ℕ) → below f ≡ true → open_of ours f ≡ Ok (frame_of ours f)
    → Fine source most rec store → most + most_length ≤ length out → Fine source most (record_of ours rec store out f) (store_of ours rec store out f)
arrived f rec store out o e k r = fine_after source_roomy ours rec store out f (frame_of ours f) k r e (octets_by f o)

-- the calls in between: accepted on channel 5; refused by test 3; refused by test 8
module _ (rec : Record) (store out : List ℕ) (k : Fine source most rec store) where
  elsewhere_harmless : most + most_length ≤ length out → Harmless source most 3 ours rec store out elsewhere
  unfolding open_of open_table frame_table frame_of first_cause row1 row5 row6 row7 row8 row9 row10 row11 row12 fits_of header_of layout.value_in layout.first_among layout.width_among layout.bits_from secondary_size data_size word_of bits_at number_at report_of
  elsewhere_harmless r =
      let x = frame_of ours elsewhere in
      inr (
        report_of source x (channel_of x rec) (done_by source most x rec store elsewhere),
        (sym (read source_roomy ours rec store out elsewhere x k r refl).answers, λ z. omega arith),
      )

  short_harmless : length out < 6144 → Harmless source most 3 ours rec store out frame6
  unfolding answer_over read_table_over first_cause row1 fits_of store_fits output_fits
  short_harmless h = inl (OutputLength, rw (k.store_whole, lt-leb 6144 (length out) h))

  theirs_harmless : most + most_length ≤ length out → Harmless source most 3 theirs rec store out frame6
  unfolding answer_over read_table_over frame_table first_cause row1 row5 row6 row7 row8 fits_of header_of layout.value_in layout.first_among layout.width_among layout.bits_from bits_at number_at store_fits output_fits
  theirs_harmless r = inl (OfFrame OtherSpacecraft, rw (k.store_whole, le-leb 6144 (length out) r, k.follows))

-- refused by test 2
other_store : (rec : Record) (store out : List ℕ) → (length store ≡ 32768 → ⊥) → Refuses source most ours rec store out frame6
unfolding answer_over read_table_over first_cause row1 fits_of store_fits
other_store rec store out h = (StoreLength, rw (ne_eqb (length store) 32768 h))

is_due : (out : ℕ → List ℕ) (short store' : List ℕ) → map (wanted source) (brought_in ours earlier laid_packets [] frames (history out short store')) ≡ due_table
unfolding brought_in frame_of header_of layout.value_in layout.first_among layout.width_among layout.bits_from secondary_size data_size word_of bits_at number_at last_in all_arrived wanted idle_of
is_due out short store' = refl

is_idle : (out : ℕ → List ℕ) (short store' : List ℕ) → map (unwanted source) (brought_in ours earlier laid_packets [] frames (history out short store')) ≡ idle_table
unfolding brought_in frame_of header_of layout.value_in layout.first_among layout.width_among layout.bits_from secondary_size data_size word_of bits_at number_at last_in all_arrived unwanted idle_of
is_idle out short store' = refl

module _ (store : List ℕ) (out : ℕ → List ℕ) (short store' : List ℕ) (length_is : length store ≡ 32768) (octets : Octets store)
    (room : (i : ℕ) → 6144 ≤ length (out i)) (too_short : length short < 6144) (not_whole : length store' ≡ 32768 → ⊥) where
  is_allowed : Allowed source most ours 3 fresh_record store false 0 frames (history out short store')
  unfolding below open_of open_table frame_table frame_of first_cause row1 row5 row6 row7 row8 row9 row10 row11 row12 fits_of header_of layout.value_in layout.first_among layout.width_among layout.bits_from secondary_size data_size word_of bits_at number_at store_fits
  is_allowed =
      let k₀ : Fine source most fresh_record store = record { eight = refl; store_whole = length_is; octets = octets; follows = fresh_follows source most store } in
      let k₁ = arrived frame1 fresh_record store (out 1) refl refl k₀ (room 1) in
      let e = elsewhere_harmless _ _ (out 2) k₁ (room 2) in
      let k₂ = (others_keep source_roomy 3 ours _ _ (out 2) elsewhere (omega arith) k₁ (octets_by elsewhere refl) e).fine in
      let k₃ = arrived frame2 _ _ (out 3) refl refl k₂ (room 3) in
      let k₄ = arrived frame3 _ _ (out 4) refl refl k₃ (room 4) in
      let k₅ = arrived frame4 _ _ (out 5) refl refl k₄ (room 5) in
      let s = short_harmless _ _ short k₅ too_short in
      let k₆ = (others_keep source_roomy 3 ours _ _ short frame6 (omega arith) k₅ real6 s).fine in
      let t = theirs_harmless _ _ (out 6) k₆ (room 6) in (
        room 1,
        λ z. omega arith,
        (
          octets_by elsewhere refl,
          e,
          (
            room 3,
            λ z. omega arith,
            (
              room 4,
              λ z. omega arith,
              (
                room 5,
                λ z. omega arith,
                (real6, s, (real6, t, (other_store _ store' (out 7) not_whole, (room 8, λ z. omega arith, (room 9, λ z. omega arith, tt))))),
              ),
            ),
          ),
        ),
      )

  delivers : Delivers source most ours earlier laid_packets fresh_record store [] frames (history out short store')
  delivers =
      demand3_fresh ours 3 254 earlier laid_packets frames store (history out short store') all_whole sends_all (omega arith) length_is octets
      is_allowed

  is_handed : outputs_of ours fresh_record store frames (history out short store')
      ≡ out 1 ∷ laid (out 3) 0 first ∷ laid (out 4) 0 second ∷ out 5 ∷ laid (out 8) 0 fourth ∷ laid (out 9) 0 (fifth ++ sixth) ∷ []
  unfolding frame_of header_of layout.value_in layout.first_among layout.width_among layout.bits_from secondary_size data_size word_of bits_at number_at last_in all_arrived wanted unwanted idle_of
  is_handed =
      let d₁ = delivers in
      let d₂ = d₁.1 in
      let d₃ = d₂.1 in
      let d₄ = d₃.1 in
      let d₅ = d₄.1 in
      let d₆ = d₅.1 in
      rw (
        d₁.0.hands,
        d₂.0.hands,
        d₃.0.hands,
        d₄.0.hands,
        d₅.0.hands,
        d₆.0.hands,
        laid_nil (out 1) 0,
        laid_nil (out 5) 0,
      )

pub demand3_met : Demand3Met
demand3_met store out short store' l o r s n =
    record {
      whole = all_whole;
      sends = sends_all;
      allowed = is_allowed store out short store' l o r s n;
      due = is_due out short store';
      idle = is_idle out short store';
      hands = is_handed store out short store' l o r s n;
    }
