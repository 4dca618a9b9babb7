-- One call by its table: the first cause found, row by row, and what a refusal and an acceptance answer and leave.
-- Assumes nothing.
use Rattle.std.specs.Prelude.{Ok, Err, Result}
use mathlib.Core.Path.{◌≡◌, refl, ◌∙◌, sym, ap}
use mathlib.Core.Bool.{Bool, true, false, not}
use mathlib.Core.List.{List, [], ◌∷◌, map}
use mathlib.Core.Logic.{inl, inr}
use Prim.Native.Nat.{ℕ, ◌+◌, ◌*◌}
use native.Mathlib.Omega.{arith}
use lib.ListN.{length}
use borrow.Author.Tests.{not-false, eqb-true, leb-true}
use Rattle.octets.specs.Pick.{pick}
use Rattle.packet.specs.Family.{Family}
use Rattle.frame.specs.Opening.{frame_table, open_table, open_of, frame_of, row1}
use Rattle.frame.specs.SetUp.{fits_of}
use Rattle.table.specs.Table.{Row, first_cause, First, None}
use Rattle.frame.specs.declared.opening.Frame.{Frame}
use Rattle.frame.specs.declared.opening.Refusal.{Refusal as FrameRefusal}
use Rattle.frame.specs.declared.opening.Refusal.TheVariants.{SetUpRange}
use Rattle.frame.specs.declared.set_up.SetUp.{SetUp}
use Rattle.frame.proofs.Laws.{row1_fits, rows_tested, opened_in_range, frame_accepted, opened_sound}
use Rattle.table.proofs.Laws.{next, made, first_gives, none_gives, first_exactly, none_exactly}
use Rattle.channel.specs.Rules.{record_follows}
use Rattle.channel.specs.Store.{store_fits, output_fits}
use Rattle.channel.specs.declared.state.Record.{Record}
use Rattle.reading.specs.declared.Refusal.{Refusal}
use Rattle.reading.specs.declared.Refusal.TheVariants.{OfFrame, StoreLength, OutputLength, BrokenRecord}
use Rattle.reading.specs.declared.Report.{Report}
use Rattle.reading.specs.Inside.{ReadBy, Ready, tested_over}
use Rattle.reading.specs.Reading.{of_frame, read_table_over, channel_of, done_by, report_of, record_after, store_after, output_after, answer_over, record_over, store_over, output_over, ReadOver}

-- the frame part's rows, as rows of the reader's table
none_up : (rows : List (Row FrameRefusal)) → None rows → None (map of_frame rows)
none_up [] h = tt
none_up (a ∷ rows) h = (h.0, none_up rows h.1)

none_down : (rows : List (Row FrameRefusal)) → None (map of_frame rows) → None rows
none_down [] h = tt
none_down (a ∷ rows) h = (h.0, none_down rows h.1)

-- test 2 in numbers
whole_store : (limit n : ℕ) → store_fits limit n ≡ true → n ≡ limit * 8
unfolding store_fits
whole_store limit n e = eqb-true n (limit * 8) e

-- what the frame part answers, as the reader's answer
abbrev pub raised : Result Frame FrameRefusal → Result Frame Refusal
raised (Err r) = Err (OfFrame r)
raised (Ok x) = Ok x

first_raised : (rows : List (Row FrameRefusal)) (x : Frame) → first_cause (map of_frame rows) Err (Ok x) ≡ first_cause rows (λ r. Err (OfFrame r)) (Ok x)
unfolding first_cause
first_raised [] x = refl
first_raised (a ∷ rows) x = ap (pick a.cause (Err (OfFrame a.case))) (first_raised rows x)

frame_raised : (u : SetUp) (f : List ℕ) → fits_of u ≡ true → first_cause (map of_frame (frame_table u f)) Err (Ok (frame_of u f)) ≡ raised (open_of u f)
frame_raised u f a =
    first_raised (frame_table u f) (frame_of u f) ∙ sym (made raised Err (Ok (frame_of u f)) (frame_table u f))
    ∙ ap raised (sym (opened_in_range u f a))

-- the tests, one after the other
pub tests_told : (F : Family) (limit : ℕ) (u : SetUp) (rec : Record) (store out f : List ℕ) → tested_over F limit u rec store out f
    ≡ pick (not (fits_of u)) (Err (OfFrame SetUpRange)) (pick (not (store_fits limit (length store))) (Err StoreLength)
    (pick (not (output_fits limit (length out))) (Err OutputLength) (pick (not (record_follows F limit store rec)) (Err BrokenRecord) (raised (open_of u f)))))
unfolding tested_over read_table_over first_cause
tests_told F limit u rec store out f = rw (rows_tested u 0 []).0 (go (fits_of u) refl)
  where
    go : (b : Bool) → fits_of u ≡ b → pick (not (fits_of u)) (Err (OfFrame SetUpRange)) (pick (not (store_fits limit (length store))) (Err StoreLength)
        (pick (not (output_fits limit (length out))) (Err OutputLength) (pick (not (record_follows F limit store rec)) (Err BrokenRecord) (first_cause (map of_frame (frame_table u f)) Err (Ok (frame_of u f))))))
        ≡ pick (not (fits_of u)) (Err (OfFrame SetUpRange)) (pick (not (store_fits limit (length store))) (Err StoreLength)
        (pick (not (output_fits limit (length out))) (Err OutputLength) (pick (not (record_follows F limit store rec)) (Err BrokenRecord) (raised (open_of u f)))))
    go true e = rw (frame_raised u f e)
    go false e = rw e

-- a cause behind others, and none
module _ (F : Family) (limit : ℕ) (u : SetUp) (rec : Record) (store out f : List ℕ) (a : fits_of u ≡ true) (b : store_fits limit (length store) ≡ true)
    (c : output_fits limit (length out) ≡ true) where
  pub at_record : record_follows F limit store rec ≡ false → First (read_table_over F limit u rec store out f) BrokenRecord
  unfolding read_table_over
  at_record d = inr ((row1_fits u).1.1 a, inr (rw b, inr (rw c, inl (refl, rw d))))

  pub at_none : record_follows F limit store rec ≡ true → (x : Frame) → open_of u f ≡ Ok x → (x ≡ frame_of u f) × None (read_table_over F limit u rec store out f)
  unfolding read_table_over
  at_none d x e =
      let o = (frame_accepted u f x).0 e in
      (o.0, ((row1_fits u).1.1 a, (rw b, (rw c, (rw d, none_up (frame_table u f) o.2)))))

-- one answer is not the other
accepted_refused : {A : Type 0} (a : A) (r : Refusal) → ◌≡◌ {A = Result A Refusal} (Ok a) (Err r) → ⊥
accepted_refused a r q = let z : ◌≡◌ {A = ℕ} 0 1 = cc in omega arith

-- what steps 1 to 5 make of a frame is what the call answers and leaves
abbrev pub LeftBy : Family → ℕ → SetUp → Record → List ℕ → List ℕ → List ℕ → Type 0
LeftBy F limit u rec store out f =
    let x = frame_of u f in
    let d = done_by F limit x rec store f in
    ReadOver F limit u rec store out f (Ok (report_of F x (channel_of x rec) d)) (record_after x rec d) (store_after limit x store d) (output_after F out d)

module _ (F : Family) (limit : ℕ) (u : SetUp) (rec : Record) (store out f : List ℕ) where
  -- without a cause the frame opens
  pub opened : None (read_table_over F limit u rec store out f) → open_of u f ≡ Ok (frame_of u f)
  unfolding read_table_over
  opened n = (frame_accepted u f (frame_of u f)).1 (refl, (row1_fits u).1.0 n.0, none_down (frame_table u f) n.1.1.1.1)

  -- a call that is refused found a cause, and one that is accepted found none
  pub found_cause : (r : Refusal) → answer_over F limit u rec store out f ≡ Err r → First (read_table_over F limit u rec store out f) r
  unfolding answer_over
  found_cause r e = (first_exactly {A = Result Report Refusal} Err _ (λ s r q. cc) (λ r. accepted_refused _ r) (read_table_over F limit u rec store out f) r).0 e

  pub found_none : (a : Report) → answer_over F limit u rec store out f ≡ Ok a → None (read_table_over F limit u rec store out f)
  unfolding answer_over
  found_none a e = ((none_exactly Err _ (Ok a) (λ r q. accepted_refused a r (sym q)) (read_table_over F limit u rec store out f)).0 e).1

  -- a refusal answers its case, and leaves record, store and output
  pub refuses : (r : Refusal) → First (read_table_over F limit u rec store out f) r → ReadOver F limit u rec store out f (Err r) rec store out
  unfolding answer_over record_over store_over output_over
  refuses r h =
      record {
        answers = sym (first_gives Err _ (read_table_over F limit u rec store out f) r h);
        record_left = sym (first_gives (λ _. rec) _ (read_table_over F limit u rec store out f) r h);
        store_left = sym (first_gives (λ _. store) _ (read_table_over F limit u rec store out f) r h);
        output_left = sym (first_gives (λ _. out) _ (read_table_over F limit u rec store out f) r h);
      }

  -- what the tests answered: the first cause, or the frame and no cause
  module _ (t : Result Frame Refusal) (e : t ≡ tested_over F limit u rec store out f) where
    pub test_failed : (r : Refusal) → t ≡ Err r → ReadOver F limit u rec store out f (Err r) rec store out
    unfolding tested_over
    test_failed r h = refuses r ((first_exactly Err _ (λ s q k. cc) (λ q. accepted_refused _ q) (read_table_over F limit u rec store out f) r).0 (sym e ∙ h))

    pub tests_passed : (x : Frame) → t ≡ Ok x → (x ≡ frame_of u f) × None (read_table_over F limit u rec store out f)
    unfolding tested_over
    tests_passed x h =
        let n = (none_exactly Err (Ok (frame_of u f)) (Ok x) (λ r q. accepted_refused x r (sym q)) (read_table_over F limit u rec store out f)).0 (sym e ∙ h) in
        (cc n.0, n.1)

  -- a call without a cause is what steps 1 to 5 make of it
  module _ (x : Frame) (n : (x ≡ frame_of u f) × None (read_table_over F limit u rec store out f)) where
    pub accepts : (answer : Result Report Refusal) (rec' : Record) (store' out' : List ℕ) → ReadBy F limit x rec store out f answer rec' store' out'
        → ReadOver F limit u rec store out f answer rec' store' out'
    unfolding answer_over record_over store_over output_over
    accepts answer rec' store' out' b =
        let t = rw n.0 at b in
        record {
          answers = t.answers ∙ sym (none_gives Err _ (read_table_over F limit u rec store out f) n.1);
          record_left = t.record_left ∙ sym (none_gives (λ _. rec) _ (read_table_over F limit u rec store out f) n.1);
          store_left = t.store_left ∙ sym (none_gives (λ _. store) _ (read_table_over F limit u rec store out f) n.1);
          output_left = t.output_left ∙ sym (none_gives (λ _. out) _ (read_table_over F limit u rec store out f) n.1);
        }

    -- and what those may rely on
    pub ready : Ready F limit rec x f store out
    unfolding read_table_over output_fits
    ready =
        let t = n.1.1 in
        let s = opened_sound u f (frame_of u f) (opened n.1) in
        rw n.0
        (record {
          store_whole = whole_store limit (length store) (not-false _ t.0);
          output_room = leb-true (limit + 2048) (length out) (not-false _ t.1.0);
          follows = not-false _ t.1.1.0;
          inside = s.inside;
          some = s.least;
          few = s.most;
          channel = s.channel;
          points = s.pointer;
        })

  -- so that is what it answers and leaves
  pub leaves : None (read_table_over F limit u rec store out f) → LeftBy F limit u rec store out f
  leaves n =
      accepts (frame_of u f) (refl, n) _ _ _ _ (record { answers = refl; record_left = refl; store_left = refl; output_left = refl })
