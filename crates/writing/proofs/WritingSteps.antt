-- The table of writing: which test gives which answer, what passes it, and what is left then.
-- Assumes nothing.
use mathlib.Core.Path.{◌≡◌, refl}
use mathlib.Core.Bool.{Bool, true, false, not, ◌&&◌, ◌||◌}
use mathlib.Core.List.{List}
use mathlib.Core.Logic.{◌⊎◌, inl, inr}
use Prim.Native.Nat.{ℕ, ◌≤◌, ◌<◌}
use lib.Dec.{eqb, ltb}
use Rattle.octets.specs.Pick.{pick}
use lib.ListN.{length}
use borrow.Author.Tests.{eq-eqb, ne_eqb, le-ltb, not-false, ltb-false, eqb-true}
use Rattle.std.specs.Prelude.{Ok, Err}
use Rattle.packet.specs.Chain.{chain_of}
use Rattle.frame.specs.Closing.{row20, row25}
use Rattle.frame.specs.Opening.{row1}
use Rattle.frame.specs.SetUp.{fits_of}
use Rattle.table.specs.Table.{first_cause, None}
use Rattle.frame.specs.declared.set_up.SetUp.{SetUp}
use Rattle.frame.proofs.Laws.{row1_fits, row20_exactly, row25_exactly, rows_tested}
use Rattle.writing.specs.declared.Place.{Place}
use Rattle.writing.specs.declared.Refusal.TheVariants.{SetUpRange, ChannelAbove, RunLength, NotAChain, OffsetPast, LeftOver, OutputLength}
use Rattle.writing.specs.Inside.{Ready}
use Rattle.writing.specs.Writing.{row21, row22, row23, row24, write_table, answer_of}

or_none : (a b : Bool) → a || b ≡ false → (a ≡ false) × (b ≡ false)
or_none true b e = (e, cc)
or_none false b e = (refl, e)

and_none : (a : Bool) → a && false ≡ false
and_none true = refl
and_none false = refl

-- what decides row 24
module _ (end offset left : ℕ) where
  pub none_left : left ≤ 6 → left ≡ 0 → false ≡ row24 end offset left
  unfolding row24
  none_left h e = rw (le-ltb 6 left h, eq-eqb left 0 e)

  -- and what it says where it passes
  module _ (e : row24 end offset left ≡ false) where
    pub few_left : left ≤ 6
    unfolding row24
    few_left = ltb-false 6 left (or_none (ltb 6 left) _ e).0

    pub at_border : (left ≡ 0 → ⊥) → (offset ≡ 0) ⊎ (offset ≡ end)
    unfolding row24
    at_border l = either (eqb offset 0) refl (rw (ne_eqb left 0 l) at (or_none (ltb 6 left) _ e).1)
      where
        either : (b : Bool) → eqb offset 0 ≡ b → not (eqb offset 0) && not (eqb offset end) ≡ false → (offset ≡ 0) ⊎ (offset ≡ end)
        either true q r = inl (eqb-true offset 0 q)
        either false q r = inr (eqb-true offset end (not-false _ (rw q at r)))

  pub border_passes : left ≤ 6 → (offset ≡ 0) ⊎ (offset ≡ end) → row24 end offset left ≡ false
  unfolding row24
  border_passes h (inl e) = rw (le-ltb 6 left h, eq-eqb offset 0 e) (and_none (not (eqb left 0)))
  border_passes h (inr e) = rw (le-ltb 6 left h, eq-eqb offset end e, and_none (not (eqb offset 0))) (and_none (not (eqb left 0)))

-- the tests, one after the other
pub tests_told : (u : SetUp) (channel : ℕ) (p : Place) (run out : List ℕ) → answer_of u channel p run out
    ≡ pick (not (fits_of u)) (Err SetUpRange) (pick (not (ltb channel 8)) (Err ChannelAbove) (pick (ltb 65536 (length run)) (Err RunLength) (pick (not (chain_of run)) (Err NotAChain)
    (pick (ltb (length run) p.offset) (Err OffsetPast) (pick (row24 (length run) p.offset p.left_over) (Err LeftOver) (pick (not (eqb (length out) u.length)) (Err OutputLength) (Ok tt)))))))
unfolding answer_of write_table first_cause row21 row22 row23
tests_told u channel p run out = let t = rows_tested u channel out in rw (t.0, t.1, t.2) refl

-- the tests and the table
module _ (u : SetUp) (channel : ℕ) (p : Place) (run out : List ℕ) where
  pub passed : fits_of u ≡ true → channel < 8 → length run ≤ 65536 → chain_of run ≡ true → p.offset ≤ length run
      → row24 (length run) p.offset p.left_over ≡ false → length out ≡ u.length → None (write_table u channel p run out)
  unfolding write_table row21 row22 row23
  passed a b c d e f g = ((row1_fits u).1.1 a, ((row20_exactly channel).1.1 b, (le-ltb 65536 (length run) c, (rw d, (le-ltb (length run) p.offset e, (f, ((row25_exactly u out).1.1 g, tt)))))))

  -- what holds where no cause does
  pub passing : None (write_table u channel p run out) → Ready u channel p run out × (row24 (length run) p.offset p.left_over ≡ false)
  unfolding write_table row21 row22 row23
  passing n = (
    record {
      fits = (row1_fits u).1.0 n.0;
      channel_fits = (row20_exactly channel).1.0 n.1.0;
      run_fits = ltb-false 65536 (length run) n.1.1.0;
      chain = not-false _ n.1.1.1.0;
      inside = ltb-false (length run) p.offset n.1.1.1.1.0;
      left_fits = few_left (length run) p.offset p.left_over n.1.1.1.1.1.0;
      output_whole = (row25_exactly u out).1.0 n.1.1.1.1.1.1.0;
    },
    n.1.1.1.1.1.0,
  )
