-- The writer's places: from a place that passes the tests no call is refused, each call gives the frame as laid, and the next place passes.
-- Assumes nothing.
use Rattle.std.specs.Prelude.{Option, Ok}
use mathlib.Core.Path.{◌≡◌}
use mathlib.Core.Bool.{true, false}
use mathlib.Core.List.{List, [], ◌∷◌}
use Prim.Native.Nat.{ℕ, ◌≤◌, ◌<◌}
use native.Mathlib.Omega.{arith}
use lib.ListN.{length}
use Rattle.packet.specs.Chain.{chain_of}
use Rattle.frame.specs.Counts.{after}
use Rattle.frame.specs.SetUp.{fits_of}
use Rattle.table.specs.Table.{None}
use Rattle.frame.specs.declared.closing.ControlWord.{ControlWord}
use Rattle.frame.specs.declared.set_up.SetUp.{SetUp}
use Rattle.table.proofs.Laws.{none_gives}
use Rattle.writing.specs.Writing.{row24, write_table, answer_of, next_of, output_of, next_place, frame_written}
use Rattle.writing.specs.declared.Place.{Place}
use Rattle.writing.proofs.Laws.{written_exactly, goes_on}
use Rattle.writing.proofs.WritingSteps.{few_left, passed, passing}
use Rattle.read_back.specs.Demand2.{Writing, Fair, NoneRefused, place_after}

-- what a call at this place passes, whatever output of N octets it is lent
pub record Writes (u : SetUp) (v : ℕ) (run : List ℕ) (p : Place) : Type 0 where
  pub fits : fits_of u ≡ true
  pub channel : v < 8
  pub short : length run ≤ 65536
  pub chain : chain_of run ≡ true
  pub inside : p.offset ≤ length run
  pub border : row24 (length run) p.offset p.left_over ≡ false
  pub master : p.master.0 < 256
  pub counted : p.count.0 < 256

after_lt : (n : ℕ) → after n < 256
unfolding after
after_lt n = omega arith

module _ {u : SetUp} {v : ℕ} {run : List ℕ} {p : Place} (s : Writes u v run p) where
  pub few : p.left_over ≤ 6
  few = few_left (length run) p.offset p.left_over s.border

  module _ (w : Option ControlWord) (out : List ℕ) (e : length out ≡ u.length) where
    none : None (write_table u v p run out)
    none = passed u v p run out s.fits s.channel s.short s.chain s.inside s.border e

    pub answers : answer_of u v p run out ≡ Ok tt
    answers = (written_exactly u v p run out).1 none

    pub next_is : next_of u v p w run out ≡ next_place u p w run
    unfolding next_of
    next_is = none_gives (λ _. p) (next_place u p w run) (write_table u v p run out) none

    pub output_is : output_of u v p w run out ≡ frame_written u v p w run
    unfolding output_of
    output_is = none_gives (λ _. out) (frame_written u v p w run) (write_table u v p run out) none

    place_writes : Writes u v run (next_place u p w run)
    unfolding next_place
    place_writes =
        let g = goes_on u v p w run out answers in
        let t = passing u v (next_place u p w run) run out ((written_exactly u v (next_place u p w run) run out).0 g.next_passes) in
        record {
          fits = s.fits;
          channel = s.channel;
          short = s.short;
          chain = s.chain;
          inside = g.inside;
          border = t.1;
          master = after_lt p.master.0;
          counted = after_lt p.count.0;
        }

    pub next_writes : Writes u v run (next_of u v p w run out)
    next_writes = rw next_is place_writes

pub none_refused : {u : SetUp} {v : ℕ} {run : List ℕ} (cs : List Writing) (p : Place) → Writes u v run p → Fair u cs → NoneRefused u v run p cs
none_refused [] p s f = tt
none_refused (c ∷ cs) p s f = (answers s c.word c.out f.0, none_refused cs _ (next_writes s c.word c.out f.0) f.2)

pub writes_after : {u : SetUp} {v : ℕ} {run : List ℕ} (cs : List Writing) (p : Place) → Writes u v run p → Fair u cs
    → Writes u v run (place_after u v run p cs)
unfolding place_after
writes_after [] p s f = s
writes_after (c ∷ cs) p s f = writes_after cs _ (next_writes s c.word c.out f.0) f.2
