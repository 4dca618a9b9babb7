-- What the reader and the writer give over the boundary can be laid down as words.
-- Assumes nothing.
use Rattle.std.specs.Prelude.{Option, Result}
use mathlib.Core.Path.{◌≡◌}
use mathlib.Core.List.{List}
use Prim.Native.Nat.{ℕ, ◌^◌, ◌<◌}
use Rattle.frame.specs.declared.closing.ControlWord.{ControlWord}
use Rattle.frame.specs.declared.set_up.SetUp.{SetUp}
use Rattle.channel.specs.declared.state.Record.{Record}
use Rattle.reading.specs.Reading.{Read}
use Rattle.octets.specs.Octets.{Octets}
use Rattle.reading.specs.declared.Refusal.{Refusal}
use Rattle.reading.specs.declared.Report.{Report}
use Rattle.writing.specs.Writing.{Wrote}
use Rattle.writing.specs.declared.Refusal.{Refusal as WriteRefusal}
use Rattle.writing.specs.declared.Place.{Place}
use Rattle.host_answers.specs.Answer.{Lays}
use Rattle.host_words.specs.Words.{unpacked}
use Rattle.host_telemetry.proofs.FitLaws.{answer_lays, next_fits}

module _ (u set : SetUp) (words store out f : List ℕ) (rec : Record) (given : Result Report Refusal) (after : Record) (store' out' : List ℕ)
    (us : set ≡ u) (ur : rec ≡ unpacked words) (h : Read set rec store out f given after store' out') where
  told : Read u (unpacked words) store out f given after store' out'
  told = rw (us, ur) at h

  pub given_lays : Octets store → Octets f → Lays given after words
  given_lays os of = rw (told.answers, told.record_left) (answer_lays u words store out f os of)

module _ (u set : SetUp) (channel : ℕ) (p : Place) (w control : Option ControlWord) (run out : List ℕ) (given : Result (Unit {0}) WriteRefusal) (next : Place) (out' : List ℕ)
    (us : set ≡ u) (uw : control ≡ w) (h : Wrote set channel p control run out given next out') where
  wrote : Wrote u channel p w run out given next out'
  wrote = rw (us, uw) at h

  pub place_fits : p.offset < 2 ^ 32 → p.left_over < 2 ^ 32 → (next.offset < 2 ^ 32) × (next.left_over < 2 ^ 32)
  place_fits a b = rw wrote.goes_on (next_fits u channel p w run out a b)
