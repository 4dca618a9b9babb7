-- Demand 2: the frames of a run, written call after call and read in order from a fresh record, give exactly its packets that are not idle and
-- have at most 4,096 octets. It is the case of one run of what is proved of runs one after another.
-- Assumes nothing.
use mathlib.Core.Path.{◌≡◌, refl, ◌∙◌, sym, ap}
use mathlib.Core.List.{List, [], ◌∷◌, map}
use Prim.Native.Nat.{ℕ, suc}
use native.Mathlib.Omega.{arith}
use lib.ListN.{length}
use Rattle.packet.specs.Size.{most, source}
use Rattle.packet.specs.Theorems.{end_to_end}
use Rattle.frame.specs.declared.set_up.SetUp.{SetUp}
use Rattle.channel.specs.State.{fresh_record}
use Rattle.walk.proofs.SourceLaws.{source_roomy}
use Rattle.writing.specs.declared.Place.{Place}
use Rattle.read_back.specs.Demand2.{Writing, Demand2General, Demand2, fitting, frames}
use Rattle.demands.specs.History.{handed_out, wanted}
use Rattle.demands.specs.History.Event.{arrives}
use Rattle.read_back.specs.WriterSends.{frames_of}
use Rattle.read_back.proofs.Places.{none_refused}
use Rattle.read_back.proofs.Reaches.{gets_there}
use Rattle.read_back.proofs.WriterSends.{begins, one_run, one_writable, one_frames, one_filled, one_packets, runs_read_back_general}

as_many : (u : SetUp) (v : ℕ) (run : List ℕ) (cs : List Writing) (p : Place) → length (frames u v run p cs) ≡ length cs
unfolding frames
as_many u v run [] p = refl
as_many u v run (c ∷ cs) p = ap suc (as_many u v run cs _)

-- for every limit that is wide enough
pub demand2_general : Demand2General
demand2_general limit G u v ps p cs store outs fits channel w real short start left master count fair whole octets many roomy =
    let i = one_writable u v ps p cs fits channel w real short start left master count fair in
    let s = begins i in
    let rs = one_run ps cs in
    let fs = frames u v (end_to_end ps) p cs in
    let e = one_frames u v ps p cs in
    let m : length outs ≡ length (frames_of u v p rs) = many ∙ sym (ap length e ∙ as_many u v (end_to_end ps) cs p) in
    let b = runs_read_back_general limit G u v p rs store outs i tt whole octets m roomy in
    record {
      written = none_refused cs p s fair;
      gets_there = λ h. gets_there cs p s fair (omega arith);
      read_back = rw (one_filled u v ps p cs, e) at b.read_back;
      smooth = rw e at b.smooth;
      all_out = λ z.
          ap (λ (x : List (List ℕ)). handed_out source limit u fresh_record store x (map arrives outs)) (sym e)
          ∙ b.all_out (z, tt)
          ∙ ap (λ (x : List (List ℕ)). wanted source (fitting limit x)) (one_packets ps cs);
    }

pub demand2 : Demand2
demand2 = demand2_general most source_roomy
