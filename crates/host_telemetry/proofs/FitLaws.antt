-- Every value that crosses the boundary fits its word.
-- Assumes nothing.
use Rattle.std.specs.Prelude.{Option, Result, Ok, Err}
use mathlib.Core.Path.{◌≡◌, refl}
use mathlib.Core.Bool.{Bool, true, false, not}
use mathlib.Core.List.{List, ◌++◌}
use Prim.Native.Nat.{ℕ, ◌-◌, ◌^◌, ◌≤◌, ◌<◌}
use native.Mathlib.Omega.{arith}
use lib.Dec.{eqb, leb}
use lib.ListN.{length, take, drop}
use Rattle.octets.specs.Pick.{pick}
use Rattle.packet.specs.Size.{most, size_of, source}
use Rattle.packet.proofs.Laws.{source_lawful}
use Rattle.walk.proofs.SourceLaws.{source_roomy}
use Rattle.frame.specs.Opening.{frame_of, none_starts}
use Rattle.frame.proofs.Laws.{opened_sound}
use Rattle.table.proofs.Laws.{none_gives}
use Rattle.frame.specs.declared.closing.ControlWord.{ControlWord}
use Rattle.frame.specs.declared.header.Header.{Header}
use Rattle.frame.specs.declared.set_up.SetUp.{SetUp}
use Rattle.channel.specs.Busy.{busy_state}
use Rattle.channel.specs.Rules.{record_follows}
use Rattle.channel.specs.Store.{part_of}
use Rattle.channel.specs.declared.state.Channel.{Channel}
use Rattle.channel.specs.declared.state.Record.{Record}
use Rattle.channel.specs.declared.state.State.{State}
use Rattle.channel.specs.declared.state.State.TheVariants.{Hunting, Gathering, Skipping}
use Rattle.reading.proofs.Laws.{accepted_keeps, few_enough}
use Rattle.reading.proofs.ReadLaws.{found_none, leaves, opened, ready}
use Rattle.reading.specs.Reading.{answer_of, channel_of, done_by, field_of, record_of, report_of, store_of}
use Rattle.walk.specs.Steps.{agrees, broke, called_at, carries_none, disagreed, gap_for, gathered, hunted, resumed, skipped, steps_of}
use Rattle.walk.specs.Walk.{Done, ended, ended_by, only, Walked, walk_of}
use Rattle.octets.specs.Octets.{Octets}
use Rattle.reading.specs.declared.Refusal.{Refusal}
use Rattle.reading.specs.declared.Report.{Report}
use Rattle.walk.specs.declared.walking.End.{End}
use Rattle.writing.proofs.Laws.{goes_on, refused_untouched, written_exactly}
use Rattle.writing.proofs.WritingSteps.{passing}
use Rattle.writing.specs.Writing.{answer_of as write_answer, next_of, next_place, write_table}
use Rattle.writing.specs.declared.Refusal.{Refusal as WriteRefusal}
use Rattle.writing.specs.declared.Place.{Place}
use Rattle.host_answers.specs.Answer.{Lays, ReportFits}
use Rattle.host_words.specs.Words.{unpacked}
use Rattle.host_words.proofs.NumberLaws.{numbers_fit, whole_words, eight_channels}

-- the counts that a frame can raise by one at most
pub record Single (d : Done) : Type 0 where
  pub broken : d.broken ≤ 1
  pub disagreement : d.disagreement ≤ 1
  pub foreign : d.foreign ≤ 1
  pub oversize : d.oversize ≤ 1

pick_single : (b : Bool) → pick b 1 0 ≤ 1
pick_single true = omega arith
pick_single false = omega arith

only_single : (s : State) → Single (only s)
only_single s = record { broken = omega arith; disagreement = omega arith; foreign = omega arith; oversize = omega arith }

ended_single : (e : End) (whole : List (List ℕ)) (rest : List ℕ) → Single (ended_by e whole rest)
unfolding ended_by
ended_single End.Foreign whole rest = record { broken = omega arith; disagreement = omega arith; foreign = omega arith; oversize = omega arith }
ended_single End.Exact whole rest = record { broken = omega arith; disagreement = omega arith; foreign = omega arith; oversize = omega arith }
ended_single (End.Cut k) whole rest = record { broken = omega arith; disagreement = omega arith; foreign = omega arith; oversize = omega arith }
ended_single (End.Oversize r) whole rest = record { broken = omega arith; disagreement = omega arith; foreign = omega arith; oversize = omega arith }

broke_single : (s : State) (d : Done) → Single d → Single (broke s d)
broke_single s d h =
    record { broken = pick_single (busy_state s); disagreement = h.disagreement; foreign = h.foreign; oversize = h.oversize }

disagreed_single : (s : State) (d : Done) → Single d → Single (disagreed s d)
disagreed_single s d h =
    record { broken = pick_single (busy_state s); disagreement = omega arith; foreign = h.foreign; oversize = h.oversize }

either : (b : Bool) (d e : Done) → Single d → Single e → Single (pick b d e)
either true d e h k = h
either false d e h k = k

walked_single : (w : Walked) → Single (ended w)
walked_single w = ended_single w.end w.whole w.rest

module _ (limit : ℕ) (part field : List ℕ) (pointer : ℕ) where
  hunted_single : Single (hunted source limit field pointer)
  unfolding hunted
  hunted_single =
      either (eqb pointer none_starts) (only Hunting) (ended (walk_of source limit (drop pointer field))) (only_single Hunting)
      (walked_single (walk_of source limit (drop pointer field)))

  resumed_single : (s : State) → Single (resumed source limit part field pointer s)
  unfolding resumed gathered skipped
  resumed_single Hunting = hunted_single
  resumed_single (Gathering k) =
      let w = walk_of source limit (take k part ++ field) in
      let d = hunted source limit field pointer in
      either (agrees (length field) k (size_of (take k part ++ field)) pointer) (ended w) (disagreed (Gathering k) d) (walked_single w)
      (disagreed_single (Gathering k) d hunted_single)
  resumed_single (Skipping r) =
      let w = walk_of source limit (drop r field) in
      let d = hunted source limit field pointer in
      let s = Skipping (r - length field) in
      either (eqb pointer (called_at (length field) r)) (pick (leb r (length field)) (ended w) (only s)) (disagreed (Skipping r) d)
      (either (leb r (length field)) (ended w) (only s) (walked_single w) (only_single s))
      (disagreed_single (Skipping r) d hunted_single)

steps_single : (limit : ℕ) (part field : List ℕ) (h : Header) (c : Channel) → Single (steps_of source limit part field h c)
unfolding steps_of
steps_single limit part field h c =
    let none = broke c.state (only Hunting) in
    let anew = hunted source limit field h.pointer in
    let on = resumed source limit part field h.pointer c.state in
    let gap = not (eqb (gap_for c h) 0) in
    either (carries_none h) none (pick gap (broke c.state anew) on) (broke_single c.state (only Hunting) (only_single Hunting))
    (either gap (broke c.state anew) on (broke_single c.state anew (hunted_single limit part field h.pointer))
    (resumed_single limit part field h.pointer c.state))

module _ (u : SetUp) (rec : Record) (store out f : List ℕ) (a : Report) (e : answer_of u rec store out f ≡ Ok a) where
  -- what is told of an accepted frame fits
  report_fits : ReportFits a
  unfolding report_of
  report_fits =
      let x = frame_of u f in
      let n = found_none source most u rec store out f a e in
      let r = ready source most u rec store out f x (refl, n) in
      let told : report_of source x (channel_of x rec) (done_by source most x rec store f) ≡ a = cc (leaves source most u rec store out f n).answers in
      let s : Single (done_by source most x rec store f) = steps_single most (part_of most x.header.channel store) (field_of x f) x.header (channel_of x rec) in
      let few = few_enough source most source_lawful u rec store out f a e in
      let o = opened_sound u f x (opened source most u rec store out f n) in
      record {
        channel = rw (← told) (omega (arith, r.channel));
        pointer = rw (← told) (omega (arith, o.pointer_bits));
        delivered = omega (arith, few, r.few);
        idle = omega (arith, few, r.few);
        broken = rw (← told) (omega (arith, s.broken));
        disagreement = rw (← told) (omega (arith, s.disagreement));
        foreign = rw (← told) (omega (arith, s.foreign));
        oversize = rw (← told) (omega (arith, s.oversize));
      }

  -- the record it was read with follows the rules
  pub followed : record_follows source most store rec ≡ true
  followed = (ready source most u rec store out f (frame_of u f) (refl, found_none source most u rec store out f a e)).follows

-- whatever a reading of saved words answers can be laid down
pub answer_lays : (u : SetUp) (words store out f : List ℕ) → Octets store → Octets f
    → Lays (answer_of u (unpacked words) store out f) (record_of u (unpacked words) store out f) words
answer_lays u words store out f os of = go (answer_of u (unpacked words) store out f) refl
  where
    go : (a : Result Report Refusal) → answer_of u (unpacked words) store out f ≡ a → Lays a (record_of u (unpacked words) store out f) words
    go (Err r) e = tt
    go (Ok a) e =
        let k = accepted_keeps source most source_roomy u (unpacked words) store out f a os of (eight_channels words) e in
        (report_fits u (unpacked words) store out f a e, numbers_fit (store_of u (unpacked words) store out f) (record_of u (unpacked words) store out f) k.eight k.follows, whole_words words store (followed u (unpacked words) store out f a e))

-- where the next writing goes on fits words if this one's place did
abbrev PlaceFits : Place → Type 0
PlaceFits p = (p.offset < 2 ^ 32) × (p.left_over < 2 ^ 32)

pub next_fits : (u : SetUp) (channel : ℕ) (p : Place) (w : Option ControlWord) (run out : List ℕ) → p.offset < 2 ^ 32 → p.left_over < 2 ^ 32
    → PlaceFits (next_of u channel p w run out)
unfolding next_of
next_fits u channel p w run out h k = go (write_answer u channel p run out) refl
  where
    go : (a : Result (Unit {0}) WriteRefusal) → write_answer u channel p run out ≡ a → PlaceFits (next_of u channel p w run out)
    go (Err r) e = rw (refused_untouched u channel p w run out r e).0 (h, k)
    go (Ok _) e =
        let none = (written_exactly u channel p run out).0 e in
        let g = goes_on u channel p w run out e in
        let n = (passing u channel p run out none).0.run_fits in
        rw (none_gives (λ _. p) (next_place u p w run) (write_table u channel p run out) none) (omega (arith, g.inside, n), omega (arith, g.few_left))
