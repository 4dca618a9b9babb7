-- What is proved of the desk besides the functions' contracts. The proofs are in proofs/SavedLaws.antt and OnceLaws.antt, under these names in lower
-- case.
use Rattle.std.specs.Prelude.{List, ◌≡◌, ℕ, take, Result, Ok}
use Rattle.packet.specs.Size.{most, source}
use Rattle.frame.specs.Opening.{frame_of}
use Rattle.frame.specs.declared.set_up.SetUp.{SetUp}
use Rattle.channel.specs.declared.state.Record.{Record}
use Rattle.reading.specs.Reading.{Read, done_by}
use Rattle.walk.specs.Walk.{handed_all}
use Rattle.reading.specs.declared.Refusal.{Refusal}
use Rattle.reading.specs.declared.Report.{Report}
use Rattle.desk.specs.Counting.{totals_after}
use Rattle.desk.specs.Saving.{octets_of}
use Rattle.desk.specs.declared.taking.Desk.{Desk}
use Rattle.desk.specs.declared.taking.Taken.{Taken}

-- after a reading that accepted its frame, the octets that are saved are its delivered packets, end to end, and nothing else
abbrev pub SavedExactly : Type 0
SavedExactly = (u : SetUp) (rec : Record) (store out f : List ℕ) (answer : Result Report Refusal) (rec' : Record) (store' out' : List ℕ) (a : Report)
    → Read u rec store out f answer rec' store' out' → answer ≡ Ok a
    → take (octets_of answer out') out' ≡ handed_all source (done_by source most (frame_of u f) rec store f).whole

-- any two results of `take` that its contract allows are equal, with what they leave in store and output
abbrev pub TakeOnce : Type 0
TakeOnce = (u : SetUp) (desk : Desk) (store out f : List ℕ) (t t₂ : Taken) (store' store₂ out' out₂ : List ℕ)
    → Read u desk.rec store out f t.answer t.next.rec store' out'
    → t.next.totals ≡ totals_after desk.totals t.answer → t.octets ≡ octets_of t.answer out'
    → Read u desk.rec store out f t₂.answer t₂.next.rec store₂ out₂
    → t₂.next.totals ≡ totals_after desk.totals t₂.answer → t₂.octets ≡ octets_of t₂.answer out₂
    → (t ≡ t₂) × ((store' ≡ store₂) × (out' ≡ out₂))
