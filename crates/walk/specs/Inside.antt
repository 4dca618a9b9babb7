-- What only the code's proofs need: the steps in the form in which the code takes them, and what `steps` and its parts may rely on, which reader's
-- `accept` is proved to give. What is promised is in specs/Steps and specs/Walk.
use Rattle.std.specs.Prelude.{List, [], ◌≡◌, ℕ, ◌+◌, ◌-◌, ◌≤◌, length, drop}
use Rattle.packet.specs.Size.{format_most}
use Rattle.frame.specs.Opening.{idle_data}
use Rattle.frame.specs.SetUp.{most_length, most_field}
use Rattle.frame.specs.Theorems.{Points}
use Rattle.channel.specs.declared.state.State.{State}
use Rattle.channel.specs.declared.state.State.TheVariants.{Hunting, Gathering, Skipping}
use Rattle.walk.specs.declared.stepping.Course.{Course}
use Rattle.walk.specs.declared.walking.End.{End}
use Rattle.walk.specs.declared.walking.Tally.{Tally}
use Rattle.walk.specs.Steps.{broken_by}

-- what the code reports (`course_of`) from a walk's counts and its end over the field, and the octets that are then held
unfoldable pub course_by : Tally → End → Course
course_by t End.Foreign = record { tally = t; state = Hunting; broken = 0; disagreement = 0; foreign = 1; oversize = 0 }
course_by t End.Exact = record { tally = t; state = Gathering 0; broken = 0; disagreement = 0; foreign = 0; oversize = 0 }
course_by t (End.Cut k) = record { tally = t; state = Gathering k; broken = 0; disagreement = 0; foreign = 0; oversize = 0 }
course_by t (End.Oversize r) = record { tally = t; state = Skipping r; broken = 0; disagreement = 0; foreign = 0; oversize = 1 }

unfoldable pub held_by : End → List ℕ → List ℕ
held_by End.Foreign field = []
held_by End.Exact field = []
held_by (End.Cut k) field = drop (length field - k) field
held_by (End.Oversize r) field = []

-- a cut packet's octets are there, in the field, and fit the channel's part of the store
unfoldable pub CutFits : End → List ℕ → List ℕ → Type 0
CutFits End.Foreign field part = Unit {0}
CutFits End.Exact field part = Unit {0}
CutFits (End.Cut k) field part = (k ≤ length field) × (k ≤ length part)
CutFits (End.Oversize r) field part = Unit {0}

-- a report with the packet under way broken (`broke`), and with a disagreement besides (`disagreed`)
abbrev pub broken_course : State → Course → Course
broken_course s c =
    record {
      tally = c.tally;
      state = c.state;
      broken = broken_by s;
      disagreement = c.disagreement;
      foreign = c.foreign;
      oversize = c.oversize;
    }

abbrev pub disagreed_course : State → Course → Course
disagreed_course s c =
    record { tally = c.tally; state = c.state; broken = broken_by s; disagreement = 1; foreign = c.foreign; oversize = c.oversize }

-- what the steps may rely on: the limit is at least the longest frame and at most the format's own; the part has `limit` octets, the field
-- one or more, the output room for both, and the pointer passed test 12
pub record Fit (limit : ℕ) (part field : List ℕ) (pointer : ℕ) (out : List ℕ) : Type 0 where
  pub whole_part : length part ≡ limit
  pub wide : most_length ≤ limit
  pub not_too_wide : limit ≤ format_most
  pub some : 1 ≤ length field
  pub few : length field ≤ most_field
  pub room : limit + most_length ≤ length out
  pub points : Points pointer (length field)

-- that, of a frame that is not idle: its pointer is not the one of idle frames
pub record Ready (limit : ℕ) (part field : List ℕ) (pointer : ℕ) (out : List ℕ) : Type 0 where
  pub fit : Fit limit part field pointer out
  pub not_idle : pointer ≡ idle_data → ⊥
