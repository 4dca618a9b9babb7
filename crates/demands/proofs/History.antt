-- The history, event by event: what holds between two calls, and how a lost frame, an arriving one and every other call keep it.
-- Assumes nothing.
use mathlib.Core.Path.{◌≡◌, refl, ◌∙◌, sym, ap, subst}
use mathlib.Core.Bool.{Bool, true, false}
use mathlib.Core.List.{List, ◌∷◌, ◌++◌}
use Prim.Native.Nat.{ℕ, ◌+◌, ◌≤◌, ◌<◌}
use native.Mathlib.Nat.{zero-add}
use native.Mathlib.Omega.{arith}
use lib.ListN.{length, get_or, take, drop, replicate}
use Rattle.octets.specs.Laid.{laid}
use Rattle.octets.specs.Octets.{Octets}
use Rattle.packet.specs.Family.{Family, AllWhole}
use Rattle.packet.specs.Theorems.{end_to_end}
use Rattle.walk.specs.Theorems.{Roomy}
use Rattle.frame.specs.Counts.{after}
use Rattle.frame.specs.Opening.{idle_data}
use Rattle.frame.specs.SetUp.{most_length}
use Rattle.frame.specs.declared.opening.Frame.{Frame}
use Rattle.frame.specs.declared.set_up.SetUp.{SetUp}
use Rattle.frame.proofs.Laws.{opened_sound}
use Rattle.channel.specs.State.{fresh_channel}
use Rattle.channel.specs.Store.{part_of}
use Rattle.channel.specs.declared.state.Channel.{Channel}
use Rattle.channel.specs.declared.state.Record.{Record}
use Rattle.channel.proofs.Laws.{each_follows}
use Rattle.reading.specs.Reading.{field_of, channel_of, done_by, report_of, record_over, store_over, output_after}
use Rattle.walk.specs.Steps.{course_of, steps_of, called_at}
use Rattle.walk.specs.Walk.{Done, no_tally}
use Rattle.reading.proofs.Laws.{refused_untouched}
use Rattle.demands.specs.History.{Harmless, Refuses, Call, brought, carried, most_missing, wanted, unwanted}
use Rattle.demands.specs.Sender.{Mark, Sent, Sends, octets_marked, first_start, between, inner, marks_of_all}
use Rattle.demands.specs.Sender.Sends.{packets, idle}
use Rattle.demands.proofs.Calls.{Fine, starts_with, count_lt, read, fine_after, own_after, part_after_lem, carried_none, carried_all, others_keep}
use Rattle.demands.proofs.Due.{handed_wanted, tally_wanted, tally_unwanted}
use Rattle.demands.proofs.Field.{Next, next_of}
use Rattle.demands.proofs.Frame.{Good}
use Rattle.demands.proofs.Hears.{Reads, reads_any, not_idle, idle_arrives, packets_arrive}
use Rattle.demands.proofs.Hears.Reads.{unheard, stale, live}
use Rattle.demands.proofs.Moves.{Losing, any_whole, loses, idle_loses, nothing_to_come}
use Rattle.demands.proofs.Spot.{Lost}
use Rattle.demands.proofs.Stream.{pointer_is}

-- the sender's next frame
pub data Upcoming (u : SetUp) (v count : ℕ) (rest : List Mark) (f : List ℕ) (fs : List (List ℕ)) : Type 0 where
  with_packets : (x : Frame) → Sent u v count f x → x.size ≤ length rest → field_of x f ≡ octets_marked (take x.size rest)
      → x.header.pointer ≡ first_start 0 (take x.size rest) → Sends u v (after count) (drop x.size rest) fs
      → Upcoming u v count rest f fs
  with_none : (x : Frame) → Sent u v count f x → x.header.pointer ≡ idle_data → between rest ≡ true → Sends u v (after count) rest fs
      → Upcoming u v count rest f fs

pub upcoming : {u : SetUp} {v count : ℕ} {rest : List Mark} {f : List ℕ} {fs : List (List ℕ)} → Sends u v count rest (f ∷ fs)
    → Upcoming u v count rest f fs
upcoming (packets count rest f fs x a b c d e) = with_packets x a b c d e
upcoming (idle count rest f fs x a b c d) = with_none x a b c d

-- what holds between two calls
pub record Kept (F : Family) (limit : ℕ) (u : SetUp) (v : ℕ) (tail : List ℕ) (ps : List (List ℕ)) (rec : Record) (store : List ℕ) (heard : Bool) (missing : ℕ)
    (came : List Bool) (fs : List (List ℕ)) : Type 0 where
  pub count : ℕ
  pub rest : List Mark
  pub to_come : List ℕ
  pub behind : List (List ℕ)
  pub sends : Sends u v count rest fs
  pub rest_is : rest ≡ inner to_come ++ marks_of_all behind
  pub fine : Fine F limit rec store
  pub reads : Reads F limit (get_or rec.channels v fresh_channel) (part_of limit v store) tail ps came to_come behind heard missing count

-- a lost frame
lose_reads : {F : Family} {limit : ℕ} {c : Channel} {part tail : List ℕ} {ps : List (List ℕ)} {came came' : List Bool} {q q' : List ℕ} {behind behind' : List (List ℕ)}
    {heard : Bool} {missing count : ℕ} → Reads F limit c part tail ps came q behind heard missing count → Lost tail ps came' q' behind'
    → Reads F limit c part tail ps came' q' behind' heard (missing + 1) (after count)
unfolding after
lose_reads (unheard a b l) n = unheard a b n
lose_reads (stale a b h e m l) n = stale a b h (omega arith) (omega arith) n
lose_reads (live a b h e m s) n = stale a b h (omega arith) (omega arith) n

module _ {F : Family} {limit : ℕ} (G : Roomy F limit)
    {u : SetUp} {v : ℕ} {tail : List ℕ} {ps : List (List ℕ)} {rec : Record} {store : List ℕ} {heard : Bool} {missing : ℕ}
    {came : List Bool} {f : List ℕ} {fs : List (List ℕ)} (w : AllWhole F ps)
    (k : Kept F limit u v tail ps rec store heard missing came (f ∷ fs)) where
  -- the data field of the next frame
  field_is : (x : Frame) → x.size ≤ length k.rest → field_of x f ≡ octets_marked (take x.size k.rest)
      → Next k.to_come k.behind (field_of x f) (drop x.size k.rest)
  field_is x a b = rw (b, k.rest_is) (next_of k.to_come k.behind x.size (rw k.rest_is at a))

  pub points_are : (x : Frame) → x.size ≤ length k.rest → x.header.pointer ≡ first_start 0 (take x.size k.rest)
      → x.header.pointer ≡ called_at x.size (length k.to_come)
  points_are x a c =
      c ∙ ap (λ (r : List Mark). first_start 0 (take x.size r)) k.rest_is
      ∙ pointer_is F G.laws k.to_come k.behind x.size (any_whole F (reads_any k.reads) w) (rw k.rest_is at a)

  pub after_lost : Kept F limit u v tail ps rec store heard (missing + 1) (came ++ replicate (carried u f) false) fs
  after_lost = go (upcoming k.sends)
    where
      by : (n : ℕ) (r : List Mark) → Sends u v (after k.count) r fs → carried u f ≡ n → Losing tail ps (came ++ replicate n false) r
          → Kept F limit u v tail ps rec store heard (missing + 1) (came ++ replicate (carried u f) false) fs
      by n r s e l =
          rw e
          (record {
            count = after k.count;
            rest = r;
            to_come = l.to_come;
            behind = l.behind;
            sends = s;
            rest_is = l.rest_is;
            fine = k.fine;
            reads = lose_reads k.reads l.lost;
          })

      go : Upcoming u v k.count k.rest f fs → Kept F limit u v tail ps rec store heard (missing + 1) (came ++ replicate (carried u f) false) fs
      go (with_packets x s a b c d) =
          let o = opened_sound u f x s.opens in
          let l : length (field_of x f) ≡ x.size = o.field in
          by (length (field_of x f)) (drop x.size k.rest) d
          (carried_all u f x s.opens (not_idle x.size (length k.to_come) x.header.pointer o.most (points_are x a c)) ∙ sym l)
          (loses (field_of x f) (omega (arith, o.least)) (reads_any k.reads) (field_is x a b))
      go (with_none x s a b d) =
          by 0 k.rest d (carried_none u f x s.opens a)
          (idle_loses (reads_any k.reads) (nothing_to_come k.to_come (marks_of_all k.behind) (rw k.rest_is at b)) k.rest_is)

-- an arriving frame: what its steps do is right
record Coming (F : Family) (limit : ℕ) (u : SetUp) (v : ℕ) (tail : List ℕ) (ps : List (List ℕ)) (rec : Record) (store : List ℕ) (came : List Bool) (count : ℕ)
    (f : List ℕ) (fs : List (List ℕ)) : Type 0 where
  x : Frame
  sent : Sent u v count f x
  left : List Mark
  good : Good F limit (done_by F limit x rec store f) tail ps came (carried u f) left
  sends : Sends u v (after count) left fs

module _ {F : Family} {limit : ℕ} (G : Roomy F limit)
    {u : SetUp} {v : ℕ} {tail : List ℕ} {ps : List (List ℕ)} {rec : Record} {store : List ℕ} {heard : Bool} {missing : ℕ}
    {came : List Bool} {f : List ℕ} {fs : List (List ℕ)} (w : AllWhole F ps)
    (k : Kept F limit u v tail ps rec store heard missing came (f ∷ fs)) (few : heard ≡ true → missing ≤ most_missing) where
  coming : Coming F limit u v tail ps rec store came k.count f fs
  coming = go (upcoming k.sends)
    where
      by : (x : Frame) (n : ℕ) (r : List Mark) → Sent u v k.count f x → Sends u v (after k.count) r fs → carried u f ≡ n
          → Good F limit (steps_of F limit (part_of limit v store) (field_of x f) x.header (get_or rec.channels v fresh_channel)) tail ps came n r
          → Coming F limit u v tail ps rec store came k.count f fs
      by x n r s d e g =
          let at : ℕ → Type 0 = λ c. Good F limit (steps_of F limit (part_of limit c store) (field_of x f) x.header (get_or rec.channels c fresh_channel))
          tail ps came (carried u f) r in
          record { x = x; sent = s; left = r; good = subst at (sym s.channel) (rw e g); sends = d }

      go : Upcoming u v k.count k.rest f fs → Coming F limit u v tail ps rec store came k.count f fs
      go (with_packets x s a b c d) =
          let o = opened_sound u f x s.opens in
          let l : length (field_of x f) ≡ x.size = o.field in
          let p = points_are G w k x a c in
          let there : v < length rec.channels = omega (arith, o.channel, s.channel, k.fine.eight) in
          by x (length (field_of x f)) (drop x.size k.rest) s d
          (carried_all u f x s.opens (not_idle x.size (length k.to_come) x.header.pointer o.most p) ∙ sym l)
          (packets_arrive G w (field_of x f) x.header s.not_private k.reads (omega (arith, o.least)) (omega (arith, o.most))
          (p ∙ ap (λ (n : ℕ). called_at n (length k.to_come)) (sym l)) ((each_follows F limit store rec).0 k.fine.follows v there)
          (count_lt u f x s.opens) s.counted few (field_is G w k x a b))
      go (with_none x s a b d) =
          by x 0 k.rest s d (carried_none u f x s.opens a)
          (idle_arrives G w (field_of x f) x.header s.not_private k.reads a
          (nothing_to_come k.to_come (marks_of_all k.behind) (rw k.rest_is at b)) k.rest_is)

  module _ (out : List ℕ) (room : limit + most_length ≤ length out) where
    pub arrival_calls : Call F limit u rec store out f (wanted F (brought limit u tail ps came f)) (unwanted F (brought limit u tail ps came f))
    unfolding report_of course_of output_after
    arrival_calls =
        let c = coming in
        let x = c.x in
        let d : Done = done_by F limit x rec store f in
        let r = read G u rec store out f x k.fine room c.sent.opens in
        let t = c.good.ran in
        record {
          report = report_of F x (channel_of x rec) d;
          accepted = sym r.answers;
          hands = sym r.output_left ∙ ap (laid out 0) (handed_wanted F d.whole ∙ ap (λ (b : List (List ℕ)). end_to_end (wanted F b)) t.whole);
          delivered = tally_wanted F no_tally d.whole ∙ zero-add _ ∙ ap (λ (b : List (List ℕ)). length (wanted F b)) t.whole;
          idle_ones = tally_unwanted F no_tally d.whole ∙ zero-add _ ∙ ap (λ (b : List (List ℕ)). length (unwanted F b)) t.whole;
          none_foreign = t.none_foreign;
          none_disagrees = t.none_disagrees;
        }

    pub arrival_keeps : Kept F limit u v tail ps (record_over F limit u rec store out f) (store_over F limit u rec store out f) true 0 (came ++ replicate (carried u f) true) fs
    unfolding after
    arrival_keeps =
        let c = coming in
        let x = c.x in
        let s = c.sent in
        let d : Done = done_by F limit x rec store f in
        let g = c.good in
        record {
          count = after k.count;
          rest = c.left;
          to_come = g.to_come;
          behind = g.behind;
          sends = c.sends;
          rest_is = g.rest_is;
          fine = fine_after G u rec store out f x k.fine room s.opens s.real;
          reads =
              rw (
                own_after G u rec store out f x k.fine room s.opens s.real v s.channel,
                part_after_lem G u rec store out f x k.fine room s.opens s.real v s.channel,
              )
              (live refl refl (count_lt u f x s.opens) (omega (arith, s.counted)) refl
              (g.stands (laid (part_of limit v store) 0 d.held) (starts_with (part_of limit v store) d.held)));
        }

-- every other call
module _ {F : Family} {limit : ℕ} (G : Roomy F limit)
    {u : SetUp} {v : ℕ} {tail : List ℕ} {ps : List (List ℕ)} {rec : Record} {store : List ℕ} {heard : Bool} {missing : ℕ}
    {came : List Bool} {fs : List (List ℕ)} (k : Kept F limit u v tail ps rec store heard missing came fs) where
  pub other_keeps : (u' : SetUp) (out f : List ℕ) → v < 8 → Octets f → Harmless F limit v u' rec store out f
      → Kept F limit u v tail ps (record_over F limit u' rec store out f) (store_over F limit u' rec store out f) heard missing came fs
  other_keeps u' out f h o n =
      let s = others_keep G v u' rec store out f h k.fine o n in
      record {
        count = k.count;
        rest = k.rest;
        to_come = k.to_come;
        behind = k.behind;
        sends = k.sends;
        rest_is = k.rest_is;
        fine = s.fine;
        reads = rw (s.channel, s.part) k.reads;
      }

  -- a refused call that is lent the record alone, and one that is lent the store alone
  pub record_keeps : (u' : SetUp) (s out f : List ℕ) → Refuses F limit u' rec s out f
      → Kept F limit u v tail ps (record_over F limit u' rec s out f) store heard missing came fs
  record_keeps u' s out f r = rw (refused_untouched F limit u' rec s out f r.0 r.1).same_record k

  pub store_keeps : (u' : SetUp) (rec' : Record) (out f : List ℕ) → Refuses F limit u' rec' store out f
      → Kept F limit u v tail ps rec (store_over F limit u' rec' store out f) heard missing came fs
  store_keeps u' rec' out f r = rw (refused_untouched F limit u' rec' store out f r.0 r.1).same_store k
