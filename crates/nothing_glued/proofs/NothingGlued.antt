-- Nothing is ever glued (specs/NothingGlued): a walk begins at the pointer, or with the held octets of a packet that ends where the pointer says.
-- Assumes nothing.
use mathlib.Core.Path.{◌≡◌, refl, ◌∙◌, sym, ap}
use mathlib.Core.Bool.{Bool, true, false, not, ◌||◌, false≢true}
use mathlib.Core.List.{List, [], ◌∷◌, ◌++◌}
use mathlib.Core.Logic.{◌⊎◌, inl, inr}
use Prim.Native.Nat.{ℕ, ◌+◌, ◌-◌, ◌≤◌, ◌<◌}
use native.Mathlib.Decide.{dec_lt, ℕ_discrete}
use native.Mathlib.Nat.{zero-add}
use native.Mathlib.Omega.{arith}
use lib.Dec.{eqb, leb}
use lib.ListN.{length, take, drop, get_or, set, length-append, drop_of_length-le, get_or-eq_default}
use lib.Seq.{length-take-le, take-append-add, drop-append-add, get_or-set_same, set_out}
use borrow.Author.Tests.{leb-true, eqb-true, eq-eqb, ne_eqb}
use Rattle.octets.specs.Laid.{laid}
use Rattle.octets.specs.Pick.{pick}
use Rattle.packet.specs.Family.{Family, Lawful, AllWhole}
use Rattle.packet.specs.Size.{most, source}
use Rattle.packet.specs.declared.source.Size.{Size}
use Rattle.packet.specs.declared.source.Size.TheVariants.{Wait, Total}
use Rattle.packet.proofs.Laws.{source_lawful}
use Rattle.frame.specs.Counts.{after, gap_of}
use Rattle.frame.specs.Opening.{frame_of, idle_data, none_starts}
use Rattle.frame.specs.SetUp.{most_field}
use Rattle.frame.specs.declared.header.Header.{Header}
use Rattle.frame.proofs.Laws.{gap_exactly, opened_sound}
use Rattle.channel.specs.Rules.{channel_follows, state_follows}
use Rattle.channel.specs.State.{fresh_channel}
use Rattle.channel.specs.Store.{part_of}
use Rattle.channel.specs.declared.state.Channel.{Channel}
use Rattle.channel.specs.declared.state.State.{State}
use Rattle.channel.specs.declared.state.State.TheVariants.{Hunting, Gathering, Skipping}
use Rattle.channel.proofs.RuleLaws.{gathers_told}
use Rattle.walk.specs.Steps.{hunted, broke, disagreed, called_at, agrees_by, agrees, gathered, skipped, resumed, gap_for, carries_none, steps_of, course_of}
use Rattle.walk.specs.Walk.{Done, only, ended, walk_of, no_tally}
use Rattle.walk.proofs.EndLaws.{held_total}
use Rattle.walk.proofs.KeepLaws.{state_follows_lem}
use Rattle.walk.proofs.WalkLaws.{Stands}
use Rattle.reading.specs.Reading.{kind_of, field_of, channel_of, done_by, report_of, record_after, store_after, output_after}
use Rattle.reading.specs.declared.Kind.TheVariants.{Packets, Idle, Private}
use Rattle.reading.specs.declared.Report.{Report}
use Rattle.reading.proofs.AcceptLaws.{own_follows, field_length, part_whole}
use Rattle.reading.proofs.ReadLaws.{found_none, leaves, opened, ready}
use Rattle.demands.specs.History.{wanted}
use Rattle.nothing_glued.specs.NothingGlued.{AllProper, CarriedOn, PointsBehind, Continued, Held, Origin, NothingGluedGeneral, NothingGlued}
use Rattle.nothing_glued.specs.NothingGlued.Finished.{all_inside, one_continued}
use Rattle.nothing_glued.specs.NothingGlued.Held.{nothing_held, begun, one_goes_on}
use Rattle.demands.proofs.Aligned.{AllFit}
use Rattle.demands.proofs.Due.{handed_wanted, tally_wanted, tally_unwanted}
use Rattle.nothing_glued.proofs.Ended.{Kept, Open, clean, not_gathering, AtFront, walk_front, InRow, walk_in_row}
use Rattle.nothing_glued.proofs.Ended.AtFront.{stops, holds, packet}
use Rattle.demands.proofs.Frame.{called_below, called_beyond}
use Rattle.demands.proofs.Hears.{unheard_hunts}

-- of whole packets within the limit, those that are not idle may be handed out
wanted_proper : (F : Family) (limit : ℕ) (ws : List (List ℕ)) → AllWhole F ws → AllFit limit ws → AllProper F limit (wanted F ws)
unfolding wanted
wanted_proper F limit [] w f = tt
wanted_proper F limit (p ∷ ws) w f = go (F.idle p) refl (wanted_proper F limit ws w.1 f.1)
  where
    go : (b : Bool) → F.idle p ≡ b → AllProper F limit (wanted F ws) → AllProper F limit (pick b (wanted F ws) (p ∷ wanted F ws))
    go true e h = h
    go false e h = (record { whole = w.0; not_idle = e; within = f.0 }, h)

-- the octets from where a packet ends on are those from the pointer on that is called for
from_called : (field : List ℕ) (e : ℕ) → length field ≤ most_field → e ≤ length field → drop (called_at (length field) e) field ≡ drop e field
from_called field e few h = go (dec_lt e (length field))
  where
    go : Dec (e < length field) → drop (called_at (length field) e) field ≡ drop e field
    go (yes l) = ap (λ (n : ℕ). drop n field) (called_below (length field) e l)
    go (no l) =
        ap (λ (n : ℕ). drop n field) (called_beyond (length field) e (omega arith))
        ∙ drop_of_length-le field {i = none_starts} (omega arith) ∙ sym (drop_of_length-le field {i = e} (omega arith))

-- in step 3's words: a packet that ends in the field, or at its end, calls for its end or for 2047
called_behind : (D e pointer : ℕ) → e ≤ D → pointer ≡ called_at D e → PointsBehind D e pointer
called_behind D e pointer h p = go (dec_lt e D)
  where
    go : Dec (e < D) → PointsBehind D e pointer
    go (yes l) = inl (l, p ∙ called_below D e l)
    go (no l) = inr (omega arith, p ∙ called_beyond D e (omega arith))

-- a packet of which k octets are held agrees with the pointer only where it ends
agreed : (D k n : ℕ) (pointer : ℕ) → 1 ≤ k → agrees D k (Total n) pointer ≡ true → pointer ≡ called_at D (n - k)
unfolding agrees agrees_by
agreed D k n pointer h e = eqb-true pointer (called_at D (n - k)) (rw (ne_eqb k 0 (λ z. omega arith)) at e)

agreed_wait : (D k : ℕ) (pointer : ℕ) → 1 ≤ k → agrees D k Wait pointer ≡ true → pointer ≡ none_starts
unfolding agrees agrees_by
agreed_wait D k pointer h e = eqb-true pointer none_starts (rw (ne_eqb k 0 (λ z. omega arith)) at e)

agreed_none : (D k : ℕ) (s : Size) (pointer : ℕ) → k ≡ 0 → agrees D k s pointer ≡ true → pointer ≡ called_at D 0
unfolding agrees
agreed_none D k s pointer h e = eqb-true pointer (called_at D 0) (rw (eq-eqb k 0 h) at e)

-- what is held is nothing or what stands behind the packets
held_inside : {c : Channel} {part field : List ℕ} {a : Report} {finished : List (List ℕ)} {behind held : List ℕ}
    → (held ≡ []) ⊎ (held ≡ behind) → Held c part field a finished behind held
held_inside (inl e) = nothing_held e
held_inside (inr e) = begun e

-- a channel that gathers was heard
gathering_heard : (F : Family) (limit : ℕ) (part : List ℕ) (c : Channel) (k : ℕ) → channel_follows F limit part c ≡ true → c.state ≡ Gathering k
    → c.heard ≡ true
gathering_heard F limit part c k follows e = go c.heard refl
  where
    go : (b : Bool) → c.heard ≡ b → b ≡ true
    go true h = refl
    go false h = absurd (let s = unheard_hunts F limit part c follows h in let z : ◌≡◌ {A = ℕ} 0 1 = cc in omega arith)

-- without a gap the count is the one after the last
next_count : (c : Channel) (h : Header) → c.heard ≡ true → gap_for c h ≡ 0 → h.count.0 < 256 → c.last.0 < 256 → h.count.0 ≡ after c.last.0
unfolding gap_for after
next_count c h heard g small l =
    let e : gap_of h.count.0 c.last.0 ≡ 0 = rw heard at g in
    let n = (gap_exactly h.count.0 c.last.0 0 small l (omega arith)).0 (sym e) in
    omega arith

-- a frame that is neither idle nor private carries packets
carries_packets : (h : Header) → carries_none h ≡ false → kind_of h ≡ Packets
unfolding carries_none kind_of
carries_packets h = go h.synchronisation (eqb h.pointer idle_data)
  where
    go : (a b : Bool) → (a || b) ≡ false → pick a Private (pick b Idle Packets) ≡ Packets
    go true b e = absurd (false≢true (sym e))
    go false true e = absurd (false≢true (sym e))
    go false false e = refl

-- steps 3 to 5 of a frame whose channel's record is c: `a` is any answer that has this pointer, these counts and this gap
module _ (F : Family) (laws : Lawful F) (limit : ℕ) (c : Channel) (part field : List ℕ) (a : Report) (whole_part : length part ≡ limit)
    (few : length field ≤ most_field) where
  -- what was done, with its origin
  abbrev Good : Done → Type 0
  Good d = AllFit limit d.whole × (Origin F c part field a d.whole d.held × Kept d.state d.held)

  -- nothing was finished
  none_good : (x : Done) → x.whole ≡ [] → Held c part field a x.whole (drop a.header.pointer field) x.held → Kept x.state x.held
      → ((a.kind ≡ Packets → ⊥) → x.held ≡ []) → Good x
  none_good x w h k o = (
    rw w tt,
    (
      record {
        all_whole = rw w tt;
        inside = [];
        behind = drop a.header.pointer field;
        side_by_side = refl;
        finished_from = all_inside w;
        held_from = h;
        only_packets = λ z. (w, o z);
      },
      k,
    ),
  )

  hunts_good : Good (only Hunting)
  hunts_good = none_good (only Hunting) refl (nothing_held refl) (λ k q. not_gathering k q (inl refl)) (λ _. refl)

  module _ (packets : a.kind ≡ Packets) where
    -- a walk from the pointer on
    inside_good : (d : List ℕ) → drop a.header.pointer field ≡ d → Good (ended (walk_of F limit d))
    inside_good d e =
        let w = walk_in_row F laws limit d in (
          w.all_fit,
          (
            record {
              all_whole = w.all_whole;
              inside = (ended (walk_of F limit d)).whole;
              behind = w.behind;
              side_by_side = e ∙ w.laid_end_to_end;
              finished_from = all_inside refl;
              held_from = held_inside w.held_is;
              only_packets = λ n. absurd (n packets);
            },
            w.kept,
          ),
        )

    -- a walk that begins with k held octets, where the pointer agrees
    module _ (k : ℕ) (way : CarriedOn c a k) (follows : state_follows F limit part (Gathering k) ≡ true) where
      abbrev run : List ℕ
      run = take k part ++ field

      length_held : length (take k part) ≡ k
      length_held = length-take-le k part (gathers_told F limit part k follows).1

      -- one of n octets that ends in the field
      module _ (n : ℕ) (st : Stands F limit run n) (points : a.header.pointer ≡ called_at (length field) (n - k)) where
        above : k < n
        above = (held_total F laws limit k n part field whole_part follows st.told).0

        there : n ≤ k + length field
        there = omega (arith, st.there, length-append (take k part) field, length_held)

        seam : length (take k part) + (n - k) ≡ n
        seam = omega (arith, length_held, above)

        long : length (take n run) ≡ n
        long = length-take-le n run st.there

        across : take n run ≡ take k part ++ take (n - k) field
        across = ap (λ (m : ℕ). take m run) (sym seam) ∙ take-append-add (take k part) field (n - k)

        beyond : drop n run ≡ drop (n - k) field
        beyond = ap (λ (m : ℕ). drop m run) (sym seam) ∙ drop-append-add (take k part) field (n - k)

        continued : Continued c part field a (take n run)
        continued =
            record {
              k = k;
              under_way = way;
              some_new = omega (arith, long, above);
              ends_here = omega (arith, long, there);
              octets = rw long across;
              points = rw long (called_behind (length field) (n - k) a.header.pointer (omega (arith, there)) points);
            }

        continued_good : (x y : Done) → x.whole ≡ take n run ∷ y.whole → x.held ≡ y.held → InRow F limit run x → InRow F limit (drop n run) y
            → Good x
        continued_good x y e i w v = (
          w.all_fit,
          (
            record {
              all_whole = w.all_whole;
              inside = y.whole;
              behind = v.behind;
              side_by_side = ap (λ (m : ℕ). drop m field) points ∙ from_called field (n - k) few (omega (arith, there)) ∙ sym beyond ∙ v.laid_end_to_end;
              finished_from = one_continued (take n run) continued e;
              held_from = held_inside (rw i v.held_is);
              only_packets = λ z. absurd (z packets);
            },
            w.kept,
          ),
        )

      -- one that does not
      open_points : (s : Size) → F.size run ≡ s → agrees (length field) k s a.header.pointer ≡ true → Open F run
          → a.header.pointer ≡ none_starts
      open_points s e g (inl w) = agreed_wait (length field) k a.header.pointer way.some_held (rw (sym e ∙ w) at g)
      open_points s e g (inr (n, (t, l))) =
          agreed (length field) k n a.header.pointer way.some_held (rw (sym e ∙ t) at g)
          ∙ called_beyond (length field) (n - k) (omega (arith, l, length-append (take k part) field, length_held))

      gathered_good : (s : Size) → F.size run ≡ s → agrees (length field) k s a.header.pointer ≡ true → Good (ended (walk_of F limit run))
      gathered_good s e g = go (walk_front F laws limit run)
        where
          go : AtFront F limit run (ended (walk_of F limit run)) → Good (ended (walk_of F limit run))
          go (stops w i q) = none_good (ended (walk_of F limit run)) w (nothing_held i) q (λ z. absurd (z packets))
          go (holds w i q o) =
              none_good (ended (walk_of F limit run)) w
              (one_goes_on (record { k = k; under_way = way; octets = i; points = open_points s e g o }) w) q (λ z. absurd (z packets))
          go (packet n t w i j) =
              continued_good n t (agreed (length field) k n a.header.pointer way.some_held (rw (sym e ∙ t.told) at g))
              (ended (walk_of F limit run)) (ended (walk_of F limit (drop n run))) w i (walk_in_row F laws limit run)
              (walk_in_row F laws limit (drop n run))

    -- step 4
    hunted_good : Good (hunted F limit field a.header.pointer)
    unfolding hunted
    hunted_good = go (eqb a.header.pointer none_starts)
      where
        go : (b : Bool) → Good (pick b (only Hunting) (ended (walk_of F limit (drop a.header.pointer field))))
        go true = hunts_good
        go false = inside_good (drop a.header.pointer field) refl

    -- step 3
    module _ (follows : channel_follows F limit part c ≡ true) (no_gap : a.gap ≡ 0) (gap : a.gap ≡ gap_for c a.header)
        (small : a.header.count.0 < 256) where
      agreed_good : (k : ℕ) → c.state ≡ Gathering k → Dec (k ≡ 0)
          → agrees (length field) k (F.size (take k part ++ field)) a.header.pointer ≡ true
          → a.broken ≡ (ended (walk_of F limit (take k part ++ field))).broken
          → a.disagreement ≡ (ended (walk_of F limit (take k part ++ field))).disagreement
          → Good (ended (walk_of F limit (take k part ++ field)))
      agreed_good k e (yes z) g x y =
          inside_good (take k part ++ field)
          (ap (λ (m : ℕ). drop m field) (agreed_none (length field) k (F.size (take k part ++ field)) a.header.pointer z g)
          ∙ from_called field 0 few (omega arith) ∙ ap (λ (m : ℕ). take m part ++ field) (sym z))
      agreed_good k e (no z) g x y =
          let w = walk_of F limit (take k part ++ field) in
          let n = clean w.end [] w.whole w.rest in
          let heard = gathering_heard F limit part c k follows e in
          gathered_good k
          (record {
            heard = heard;
            gathering = e;
            some_held = omega arith;
            no_gap = no_gap;
            next = next_count c a.header heard (sym gap ∙ no_gap) small;
            none_broken = x ∙ n.unbroken;
            none_disagrees = y ∙ n.agreeing;
          })
          (rw e at (state_follows_lem F limit part c follows)) (F.size (take k part ++ field)) refl g

      resumed_good : (s : State) → c.state ≡ s → a.broken ≡ (resumed F limit part field a.header.pointer s).broken
          → a.disagreement ≡ (resumed F limit part field a.header.pointer s).disagreement
          → Good (resumed F limit part field a.header.pointer s)
      unfolding resumed gathered skipped
      resumed_good Hunting e x y = hunted_good
      resumed_good (Gathering k) e x y = go (agrees (length field) k (F.size (take k part ++ field)) a.header.pointer) refl x y
        where
          done : Bool → Done
          done b = pick b (ended (walk_of F limit (take k part ++ field))) (disagreed (Gathering k) (hunted F limit field a.header.pointer))

          go : (b : Bool) → agrees (length field) k (F.size (take k part ++ field)) a.header.pointer ≡ b
              → a.broken ≡ (done b).broken → a.disagreement ≡ (done b).disagreement → Good (done b)
          go true g x y = agreed_good k e (ℕ_discrete k 0) g x y
          go false g x y = hunted_good
      resumed_good (Skipping r) e x y = go (eqb a.header.pointer (called_at (length field) r)) refl (leb r (length field)) refl
        where
          go : (b : Bool) → eqb a.header.pointer (called_at (length field) r) ≡ b → (l : Bool) → leb r (length field) ≡ l
              → Good (pick b (pick l (ended (walk_of F limit (drop r field))) (only (Skipping (r - length field))))
              (disagreed (Skipping r) (hunted F limit field a.header.pointer)))
          go true g true l =
              inside_good (drop r field)
              (ap (λ (m : ℕ). drop m field) (eqb-true a.header.pointer (called_at (length field) r) g)
              ∙ from_called field r few (leb-true r (length field) l))
          go true g false l = none_good (only (Skipping (r - length field))) refl (nothing_held refl) (λ k q. not_gathering k q (inr (_, refl))) (λ _. refl)
          go false g b l = hunted_good

  -- steps 1 and 2
  steps_good : a.header.count.0 < 256 → a.kind ≡ kind_of a.header → a.gap ≡ gap_for c a.header → a.broken ≡ (steps_of F limit part field a.header c).broken
      → a.disagreement ≡ (steps_of F limit part field a.header c).disagreement → channel_follows F limit part c ≡ true
      → Good (steps_of F limit part field a.header c)
  unfolding steps_of
  steps_good small kind gap x y follows = go (carries_none a.header) refl (eqb (gap_for c a.header) 0) refl x y
    where
      done : Bool → Bool → Done
      done b g =
          pick b (broke c.state (only Hunting))
          (pick (not g) (broke c.state (hunted F limit field a.header.pointer)) (resumed F limit part field a.header.pointer c.state))

      go : (b : Bool) → carries_none a.header ≡ b → (g : Bool) → eqb (gap_for c a.header) 0 ≡ g → a.broken ≡ (done b g).broken
          → a.disagreement ≡ (done b g).disagreement → Good (done b g)
      go true p g q x y = hunts_good
      go false p false q x y = hunted_good (kind ∙ carries_packets a.header p)
      go false p true q x y =
          resumed_good (kind ∙ carries_packets a.header p) follows (gap ∙ eqb-true (gap_for c a.header) 0 q) gap small c.state refl x y

-- a frame that carries no packets leaves its channel hunting
none_hunts : (F : Family) (limit : ℕ) (part field : List ℕ) (h : Header) (c : Channel) → (kind_of h ≡ Packets → ⊥)
    → (steps_of F limit part field h c).state ≡ Hunting
unfolding steps_of
none_hunts F limit part field h c n = go (carries_none h) refl
  where
    go : (b : Bool) → carries_none h ≡ b
        → (pick b (broke c.state (only Hunting))
        (pick (not (eqb (gap_for c h) 0)) (broke c.state (hunted F limit field h.pointer)) (resumed F limit part field h.pointer c.state))).state
        ≡ Hunting
    go true e = refl
    go false e = absurd (n (carries_packets h e))

-- the state that a call leaves is that of its steps, if the record has the channel
left_hunts : (cs : List Channel) (v : ℕ) (x : Channel) → x.state ≡ Hunting → (get_or (set cs v x) v fresh_channel).state ≡ Hunting
left_hunts cs v x q = go (dec_lt v (length cs))
  where
    go : Dec (v < length cs) → (get_or (set cs v x) v fresh_channel).state ≡ Hunting
    go (yes l) = rw (get_or-set_same cs v x fresh_channel l) q
    go (no l) =
        let n : length cs ≤ v = omega arith in
        rw (set_out cs v x n, get_or-eq_default cs fresh_channel n)

left_kept : (cs : List Channel) (v : ℕ) (x : Channel) (held : List ℕ) → Kept x.state held → Kept (get_or (set cs v x) v fresh_channel).state held
left_kept cs v x held q = go (dec_lt v (length cs))
  where
    go : Dec (v < length cs) → Kept (get_or (set cs v x) v fresh_channel).state held
    go (yes l) = rw (get_or-set_same cs v x fresh_channel l) q
    go (no l) =
        let n : length cs ≤ v = omega arith in
        rw (set_out cs v x n, get_or-eq_default cs fresh_channel n) (λ k e. not_gathering k e (inl refl))

pub nothing_glued_general : NothingGluedGeneral
unfolding report_of course_of output_after store_after record_after
nothing_glued_general F limit laws u rec store out f a e =
    let none = found_none F limit u rec store out f a e in
    let r = ready F limit u rec store out f (frame_of u f) (refl, none) in
    let l = leaves F limit u rec store out f none in
    let x = frame_of u f in
    let s = opened_sound u f x (opened F limit u rec store out f none) in
    let d : Done = done_by F limit x rec store f in
    let told : report_of F x (channel_of x rec) d ≡ a = cc l.answers in
    let g = steps_good F laws limit (channel_of x rec) (part_of limit x.header.channel store) (field_of x f) (report_of F x (channel_of x rec) d)
    (part_whole rec x f store out r) (omega (arith, field_length rec x f store out r, r.few)) s.count_bits refl refl refl refl
    (own_follows F limit store rec x.header.channel r.follows) in
    rw (← told) (record {
      handed = wanted F d.whole;
      output = sym l.output_left ∙ ap (laid out 0) (handed_wanted F d.whole);
      delivered = tally_wanted F no_tally d.whole ∙ zero-add _;
      proper = wanted_proper F limit d.whole g.1.0.all_whole g.0;
      finished = d.whole;
      not_idle = refl;
      idle = tally_unwanted F no_tally d.whole ∙ zero-add _;
      held = d.held;
      part_left = sym l.store_left;
      gathers = rw (← l.record_left) (left_kept rec.channels x.header.channel _ d.held g.1.1);
      hunts = λ z. rw (← l.record_left) (left_hunts rec.channels x.header.channel _ (none_hunts F limit _ _ x.header (channel_of x rec) z));
      header = refl;
      origin = g.1.0;
    })

pub nothing_glued : NothingGlued
nothing_glued = nothing_glued_general source most source_lawful
