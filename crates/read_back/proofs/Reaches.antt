-- How far the writer's calls come: the offset never goes back, each call before the run's end comes on by at least one octet, and the
-- octets that the frames carry balance with those of the left-over, the run and the fillers.
-- Assumes nothing.
use Rattle.std.specs.Prelude.{Option}
use mathlib.Core.Path.{◌≡◌, refl, ◌∙◌, ap}
use mathlib.Core.Bool.{Bool, true, false}
use mathlib.Core.List.{List, [], ◌∷◌}
use mathlib.Core.Logic.{◌⊎◌, inl, inr}
use Prim.Native.Nat.{ℕ, ◌+◌, ◌-◌, ◌≤◌, ◌<◌, ◌^◌, min}
use native.Mathlib.Decide.{ℕ_discrete}
use native.Mathlib.Omega.{arith}
use lib.ListN.{length}
use borrow.Author.Tests.{eq-eqb}
use Rattle.packet.specs.Chain.{distance_of}
use Rattle.octets.specs.Octets.{Octets}
use Rattle.packet.specs.Theorems.{end_to_end}
use Rattle.frame.specs.Closing.{close_size}
use Rattle.frame.specs.Theorems.{word_number}
use Rattle.frame.specs.declared.closing.ControlWord.{ControlWord}
use Rattle.frame.specs.declared.set_up.SetUp.{SetUp}
use Rattle.writing.specs.Laying.{left_part, run_part, placed_part, left_after, left_over_after, nothing_of}
use Rattle.writing.specs.Writing.{next_of, next_place, output_of, frame_written}
use Rattle.writing.specs.declared.Place.{Place}
use Rattle.writing.proofs.Laws.{laid_well}
use Rattle.writing.proofs.LayingLaws.{length_left, length_run, length_placed, none_after}
use Rattle.read_back.specs.Demand2.{Writing, Fair, filler_for, fillers, frames, place_after}
use Rattle.demands.specs.History.{carried}
use Rattle.read_back.proofs.AllArrive.{total, total_none, total_more}
use Rattle.demands.proofs.Calls.{carried_none, carried_all}
use Rattle.demands.proofs.Hears.{not_idle}
use Rattle.read_back.proofs.Lays.{filler_idle_frame, filler_long}
use Rattle.read_back.proofs.Places.{Writes, few, answers, next_is, output_is, next_writes}
use Rattle.read_back.proofs.Sending.{pointer_nothing, pointer_some, nothing_says, some_placed, none_placed, size_most}
use Rattle.demands.proofs.Stream.{length_end}
use Rattle.read_back.proofs.Written.{opened_to, sent}

-- the octets of a stretch of calls balance, from offset o with l octets left over to o' with l': c are carried, and g are of fillers that were
-- begun; and what is left over at its end is of these if anything of the run was placed
abbrev pub Balance : ℕ → ℕ → ℕ → ℕ → ℕ → ℕ → Type 0
Balance o l c g o' l' = (l + g + o' ≡ c + l' + o) × ((o' ≡ o) ⊎ (l' ≤ g))

-- one call, in numbers: from offset o with l octets left over of a run of k octets, a field of D octets takes a of the left-over and b of the
-- run, n in all, and the filler leaves `over`
pub record Turn (D k o l a b n over o' l' : ℕ) : Type 0 where
  pub some : 1 ≤ D
  pub inside : o ≤ k
  pub of_left : a ≡ min l D
  pub of_run : b ≡ min (k - o) (D - a)
  pub in_all : n ≡ a + b
  pub no_room : D - n ≡ 0 → over ≡ 0
  pub next_offset : o' ≡ o + b
  pub next_left : l' ≡ l - a + over

module _ {D k o l a b n over o' l' : ℕ} (t : Turn D k o l a b n over o' l') where
  within : o' ≤ k
  within =
      let h = t.inside in
      let e = t.of_run in
      let i : b ≤ k - o = omega arith in
      omega (arith, t.next_offset)

  -- before the run's end the field is full
  full : (o' ≡ k → ⊥) → n ≡ D
  full h =
      let e = t.next_offset in
      let i = t.inside in
      let r = t.of_run in
      let j : b < k - o = let y : b ≤ k - o = omega arith in omega arith in
      let z : b ≡ D - a = omega arith in
      let y : a ≤ D = omega (arith, t.of_left) in
      omega (arith, t.in_all)

  comes_on : (o' ≡ k → ⊥) → l' + (k - o') + 1 ≤ l + (k - o)
  comes_on h =
      let f = full h in
      let z : over ≡ 0 = t.no_room (omega arith) in
      let w = within in
      let c = t.in_all in
      let d = t.next_left in
      let e = t.next_offset in
      let g = t.some in
      let i : a ≤ l = omega (arith, t.of_left) in
      comes_plain k o l a b o' l' w e (d ∙ ap (λ (x : ℕ). l - a + x) z ∙ plain_zero (l - a)) i (omega arith)
    where
      plain_zero : (x : ℕ) → x + 0 ≡ x
      plain_zero x = omega arith

      comes_plain : (k o l a b o' l' : ℕ) → o' ≤ k → o' ≡ o + b → l' ≡ l - a → a ≤ l → 1 ≤ a + b → l' + (k - o') + 1 ≤ l + (k - o)
      comes_plain k o l a b o' l' w e d i g = omega arith

  -- c octets are carried and a filler of g octets is begun, or nothing at all
  balance : (c g : ℕ) → ((c ≡ D) × (g ≡ D - n + over)) ⊎ ((c ≡ 0) × (l ≡ 0) × (n ≡ 0) × (g ≡ 0) × (over ≡ 0))
      → Balance o l c g o' l'
  balance c g (inr (ec, el, en, eg, eo)) =
      let i = t.in_all in
      let y = t.next_offset in
      let x = t.next_left in
      (omega arith, inl (omega arith))
  balance c g (inl (ec, eg)) =
      let i = t.in_all in
      let y = t.next_offset in
      let x = t.next_left in
      let k : a ≤ l = omega (arith, t.of_left) in
      let m : n ≤ D = room in
      (omega arith, go (ℕ_discrete b 0))
    where
      room : n ≤ D
      room = let y : a ≤ D = omega (arith, t.of_left) in let x : b ≤ D - a = omega (arith, t.of_run) in omega (arith, t.in_all)

      go : Dec (b ≡ 0) → (o' ≡ o) ⊎ (l' ≤ g)
      go (yes z) = inl (omega (arith, t.next_offset))
      go (no z) =
          let r = t.of_run in
          let y : 1 ≤ D - a = omega arith in
          let x : a ≡ l = let w = t.of_left in omega arith in
          inr (let q = t.next_left in omega arith)

-- two stretches one behind the other
both_balance : (o l o' l' o'' l'' c T g G : ℕ) → Balance o l c g o' l' → Balance o' l' T G o'' l'' → Balance o l (c + T) (g + G) o'' l''
both_balance o l o' l' o'' l'' c T g G (e, first) (e', second) = (omega arith, go first second)
  where
    go : (o' ≡ o) ⊎ (l' ≤ g) → (o'' ≡ o') ⊎ (l'' ≤ G) → (o'' ≡ o) ⊎ (l'' ≤ g + G)
    go first (inr h) = inr (omega arith)
    go (inl h) (inl i) = inl (omega arith)
    go (inr h) (inl i) = inr (omega arith)

-- the filler that a call begins
abbrev begun : SetUp → Option ControlWord → List ℕ → Place → List (List ℕ)
begun u w run p =
    filler_for (length (placed_part (close_size u w) run p.offset p.left_over))
    (close_size u w - length (placed_part (close_size u w) run p.offset p.left_over))

-- one call
module _ {u : SetUp} {v : ℕ} {run : List ℕ} {p : Place} (s : Writes u v run p) (w : Option ControlWord) (out : List ℕ) (e : length out ≡ u.length) where
  turn_place : Turn (close_size u w) (length run) p.offset p.left_over (length (left_part (close_size u w) p.left_over))
      (length (run_part (close_size u w) run p.offset p.left_over)) (length (placed_part (close_size u w) run p.offset p.left_over))
      (left_after (length (placed_part (close_size u w) run p.offset p.left_over))
      (close_size u w - length (placed_part (close_size u w) run p.offset p.left_over)))
      (next_place u p w run).offset (next_place u p w run).left_over
  unfolding next_place left_over_after
  turn_place =
      record {
        some = (laid_well u v p w run out (answers s w out e)).some;
        inside = s.inside;
        of_left = length_left (close_size u w) p.left_over (few s);
        of_run = length_run (close_size u w) run p.offset p.left_over;
        in_all = length_placed (close_size u w) run p.offset p.left_over;
        no_room = none_after (length (placed_part (close_size u w) run p.offset p.left_over))
            (close_size u w - length (placed_part (close_size u w) run p.offset p.left_over));
        next_offset = refl;
        next_left = refl;
      }

  turn : Turn (close_size u w) (length run) p.offset p.left_over (length (left_part (close_size u w) p.left_over))
      (length (run_part (close_size u w) run p.offset p.left_over)) (length (placed_part (close_size u w) run p.offset p.left_over))
      (left_after (length (placed_part (close_size u w) run p.offset p.left_over))
      (close_size u w - length (placed_part (close_size u w) run p.offset p.left_over)))
      (next_of u v p w run out).offset (next_of u v p w run out).left_over
  turn = rw (next_is s w out e) turn_place

  carries : Octets run → word_number w < 2 ^ 32
      → Balance p.offset p.left_over (carried u (output_of u v p w run out)) (length (end_to_end (begun u w run p)))
      (next_of u v p w run out).offset (next_of u v p w run out).left_over
  unfolding left_after
  carries real small =
      balance turn (carried u (output_of u v p w run out)) (length (end_to_end (begun u w run p))) (go (nothing_of run p.offset p.left_over) refl)
    where
      n : ℕ
      n = length (placed_part (close_size u w) run p.offset p.left_over)

      go : (b : Bool) → nothing_of run p.offset p.left_over ≡ b
          → ((carried u (output_of u v p w run out) ≡ close_size u w) × (length (end_to_end (begun u w run p)) ≡ close_size u w - n + left_after n (close_size u w - n)))
          ⊎ ((carried u (output_of u v p w run out) ≡ 0) × (p.left_over ≡ 0) × (n ≡ 0) × (length (end_to_end (begun u w run p)) ≡ 0)
          × (left_after n (close_size u w - n) ≡ 0))
      go true z =
          let o = (sent s real w out e small).opens in
          let none = none_placed s w out e z in
          inr (
            ap (carried u) (output_is s w out e)
                ∙ carried_none u (frame_written u v p w run) (opened_to u v p w run) o (pointer_nothing (close_size u w) _ p.left_over _ z),
            (nothing_says run p.offset p.left_over z).0,
            none,
            ap (λ (x : List (List ℕ)). length (end_to_end x)) (filler_idle_frame n (close_size u w - n) none),
            rw (eq-eqb n 0 none),
          )
      go false z =
          let o = (sent s real w out e small).opens in
          inl (
            ap (carried u) (output_is s w out e)
                ∙ carried_all u (frame_written u v p w run) (opened_to u v p w run) o
                (not_idle (close_size u w) (p.left_over + distance_of run p.offset) _ (size_most u w s.fits)
                (pointer_some (close_size u w) (distance_of run p.offset) p.left_over _ z)),
            filler_long n (close_size u w - n) (some_placed s w out e z),
          )

-- all calls
module _ {u : SetUp} {v : ℕ} {run : List ℕ} where
  pub stays_within : (cs : List Writing) (p : Place) → Writes u v run p → Fair u cs
      → (p.offset ≤ (place_after u v run p cs).offset) × ((place_after u v run p cs).offset ≤ length run)
  unfolding place_after
  stays_within [] p s f = (omega arith, s.inside)
  stays_within (c ∷ cs) p s f =
      let t = turn s c.word c.out f.0 in
      let on = stays_within cs (next_of u v p c.word run c.out) (next_writes s c.word c.out f.0) f.2 in
      (omega (arith, t.next_offset), on.1)

  pub gets_there : (cs : List Writing) (p : Place) → Writes u v run p → Fair u cs → p.left_over + (length run - p.offset) ≤ length cs
      → (place_after u v run p cs).offset ≡ length run
  unfolding place_after
  gets_there [] p s f h = let i = s.inside in omega arith
  gets_there (c ∷ cs) p s f h =
      let t = turn s c.word c.out f.0 in
      let q = next_of u v p c.word run c.out in
      let n = next_writes s c.word c.out f.0 in
      go (ℕ_discrete q.offset (length run)) (λ z. let y = comes_on t z in gets_there cs q n f.2 (omega arith)) (stays_within cs q n f.2)
    where
      q : Place
      q = next_of u v p c.word run c.out

      go : Dec (q.offset ≡ length run) → ((q.offset ≡ length run → ⊥) → (place_after u v run q cs).offset ≡ length run)
          → (q.offset ≤ (place_after u v run q cs).offset) × ((place_after u v run q cs).offset ≤ length run)
          → (place_after u v run q cs).offset ≡ length run
      go (yes z) on b = omega arith
      go (no z) on b = on z

  -- the octets of all calls balance
  pub carries_all : Octets run → (cs : List Writing) (p : Place) → Writes u v run p → Fair u cs
      → Balance p.offset p.left_over (total u (frames u v run p cs)) (length (end_to_end (fillers u v run p cs)))
      (place_after u v run p cs).offset (place_after u v run p cs).left_over
  unfolding place_after frames fillers
  carries_all real [] p s f = (rw (total_none u) (omega arith), inl refl)
  carries_all real (c ∷ cs) p s f =
      let q = next_of u v p c.word run c.out in
      rw (total_more u (output_of u v p c.word run c.out) (frames u v run q cs), length_end (begun u c.word run p) (fillers u v run q cs))
      (both_balance _ _ q.offset q.left_over _ _ _ _ _ _ (carries s c.word c.out f.0 real f.1)
      (carries_all real cs q (next_writes s c.word c.out f.0) f.2))
