-- One arriving frame with packets: where the reader stands before it, the whole packets that it brings, and where the reader stands then.
-- Assumes nothing.
use mathlib.Core.Path.{◌≡◌, refl, sym}
use mathlib.Core.Bool.{Bool, true}
use mathlib.Core.List.{List, [], ◌∷◌, ◌++◌}
use mathlib.Core.Logic.{◌⊎◌}
use Prim.Native.Nat.{ℕ, ◌-◌, ◌≤◌, ◌<◌}
use native.Mathlib.Omega.{arith}
use lib.ListN.{length, take, drop, replicate, length-append}
use borrow.Author.Tests.{eq-eqb, ne_eqb, lt-ltb, le-ltb, le-leb, lt-leb}
use Rattle.packet.specs.Family.{Family, Lawful, Whole, AllWhole}
use Rattle.packet.specs.Theorems.{end_to_end}
use Rattle.packet.specs.declared.source.Size.{Size}
use Rattle.packet.specs.declared.source.Size.TheVariants.{Wait, Total}
use Rattle.walk.specs.Theorems.{Roomy}
use Rattle.frame.specs.Opening.{none_starts}
use Rattle.channel.specs.declared.state.State.{State}
use Rattle.channel.specs.declared.state.State.TheVariants.{Hunting, Gathering, Skipping}
use Rattle.walk.specs.Steps.{hunted, called_at, agrees_by, agrees, gathered, skipped}
use Rattle.walk.specs.Walk.{Done, only, ended, walk_of}
use Rattle.demands.specs.Sender.{Mark, inner, marks_of_all}
use Rattle.demands.proofs.Aligned.{AllFit, Ran, Standing, exact_ran, exact_state, midst_done}
use Rattle.demands.proofs.Aligned.Standing.{gathering, skipping}
use Rattle.demands.proofs.Spot.{Free, Inside, Lost, finishes}
use Rattle.demands.proofs.Stream.{whole_some}

-- where the reader stands while no frame is missing: it hunts and no packet is under way that it could finish; it is between packets; it
-- holds all octets so far of the packet under way; or it skips a packet that is too long
pub data Stand (F : Family) (limit : ℕ) (s : State) (part tail : List ℕ) (ps : List (List ℕ)) (came : List Bool) (q : List ℕ) (behind : List (List ℕ)) : Type 0 where
  hunting : s ≡ Hunting → Lost tail ps came q behind → Stand F limit s part tail ps came q behind
  between : s ≡ Gathering 0 → q ≡ [] → Free tail ps came q behind → Stand F limit s part tail ps came q behind
  gathers : (begun : List ℕ) → s ≡ Gathering (length begun) → take (length begun) part ≡ begun
      → (length (begun ++ q) ≤ limit) ⊎ (F.size begun ≡ Wait) → Inside tail ps came begun q behind true → Stand F limit s part tail ps came q behind
  skips : (begun : List ℕ) (b : Bool) → s ≡ Skipping (length q) → limit < length (begun ++ q) → Inside tail ps came begun q behind b
      → Stand F limit s part tail ps came q behind

-- what an arriving frame of D octets did is right: the packets that it finishes came out, and the reader stands where the sender does
pub record Good (F : Family) (limit : ℕ) (d : Done) (tail : List ℕ) (ps : List (List ℕ)) (came : List Bool) (D : ℕ) (rest : List Mark) : Type 0 where
  pub ran : Ran d (finishes limit tail ps came D)
  pub to_come : List ℕ
  pub behind : List (List ℕ)
  pub rest_is : rest ≡ inner to_come ++ marks_of_all behind
  pub stands : (part : List ℕ) → take (length d.held) part ≡ d.held
      → Stand F limit d.state part tail ps (came ++ replicate D true) to_come behind

pub none_there : (F : Family) (laws : Lawful F) (ws : List (List ℕ)) → AllWhole F ws → length (end_to_end ws) ≡ 0 → ws ≡ []
none_there F laws [] w h = refl
none_there F laws (p ∷ ws) w h = absurd (omega (arith, whole_some F laws p w.0, length-append p (end_to_end ws)))

pub called_below : (D e : ℕ) → e < D → called_at D e ≡ e
unfolding called_at
called_below D e h = rw (lt-ltb e D h)

pub called_beyond : (D e : ℕ) → D ≤ e → called_at D e ≡ none_starts
unfolding called_at
called_beyond D e h = rw (le-ltb e D h)

-- the steps where the pointer agrees
pub hunted_none : (F : Family) (limit : ℕ) (field : List ℕ) (pointer : ℕ) → pointer ≡ none_starts → hunted F limit field pointer ≡ only Hunting
unfolding hunted
hunted_none F limit field pointer e = rw (eq-eqb pointer none_starts e)

pub hunted_at : (F : Family) (limit : ℕ) (field : List ℕ) (pointer : ℕ) → pointer < 2047
    → hunted F limit field pointer ≡ ended (walk_of F limit (drop pointer field))
unfolding hunted
hunted_at F limit field pointer h = rw (ne_eqb pointer none_starts (λ z. omega arith))

pub gathered_on : (F : Family) (limit : ℕ) (part field : List ℕ) (pointer k : ℕ) (s : Size) → agrees (length field) k s pointer ≡ true
    → gathered F limit part field pointer k s ≡ ended (walk_of F limit (take k part ++ field))
unfolding gathered
gathered_on F limit part field pointer k s e = rw e

pub agrees_none : (D k : ℕ) (s : Size) (pointer : ℕ) → k ≡ 0 → pointer ≡ called_at D 0 → agrees D k s pointer ≡ true
unfolding agrees
agrees_none D k s pointer e h = rw (eq-eqb k 0 e) (eq-eqb pointer (called_at D 0) h)

pub agrees_wait : (D k : ℕ) (s : Size) (pointer : ℕ) → 1 ≤ k → s ≡ Wait → pointer ≡ none_starts → agrees D k s pointer ≡ true
unfolding agrees agrees_by
agrees_wait D k s pointer h e z = rw (ne_eqb k 0 (λ y. omega arith), e) (eq-eqb pointer none_starts z)

pub agrees_total : (D k n : ℕ) (s : Size) (pointer : ℕ) → 1 ≤ k → s ≡ Total n → pointer ≡ called_at D (n - k) → agrees D k s pointer ≡ true
unfolding agrees agrees_by
agrees_total D k n s pointer h e z = rw (ne_eqb k 0 (λ y. omega arith), e) (eq-eqb pointer (called_at D (n - k)) z)

pub skipped_past : (F : Family) (limit : ℕ) (field : List ℕ) (pointer r : ℕ) → pointer ≡ called_at (length field) r → r ≤ length field
    → skipped F limit field pointer r ≡ ended (walk_of F limit (drop r field))
unfolding skipped
skipped_past F limit field pointer r e h = rw (eq-eqb pointer (called_at (length field) r) e, le-leb r (length field) h)

pub skipped_on : (F : Family) (limit : ℕ) (field : List ℕ) (pointer r : ℕ) → pointer ≡ called_at (length field) r → length field < r
    → skipped F limit field pointer r ≡ only (Skipping (r - length field))
unfolding skipped
skipped_on F limit field pointer r e h = rw (eq-eqb pointer (called_at (length field) r) e, lt-leb r (length field) h)

module _ {F : Family} {limit : ℕ} (G : Roomy F limit) {tail : List ℕ} {ps : List (List ℕ)} {came : List Bool} {D : ℕ} {rest : List Mark} where
  -- nothing came out and the channel hunts
  pub only_good : (q : List ℕ) (behind : List (List ℕ)) → finishes limit tail ps came D ≡ [] → Lost tail ps (came ++ replicate D true) q behind
      → rest ≡ inner q ++ marks_of_all behind → Good F limit (only Hunting) tail ps came D rest
  only_good q behind f l r =
      record {
        ran = record { whole = sym f; none_foreign = refl; none_disagrees = refl };
        to_come = q;
        behind = behind;
        rest_is = r;
        stands = λ part h. hunting refl l;
      }

  -- the walk came to an exact end, or into the beginning of a packet
  pub exact_good : (d : Done) (vs behind : List (List ℕ)) → AllWhole F vs → AllFit limit vs → finishes limit tail ps came D ≡ vs
      → d ≡ ended (walk_of F limit (end_to_end vs)) → Free tail ps (came ++ replicate D true) [] behind → rest ≡ marks_of_all behind
      → Good F limit d tail ps came D rest
  unfolding inner
  exact_good d vs behind w a f e s r =
      rw e
      (record {
        ran = rw f (exact_ran F G.laws limit vs w a);
        to_come = [];
        behind = behind;
        rest_is = r;
        stands = λ part h. between (exact_state F G.laws limit vs w a) refl s;
      })

  pub midst_good : (d : Done) (vs : List (List ℕ)) (begun left : List ℕ) (behind : List (List ℕ)) → AllWhole F vs → AllFit limit vs
      → Whole F (begun ++ left) → finishes limit tail ps came D ≡ vs → d ≡ ended (walk_of F limit (end_to_end vs ++ begun))
      → Inside tail ps (came ++ replicate D true) begun left behind true → rest ≡ inner left ++ marks_of_all behind
      → Good F limit d tail ps came D rest
  midst_good d vs begun left behind w a p f e s r =
      let m = midst_done F G.laws limit vs w a begun left p s.some s.more in
      rw e (record { ran = rw f m.0; to_come = left; behind = behind; rest_is = r; stands = λ part h. go part h m.1 })
    where
      x : Done
      x = ended (walk_of F limit (end_to_end vs ++ begun))

      go : (part : List ℕ) → take (length x.held) part ≡ x.held → Standing F limit x.state x.held begun left
          → Stand F limit x.state part tail ps (came ++ replicate D true) left behind
      go part h (gathering y i o) = gathers begun y (rw i at h) o s
      go part h (skipping y o) = skips begun true y o s
