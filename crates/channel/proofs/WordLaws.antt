-- A channel's rules, as a test and in the paper's words.
-- Assumes nothing.
use mathlib.Core.Path.{◌≡◌, refl, ◌∙◌, sym}
use mathlib.Core.Bool.{Bool, true, false, false≢true}
use mathlib.Core.List.{List}
use mathlib.Core.Logic.{◌↔◌}
use Prim.Native.Nat.{ℕ, ◌≤◌, ◌<◌}
use native.Mathlib.Decide.{dec_lt, ℕ_discrete}
use native.Mathlib.Omega.{arith}
use lib.Dec.{ltb, leb}
use lib.ListN.{length, take}
use lib.Seq.{length-take-le}
use borrow.Author.Tests.{ltb-true, leb-true, lt-ltb, le-leb}
use Rattle.octets.specs.Pick.{pick}
use Rattle.packet.specs.Size.{size_of, version_of, total_of, source}
use Rattle.packet.specs.Theorems.{InWords as Words}
use Rattle.packet.proofs.Laws.{size_in_words}
use Rattle.channel.specs.declared.state.State.{State}
use Rattle.channel.specs.declared.state.State.TheVariants.{Hunting, Gathering, Skipping}
use Rattle.channel.specs.Rules.{judged, state_follows, hunts, channel_follows}
use Rattle.channel.specs.Theorems.{InWords, RulesInWords}
use Rattle.channel.proofs.RuleLaws.{both, and, gathers_told, gathers_from}

-- what the size of k held octets must be, in words
Held : ℕ → ℕ → List ℕ → Type 0
Held limit k p = (1 ≤ k → version_of p ≡ 0) × (6 ≤ k → (k < total_of p) × (total_of p ≤ limit))

held : (limit k : ℕ) (p : List ℕ) → length p ≡ k → judged limit k (size_of p) ≡ true ↔ Held limit k p
unfolding judged Held
held limit k p e = first (ℕ_discrete k 0)
  where
    w : Words p
    w = size_in_words p

    n : ℕ
    n = total_of p

    third : 1 ≤ k → version_of p ≡ 0 → Dec (k < 6) → judged limit k (size_of p) ≡ true ↔ Held limit k p
    third h v (yes l) = (λ t. (λ i. v, λ i. absurd (omega arith)), λ r. rw (w.few (omega arith) v (omega arith)))
    third h v (no l) = rw (w.six (omega arith) v) (
      λ t. let u = both (ltb k n) (leb n limit) t in (λ i. v, λ i. (ltb-true k n u.0, leb-true n limit u.1)),
      λ r. let u = r.1 (omega arith) in and (lt-ltb k n u.0) (le-leb n limit u.1),
    )

    second : 1 ≤ k → Dec (version_of p ≡ 0) → judged limit k (size_of p) ≡ true ↔ Held limit k p
    second h (yes v) = third h v (dec_lt k 6)
    second h (no v) = rw (w.other (omega arith) v) (λ t. absurd (false≢true t), λ r. absurd (v (r.0 h)))

    first : Dec (k ≡ 0) → judged limit k (size_of p) ≡ true ↔ Held limit k p
    first (yes z) = (λ t. (λ i. absurd (omega arith), λ i. absurd (omega arith)), λ r. rw (w.none (omega arith)))
    first (no z) = second (omega arith) (ℕ_discrete (version_of p) 0)

-- what k octets gathered must be, and what a state must be, in words
Gathers : ℕ → List ℕ → ℕ → Type 0
Gathers limit part k = (k < limit) × (k ≤ length part) × Held limit k (take k part)

Keeps : ℕ → List ℕ → State → Type 0
Keeps limit part s = ((k : ℕ) → s ≡ Gathering k → Gathers limit part k) × ((r : ℕ) → s ≡ Skipping r → (1 ≤ r) × (r ≤ 65536))

-- a state is of one variant, with one number
hunting_gathering : {A : Type 0} {s : State} {k : ℕ} → s ≡ Hunting → s ≡ Gathering k → A
hunting_gathering a b = absurd (let z : ◌≡◌ {A = ℕ} 0 1 = cc in omega arith)

hunting_skipping : {A : Type 0} {s : State} {r : ℕ} → s ≡ Hunting → s ≡ Skipping r → A
hunting_skipping a b = absurd (let z : ◌≡◌ {A = ℕ} 0 1 = cc in omega arith)

gathering_skipping : {A : Type 0} {s : State} {k r : ℕ} → s ≡ Gathering k → s ≡ Skipping r → A
gathering_skipping a b = absurd (let z : ◌≡◌ {A = ℕ} 0 1 = cc in omega arith)

gathering_same : {k m : ℕ} → Gathering k ≡ Gathering m → m ≡ k
gathering_same e = cc

skipping_same : {r m : ℕ} → Skipping r ≡ Skipping m → m ≡ r
skipping_same e = cc

module _ (limit : ℕ) (part : List ℕ) where
  gathers : (k : ℕ) → state_follows source limit part (Gathering k) ≡ true ↔ Gathers limit part k
  unfolding Gathers
  gathers k = (
    λ t. let u = gathers_told source limit part k t in
        (u.0, u.1, (held limit k (take k part) (length-take-le k part u.1)).0 u.2),
    λ w. gathers_from source limit part k w.0 w.1 ((held limit k (take k part) (length-take-le k part w.1)).1 w.2),
  )

  keeps : (s : State) → state_follows source limit part s ≡ true ↔ Keeps limit part s
  unfolding state_follows Keeps
  keeps Hunting = (λ t. (λ k q. hunting_gathering refl q, λ r q. hunting_skipping refl q), λ w. refl)
  keeps (Gathering k) = (
    λ t. (λ m q. rw (gathering_same q) ((gathers k).0 t), λ r q. gathering_skipping refl q),
    λ w. (gathers k).1 (w.0 k refl),
  )
  keeps (Skipping r) = (
    λ t. let u = both (leb 1 r) (leb r 65536) t in
        (λ k q. gathering_skipping q refl, λ m q. rw (skipping_same q) (leb-true 1 r u.0, leb-true r 65536 u.1)),
    λ w. let u = w.1 r refl in and (le-leb 1 r u.0) (le-leb r 65536 u.1),
  )

hunting : (s : State) → hunts s ≡ true ↔ s ≡ Hunting
unfolding hunts
hunting Hunting = (λ t. refl, λ e. refl)
hunting (Gathering k) = (λ t. absurd (false≢true t), λ e. hunting_gathering e refl)
hunting (Skipping r) = (λ t. absurd (false≢true t), λ e. hunting_skipping e refl)

pub rules_in_words : RulesInWords
unfolding channel_follows state_follows Keeps Gathers Held
rules_in_words limit part c = go c.heard refl
  where
    s : State
    s = c.state

    words : (c.heard ≡ false → s ≡ Hunting) → Keeps limit part s → InWords limit part c
    words f k =
        record {
          unheard = f;
          gathering = λ n e. (k.0 n e).0;
          there = λ n e. (k.0 n e).1;
          version = λ n e. (k.0 n e).2.0;
          total = λ n e. (k.0 n e).2.1;
          skipping = k.1;
        }

    go : (b : Bool) → c.heard ≡ b → pick b (state_follows source limit part s) (hunts s) ≡ true ↔ InWords limit part c
    go true h = (
      λ t. words (λ f. absurd (false≢true (sym f ∙ h))) ((keeps limit part s).0 t),
      λ w. (keeps limit part s).1 (λ k e. (w.gathering k e, w.there k e, (w.version k e, w.total k e)), w.skipping),
    )
    go false h = (
      λ t. let z : s ≡ Hunting = (hunting s).0 t in words (λ f. z) ((keeps limit part s).0 (rw z)),
      λ w. (hunting s).1 (w.unheard h),
    )
