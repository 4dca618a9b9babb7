-- The busy mask of words: bit by bit, and of words that were packed.
-- Assumes nothing.
use mathlib.Core.Path.{◌≡◌, refl, ◌∙◌, sym, ap}
use mathlib.Core.Bool.{Bool, true}
use mathlib.Core.List.{List, [], ◌∷◌}
use Prim.Native.Nat.{ℕ, suc, ◌+◌, ◌*◌, ◌/◌, ◌%◌, ◌^◌, ◌<◌}
use native.Mathlib.Omega.{arith}
use borrow.Author.Tests.{lt-ltb}
use lib.Dec.{ltb}
use lib.ListN.{length, get_or}
use lib.Seq.{get_or-drop}
use Rattle.octets.specs.Pick.{pick}
use Rattle.channel.proofs.Laws.{mask_bit, mask_no_more}
use Rattle.channel.specs.Busy.{busy_state, count_of, lowest_from, lowest_of, mask_from, mask_of}
use Rattle.channel.specs.State.{fresh_channel}
use Rattle.channel.specs.declared.state.Channel.{Channel}
use Rattle.channel.specs.declared.state.Record.{Record}
use Rattle.channel.specs.declared.state.State.{State}
use Rattle.host_words.specs.Busy.{seen, seen_at, seen_state, state_at}
use Rattle.host_words.specs.Theorems.{BusyAt, BusyExactly}
use Rattle.host_words.specs.Words.{number_word, packed, packed_all, state_word}
use Rattle.host_words.proofs.OwnLaws.{drop_packed, each_at}
use Rattle.host_words.proofs.WordLaws.{length_packed}

at_busy : (words : List ℕ) (v : ℕ) → busy_state (state_at words v) ≡ true → BusyAt words v
unfolding state_at busy_state seen_state
at_busy words v e = grind arith

busy_at : (words : List ℕ) (v : ℕ) → BusyAt words v → busy_state (state_at words v) ≡ true
unfolding state_at busy_state seen_state
busy_at words v h = grind arith

one_bit : (b : Bool) → ◌≡◌ {A = ℕ} (pick b 1 0) 1 → b ≡ true
one_bit b e = grind arith

pub busy_exactly : BusyExactly
unfolding seen
busy_exactly words = (
  λ v h.
      let bit : mask_of (seen words) / 2 ^ v % 2 ≡ pick (busy_state (state_at words v)) 1 0 =
      mask_bit (seen words) v h ∙ ap (λ (c : Channel). pick (busy_state c.state) 1 0) (each_at (seen_at words) v h) in
      (λ e. at_busy words v (one_bit (busy_state (state_at words v)) (sym bit ∙ e)), λ b. bit ∙ ap (λ (t : Bool). pick t 1 0) (busy_at words v b)),
  mask_no_more (seen words),
)

-- the mask, the count and the lowest channel go by the states alone
same_busy : (cs ds : List Channel) (v : ℕ) → length cs ≡ length ds
    → ((i : ℕ) → i < length cs → (get_or cs i fresh_channel).state ≡ (get_or ds i fresh_channel).state)
    → (mask_from v cs ≡ mask_from v ds) × (count_of cs ≡ count_of ds) × (lowest_from v cs ≡ lowest_from v ds)
unfolding mask_from count_of lowest_from
same_busy [] [] v n h = (refl, refl, refl)
same_busy [] (d ∷ ds) v n h = absurd (omega arith)
same_busy (c ∷ cs) [] v n h = absurd (omega arith)
same_busy (c ∷ cs) (d ∷ ds) v n h =
    let r = same_busy cs ds (suc v) (omega arith) (λ i l. h (suc i) (omega arith)) in
    let e = ap busy_state (h 0 (omega arith)) in
    grind arith

state_seen : (s : State) → seen_state (state_word s) (number_word s) ≡ s
unfolding seen_state
state_seen s = grind arith

packed_state : (cs : List Channel) (v : ℕ) → v < length cs → state_at (packed_all cs) v ≡ (get_or cs v fresh_channel).state
unfolding state_at
packed_state cs v h =
    let ws = packed_all cs in
    let in_words : ltb (4 * v + 3) (length ws) ≡ true = lt-ltb (4 * v + 3) (length ws) (omega (arith, length_packed cs)) in
    rw (in_words, ← (get_or-drop (4 * v) ws 2 0), ← (get_or-drop (4 * v) ws 3 0), drop_packed cs v h) (state_seen (get_or cs v fresh_channel).state)

pub packed_busy : (rec : Record) → length rec.channels ≡ 8
    → (mask_of (seen (packed rec)) ≡ mask_of rec.channels) × (count_of (seen (packed rec)) ≡ count_of rec.channels)
    × (lowest_of (seen (packed rec)) ≡ lowest_of rec.channels)
unfolding seen
packed_busy rec n =
    let cs = rec.channels in
    let ws = packed_all cs in
    same_busy (seen ws) cs 0 (sym n) (λ i l. ap (λ (c : Channel). c.state) (each_at (seen_at ws) i l) ∙ packed_state cs i (omega arith))
