-- Laws of a saved record's words, packed and unpacked.
-- Assumes nothing.
use mathlib.Core.Path.{◌≡◌, refl, ◌∙◌, sym, ap, subst}
use mathlib.Core.Bool.{true}
use mathlib.Core.List.{List, [], ◌∷◌, ◌++◌, append_assoc}
use Prim.Native.Nat.{ℕ, zero, suc, ◌+◌, ◌*◌, ◌/◌, ◌≤◌, ◌<◌}
use native.Mathlib.Nat.{add-zero}
use native.Mathlib.Omega.{arith}
use lib.ListN.{length, get_or, take, drop, get_or-eq_default, length-append, length-drop, length-take, take-append-drop}
use lib.Seq.{drop-drop, ext_get_or, get_or-drop, get_or-take}
use denote.Param.Members.{Mut, Called}
use Rattle.std.specs.Array.{IsFromFnResult, IsFromFnResultFrom, list_steps}
use Rattle.std.specs.Iterator.{Yields}
use Rattle.std.specs.List.{flat_map}
use Rattle.std.specs.Simd.{first_chunks}
use Rattle.std.proofs.lemmas.List.FromFn.{get_or-map-range_with_len}
use Rattle.channel.specs.State.{fresh_channel}
use Rattle.channel.specs.declared.state.Channel.{Channel}
use Rattle.channel.specs.declared.state.State.{State}
use Rattle.host_words.specs.Busy.{seen_at, state_at}
use Rattle.host_words.specs.Words.{each_channel, packed_channel, packed_all, channel_at, unpacked_channel}

-- eight channels
pub each_at : (f : ℕ → Channel) (v : ℕ) → v < 8 → get_or (each_channel f) v fresh_channel ≡ f v
each_at f v h = get_or-map-range_with_len f 0 8 v v fresh_channel h (omega arith)

-- and made by a closure that a call leaves as it was
module _ {F : Type 0} (g : Mut F (ℕ × Unit {0}) Channel) (f : F) (made : ℕ → Channel) (one : (v : ℕ) (c : Channel) (q : F) → v < 8 → Called g f (v, tt) c q → (c ≡ made v) × (q ≡ f)) where
  made_at : (cs : List Channel) (n i v : ℕ) (d : Channel) (q : F) → q ≡ f → i + n ≤ 8 → IsFromFnResultFrom g q cs i n → v < n → get_or cs (i + v) d ≡ made (i + v)
  made_at cs zero i v d q e l t h = absurd (omega arith)
  made_at cs (suc n) i zero d q e l t h =
      rw add-zero (t.2.1 d ∙ (one i t.1 t.0 (omega arith) (subst (λ (p : F). Called g p (i, tt) t.1 t.0) e t.3)).0)
  made_at cs (suc n) i (suc v) d q e l t h =
      let k = one i t.1 t.0 (omega arith) (subst (λ (p : F). Called g p (i, tt) t.1 t.0) e t.3) in
      let on : i + suc v ≡ i + 1 + v = omega arith in
      rw on (made_at cs n (i + 1) v d t.0 k.1 (omega arith) t.4 (omega arith))

  pub made_each : (cs : List Channel) → IsFromFnResult g f cs 8 → cs ≡ each_channel made
  made_each cs is =
      ext_get_or fresh_channel cs (each_channel made) is.long
      (λ v h.
      let at : 0 + v ≡ v = omega arith in
      rw at at (made_at cs 8 0 v fresh_channel f refl (omega arith) is.each (omega (arith, is.long))) ∙ sym (each_at made v (omega (arith, is.long))))

pub channel_words : (words : List ℕ) (v : ℕ)
    → channel_at words v
    ≡ unpacked_channel (get_or (drop (4 * v) words) 0 0) (get_or (drop (4 * v) words) 1 0) (get_or (drop (4 * v) words) 2 0) (get_or (drop (4 * v) words) 3 0)
unfolding channel_at
channel_words words v = simp (get_or-drop, add-zero)

-- the words by fours
pub four_at : (words : List ℕ) (n v : ℕ) (d : List ℕ) → v < n → get_or (first_chunks 4 n words) v d ≡ take 4 (drop (4 * v) words)
four_at words zero v d h = absurd (omega arith)
four_at words (suc n) zero d h = refl
four_at words (suc n) (suc v) d h =
    let on : 4 + 4 * v ≡ 4 * suc v = omega arith in
    four_at (drop 4 words) n v d (omega arith) ∙ ap (take 4) (drop-drop (4 * v) 4 words ∙ ap (λ (i : ℕ). drop i words) on)

four_channel : (words : List ℕ) (v : ℕ) → channel_at (take 4 (drop (4 * v) words)) 0 ≡ channel_at words v
unfolding channel_at
four_channel words v =
    let d = drop (4 * v) words in
    rw (get_or-take 4 d 0 0 (omega arith), get_or-take 4 d 1 0 (omega arith), get_or-take 4 d 2 0 (omega arith), get_or-take 4 d 3 0 (omega arith))
    (sym (channel_words words v))

four_state : (words : List ℕ) (v : ℕ) → 4 * v + 3 < length words → state_at (take 4 (drop (4 * v) words)) 0 ≡ state_at words v
unfolding state_at
four_state words v h =
    let d = drop (4 * v) words in
    grind (arith, length-take 4 d, length-drop (4 * v) words, get_or-take 4 d 2 0, get_or-take 4 d 3 0, get_or-drop (4 * v) words 2 0, get_or-drop (4 * v) words 3 0)

module _ (words : List ℕ) (fours : List (List ℕ)) (are : fours ≡ first_chunks 4 (length words / 4) words) (v : ℕ) (d : List ℕ) where
  pub channel_in : 4 * v + 3 < length words → channel_at (get_or fours v d) 0 ≡ channel_at words v
  channel_in h = rw (are, four_at words (length words / 4) v d (omega arith)) (four_channel words v)

  -- no words past the end, and then the channel counts as hunting
  pub state_in : length fours ≡ length words / 4 → state_at (get_or fours v []) 0 ≡ state_at words v
  unfolding state_at
  state_in n = grind (arith, four_at words (length words / 4) v [], four_state words v, get_or-eq_default fours [] {n = v})

  pub seen_in : length fours ≡ length words / 4 → seen_at (get_or fours v []) 0 ≡ seen_at words v
  seen_in n = ap (λ (s : State). record { heard = true; last = record { 0 = 0 }; state = s }) (state_in n)

pub packed_append : (cs ds : List Channel) → packed_all (cs ++ ds) ≡ packed_all cs ++ packed_all ds
unfolding packed_all
packed_append [] ds = refl
packed_append (c ∷ cs) ds = rw (packed_append cs ds) (sym (append_assoc (packed_channel c) (packed_all cs) (packed_all ds)))

pub length_packed : (cs : List Channel) → length (packed_all cs) ≡ 4 * length cs
unfolding packed_all
length_packed [] = refl
length_packed (c ∷ cs) = simp length-append (omega (arith, length_packed cs))

-- the fours of words one behind the other
pub packed_by : (cs : List Channel) (fours : List (List ℕ)) → length cs ≡ length fours
    → ((v : ℕ) → v < length cs → get_or fours v [] ≡ packed_channel (get_or cs v fresh_channel)) → flat_map (λ four. four) fours ≡ packed_all cs
unfolding packed_all
packed_by [] [] n h = refl
packed_by [] (four ∷ fours) n h = absurd (omega arith)
packed_by (c ∷ cs) [] n h = absurd (omega arith)
packed_by (c ∷ cs) (four ∷ fours) n h = rw (h 0 (omega arith), packed_by cs fours (omega arith) (λ v l. h (suc v) (omega arith))) refl

pub fours_whole : (n : ℕ) (words : List ℕ) → length words ≡ 4 * n → flat_map (λ four. four) (first_chunks 4 n words) ≡ words
fours_whole zero [] e = refl
fours_whole zero (w ∷ words) e = absurd (omega arith)
fours_whole (suc n) words e = rw (fours_whole n (drop 4 words) (omega (arith, length-drop 4 words))) (take-append-drop 4 words)

-- what holds of each channel holds of one that comes in turn
pub each_in_turn : (P : Channel → Type 0) (cs came rest : List Channel) (left : List Channel) (c : Channel)
    → ((v : ℕ) → v < length cs → P (get_or cs v fresh_channel)) → Yields list_steps cs came left → left ≡ c ∷ rest → P c
each_in_turn P cs [] rest left c h e q =
    let s = e ∙ q in
    (rw s at h) 0 (omega arith)
each_in_turn P cs (d ∷ came) rest left c h (j, e, y) q = each_in_turn P j came rest left c (λ v l. (rw e at h) (suc v) (omega arith)) y q
