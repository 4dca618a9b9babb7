-- The laws of a packet's size (specs/Theorems).
-- Assumes nothing.
use mathlib.Core.Path.{◌≡◌, refl, ◌∙◌, sym, ap}
use mathlib.Core.Bool.{Bool, true, false, ◌&&◌, false≢true}
use mathlib.Core.List.{List, [], ◌++◌, append_assoc}
use Prim.Native.Nat.{ℕ, ◌+◌, ◌-◌, ◌%◌, ◌≤◌, ◌<◌, min}
use native.Mathlib.Decide.{dec_lt, ℕ_discrete}
use native.Mathlib.Omega.{arith}
use lib.Dec.{eqb, leb}
use lib.ListN.{length, take, drop, length-append, take-append-drop, get_or-append}
use lib.Seq.{get_or-take, take_all, take-take, take-append-add, take-append-le, take-append_seam, length-take-le}
use borrow.Author.Tests.{eq-eqb, ne_eqb, lt-ltb, le-ltb, le-leb, leb-true}
use Rattle.octets.specs.Laid.{laid}
use Rattle.octets.proofs.Laws.{number_two, number_two_lt}
use Rattle.packet.specs.declared.source.Size.{Size}
use Rattle.packet.specs.declared.source.Size.TheVariants.{Wait, Foreign, Total}
use Rattle.octets.specs.Octets.{Octets}
use Rattle.packet.specs.Size.{least, packet_fits, version_of, total_of, idle_of, size_of}
use Rattle.packet.specs.Theorems.{InWords, SizeInWords, InOctetsLaw, IdleTold, SourceLawful, FirstTells, FitsExactly, FitsByLimit, TotalMost, SixTell}
use Rattle.packet.proofs.HeaderLaws.{version_at, version_is, application_is, total_at, total_is}

pub size_in_words : SizeInWords
unfolding size_of
size_in_words p = record {
  none = λ e. rw (eq-eqb (length p) 0 e);
  other = λ h v. rw (ne_eqb (length p) 0 (λ e. omega arith), ne_eqb (version_of p) 0 v);
  few = λ h v l. rw (ne_eqb (length p) 0 (λ e. omega arith), eq-eqb (version_of p) 0 v, lt-ltb (length p) 6 l);
  six = λ h v. rw (ne_eqb (length p) 0 (λ e. omega arith), eq-eqb (version_of p) 0 v, le-ltb (length p) 6 h);
}

pub in_octets : InOctetsLaw
unfolding idle_of
in_octets p = record {
  version = version_is p;
  idle = ap (λ (n : ℕ). eqb n 2047) (application_is p ∙ ap (λ (n : ℕ). n % 2048) (number_two p 0));
  total = λ a b. total_is p (number_two_lt p 4 a b) ∙ ap (λ (n : ℕ). n + 7) (number_two p 4);
}

pub idle_told : IdleTold
idle_told p n h =
    let a : 0 < n = omega arith in
    let b : 1 < n = omega arith in
    rw ((in_octets (take n p)).idle, (in_octets p).idle, get_or-take n p 0 0 a, get_or-take n p 1 0 b)

empty_waits : size_of [] ≡ Wait
empty_waits = (size_in_words []).none refl

-- the four cases of a list of octets
data Case (p : List ℕ) : Type 0 where
  none : length p ≡ 0 → Case p
  other : 1 ≤ length p → (version_of p ≡ 0 → ⊥) → Case p
  few : 1 ≤ length p → version_of p ≡ 0 → length p < 6 → Case p
  six : 6 ≤ length p → version_of p ≡ 0 → Case p

packet_case : (p : List ℕ) → Case p
packet_case p = first (ℕ_discrete (length p) 0)
  where
    third : 1 ≤ length p → version_of p ≡ 0 → Dec (length p < 6) → Case p
    third h v (yes l) = few h v l
    third h v (no l) = six (omega arith) v

    second : 1 ≤ length p → Dec (version_of p ≡ 0) → Case p
    second h (yes v) = third h v (dec_lt (length p) 6)
    second h (no v) = other h v

    first : Dec (length p ≡ 0) → Case p
    first (yes e) = none e
    first (no e) = second (omega arith) (ℕ_discrete (version_of p) 0)

-- what the first octet tells, and the first six, is the same with more behind them
version_more : (p q : List ℕ) → 1 ≤ length p → version_of (p ++ q) ≡ version_of p
version_more p q h = version_at (p ++ q) ∙ rw (get_or-append p q 0 0 h) (sym (version_at p))

total_more : (p q : List ℕ) → 6 ≤ length p → total_of (p ++ q) ≡ total_of p
total_more p q h =
    let a : 4 < length p = omega arith in
    let b : 5 < length p = omega arith in
    total_at (p ++ q) ∙ rw (number_two (p ++ q) 4, get_or-append p q 0 4 a, get_or-append p q 0 5 b, ← number_two p 4) (sym (total_at p))

longer : (p q : List ℕ) → length p ≤ length (p ++ q)
longer p q = simp length-append (omega arith)

both : (a b : Bool) → (a && b) ≡ true → (a ≡ true) × (b ≡ true)
both true b e = (refl, e)
both false b e = absurd (false≢true e)

-- one answer is not another
wait_foreign : {A : Type 0} {s : Size} → s ≡ Wait → s ≡ Foreign → A
wait_foreign a b = absurd (let z : ◌≡◌ {A = ℕ} 0 1 = cc in omega arith)

wait_total : {A : Type 0} {s : Size} {n : ℕ} → s ≡ Wait → s ≡ Total n → A
wait_total a b = absurd (let z : ◌≡◌ {A = ℕ} 0 1 = cc in omega arith)

foreign_total : {A : Type 0} {s : Size} {n : ℕ} → s ≡ Foreign → s ≡ Total n → A
foreign_total a b = absurd (let z : ◌≡◌ {A = ℕ} 0 1 = cc in omega arith)

total_same : {s : Size} {m n : ℕ} → s ≡ Total m → s ≡ Total n → m ≡ n
total_same a b = cc

foreign_stays : (p q : List ℕ) → size_of p ≡ Foreign → size_of (p ++ q) ≡ Foreign
foreign_stays p q e = go (packet_case p)
  where
    w : InWords p
    w = size_in_words p

    go : Case p → size_of (p ++ q) ≡ Foreign
    go (none h) = wait_foreign (w.none h) e
    go (other h v) =
        (size_in_words (p ++ q)).other (omega (arith, longer p q)) (λ z. v (sym (version_more p q h) ∙ z))
    go (few h v l) = wait_foreign (w.few h v l) e
    go (six h v) = foreign_total e (w.six h v)

total_stays : (p q : List ℕ) (n : ℕ) → size_of p ≡ Total n → size_of (p ++ q) ≡ Total n
total_stays p q n e = go (packet_case p)
  where
    w : InWords p
    w = size_in_words p

    go : Case p → size_of (p ++ q) ≡ Total n
    go (none h) = wait_total (w.none h) e
    go (other h v) = foreign_total (w.other h v) e
    go (few h v l) = wait_total (w.few h v l) e
    go (six h v) =
        (size_in_words (p ++ q)).six (omega (arith, longer p q)) (version_more p q (omega arith) ∙ v)
        ∙ ap Total (total_more p q h ∙ total_same (w.six h v) e)

pub total_least : (p : List ℕ) (n : ℕ) → size_of p ≡ Total n → 7 ≤ n
total_least p n e = go (packet_case p)
  where
    w : InWords p
    w = size_in_words p

    go : Case p → 7 ≤ n
    go (none h) = wait_total (w.none h) e
    go (other h v) = foreign_total (w.other h v) e
    go (few h v l) = wait_total (w.few h v l) e
    go (six h v) = omega (arith, total_same (w.six h v) e)

pub fits_exactly : FitsExactly
unfolding packet_fits
fits_exactly limit n = (
  λ e. let t = both (leb least n) (leb n limit) e in (leb-true least n t.0, leb-true n limit t.1),
  λ h. rw (le-leb least n h.0, le-leb n limit h.1),
)

pub fits_by_limit : FitsByLimit
unfolding packet_fits
fits_by_limit limit p n e = rw (le-leb least n (total_least p n e))

pub total_most : TotalMost
total_most p n e = go (packet_case p)
  where
    w : InWords p
    w = size_in_words p

    go : Case p → n ≤ 65542
    go (none h) = wait_total (w.none h) e
    go (other h v) = foreign_total (w.other h v) e
    go (few h v l) = wait_total (w.few h v l) e
    go (six h v) = omega (arith, total_same (w.six h v) e, total_at p)

last_tells : (p q : List ℕ) (n : ℕ) → size_of (p ++ q) ≡ Total n → n ≤ length p → size_of p ≡ Total n
last_tells p q n e h = go (packet_case p)
  where
    l : 7 ≤ n
    l = total_least (p ++ q) n e

    go : Case p → size_of p ≡ Total n
    go (none z) = absurd (omega (arith, l))
    go (other z v) = foreign_total (foreign_stays p q ((size_in_words p).other z v)) e
    go (few z v m) = absurd (omega (arith, l))
    go (six z v) =
        let t : size_of p ≡ Total (total_of p) = (size_in_words p).six z v in
        t ∙ ap Total (total_same (total_stays p q (total_of p) t) e)

-- what waits has fewer than six octets, and what tells a total has six
header_tells : (p : List ℕ) → size_of p ≡ Wait → length p < 6
header_tells p e = go (packet_case p)
  where
    w : InWords p
    w = size_in_words p

    go : Case p → length p < 6
    go (none h) = omega arith
    go (other h v) = wait_foreign e (w.other h v)
    go (few h v l) = l
    go (six h v) = wait_total e (w.six h v)

skip_most : (p : List ℕ) (n : ℕ) → Octets p → size_of p ≡ Total n → n ≤ length p + 65536
skip_most p n o e = go (packet_case p)
  where
    w : InWords p
    w = size_in_words p

    go : Case p → n ≤ length p + 65536
    go (none h) = wait_total (w.none h) e
    go (other h v) = foreign_total (w.other h v) e
    go (few h v l) = wait_total (w.few h v l) e
    go (six h v) = omega (arith, total_most p n e)

pub source_lawful : SourceLawful
source_lawful =
    record {
      empty_waits = empty_waits;
      foreign_stays = foreign_stays;
      total_stays = total_stays;
      last_tells = last_tells;
      header_tells = header_tells;
      total_least = total_least;
      least_some = omega arith;
      skip_most = skip_most;
    }

pub first_tells : FirstTells
first_tells p q e h = go (packet_case p)
  where
    with_version : version_of (p ++ q) ≡ 0 → Case (p ++ q) → size_of p ≡ Foreign
    with_version v (none z) = wait_foreign ((size_in_words (p ++ q)).none z) e
    with_version v (other z x) = absurd (x v)
    with_version v (few z x l) = wait_foreign ((size_in_words (p ++ q)).few z x l) e
    with_version v (six z x) = foreign_total e ((size_in_words (p ++ q)).six z x)

    w : InWords p
    w = size_in_words p

    go : Case p → size_of p ≡ Foreign
    go (none z) = absurd (omega arith)
    go (other z v) = w.other z v
    go (few z v l) = with_version (version_more p q z ∙ v) (packet_case (p ++ q))
    go (six z v) = foreign_total e (total_stays p q (total_of p) (w.six z v))

pub six_tell : SixTell
six_tell p = go (dec_lt (length p) 6)
  where
    t : List ℕ
    t = take 6 p

    back : t ++ drop 6 p ≡ p
    back = take-append-drop 6 p

    more : length t ≡ 6 → Case t → size_of p ≡ size_of t
    more e (none h) = absurd (omega arith)
    more e (other h v) =
        let f : size_of t ≡ Foreign = (size_in_words t).other h v in
        ap size_of (sym back) ∙ foreign_stays t (drop 6 p) f ∙ sym f
    more e (few h v l) = absurd (omega arith)
    more e (six h v) =
        let f : size_of t ≡ Total (total_of t) = (size_in_words t).six h v in
        ap size_of (sym back) ∙ total_stays t (drop 6 p) (total_of t) f ∙ sym f

    go : Dec (length p < 6) → size_of p ≡ size_of t
    go (yes l) = ap size_of (sym (take_all 6 p (omega arith)))
    go (no l) = more (length-take-le 6 p (omega arith)) (packet_case t)

-- two lists that agree in their first six octets tell the same
pub six_agree : (p q : List ℕ) → take 6 p ≡ take 6 q → size_of p ≡ size_of q
six_agree p q e = six_tell p ∙ ap size_of e ∙ sym (six_tell q)

-- six held octets tell by themselves
pub held_tell : (held more : List ℕ) → 6 ≤ length held → size_of held ≡ size_of (held ++ more)
held_tell held more h = six_agree held (held ++ more) (sym (take-append-le 6 held more h))

-- of what follows fewer, only the octets that fill up the six tell
six_behind : (held l : List ℕ) → length held < 6 → take 6 (held ++ l) ≡ held ++ take (6 - length held) l
six_behind held l h =
    let e : length held + (6 - length held) ≡ 6 = omega arith in
    ap (λ (n : ℕ). take n (held ++ l)) (sym e) ∙ take-append-add held l (6 - length held)

take_least : (l : List ℕ) (n m : ℕ) → m ≡ min (length l) n → take n (take m l) ≡ take n l
take_least l n m e = go (dec_lt n (length l))
  where
    go : Dec (n < length l) → take n (take m l) ≡ take n l
    go (yes h) = take-take n m l (omega arith)
    go (no h) = ap (take n) (take_all m l (omega arith))

pub across : (held more : List ℕ) (there : ℕ) → length held < 6 → there ≡ min (length more) (6 - length held)
    → size_of (held ++ take there more) ≡ size_of (held ++ more)
across held more there h e =
    six_agree (held ++ take there more) (held ++ more)
    (six_behind held (take there more) h
    ∙ ap (λ (l : List ℕ). held ++ l) (take_least more (6 - length held) there e)
    ∙ sym (six_behind held more h))

-- octets laid at the start of d, and more laid behind them, are what d then starts with
pub laid_twice : (d a b : List ℕ) → length a + length b ≤ length d
    → take (length a + length b) (laid (laid d 0 a) (length a) b) ≡ a ++ b
unfolding laid
laid_twice d a b h =
    rw (take-append_seam a (drop (0 + length a) d), append_assoc)
    (take-append-add a (b ++ drop (length a + length b) (a ++ drop (0 + length a) d)) (length b)
    ∙ ap (λ (l : List ℕ). a ++ l) (take-append_seam b (drop (length a + length b) (a ++ drop (0 + length a) d))))

-- the octets of two copies: what `held` and the first `there` octets of `more` leave in a head of six
pub head_is : (z h₁ h₂ held more : List ℕ) (there : ℕ) → length z ≡ 6 → length held < 6 → there ≡ min (length more) (6 - length held)
    → h₁ ≡ laid z 0 held → h₂ ≡ laid h₁ (length held) (take there more)
    → take (length held + there) h₂ ≡ held ++ take there more
head_is z h₁ h₂ held more there ez h e e₁ e₂ =
    let l : length (take there more) ≡ there = length-take-le there more (omega arith) in
    rw (e₂, e₁) (ap (λ (n : ℕ). take (length held + n) (laid (laid z 0 held) (length held) (take there more))) (sym l)
    ∙ laid_twice z held (take there more) (omega arith))
