-- Layouts of bits: an item read from the octets that hold it is that item of the whole number; what is laid out is read back, and what is
-- read is laid out again.
-- Assumes nothing.
use mathlib.Core.Path.{◌≡◌, refl, ◌∙◌, sym, ap, ap₂}
use mathlib.Core.Bool.{Bool, true, false, not, ◌&&◌}
use mathlib.Core.List.{List, [], ◌∷◌, ◌++◌, append-nil}
use Prim.Native.Nat.{ℕ, zero, suc, ◌+◌, ◌-◌, ◌*◌, ◌/◌, ◌%◌, ◌^◌, ◌≤◌, ◌<◌}
use native.Mathlib.Nat.{add_assoc, mul_assoc, pow-suc, mod-lt, mod-mod, mod-eq_of_lt, mul-add-div_right, mul-add-mod_self_right}
use native.Mathlib.Omega.{arith}
use borrow.Author.Tests.{eqb-true, eq-eqb}
use lib.Arith.{digits_lt}
use lib.Dec.{eqb}
use lib.ListN.{length}
use lib.Pow.{pow_pos, pow-add, shr-shr, high, mod-pow-add}
use Rattle.octets.specs.Layout.{Item, Layout, bits_together, octets_in, width_among, first_among, bits_from, value_in, numbered, laid_out, has, apart, FillsOctets, ItemOfWhole, ReadsBackLaw, WritesBackLaw}
use Rattle.octets.specs.Numbers.{number_at, bits_at, octets_of}
use Rattle.octets.specs.Octets.{Octets}
use Rattle.octets.specs.Pick.{pick}
use Rattle.octets.proofs.Runs.{length_octets, number_back, octets_lt, number_lt, number_append, number_between, octets_at}

-- so many bits hold a number of so many bits
bits_lt : (l : List ℕ) (at n first width : ℕ) → bits_at l at n first width < 2 ^ width
unfolding bits_at
bits_lt l at n first width = mod-lt (number_at l at n / 2 ^ (8 * n - (first + width))) (pow_pos width)

pow_octets : (n : ℕ) → 256 ^ n ≡ 2 ^ (8 * n)
pow_octets zero = refl
pow_octets (suc n) = pow-suc 256 n ∙ ap (λ (k : ℕ). k * 256) (pow_octets n) ∙ sym (pow-add 2 (8 * n) 8) ∙ ap (λ (k : ℕ). 2 ^ k) (omega arith)

-- bits above an item do not change it, nor do bits below it
above_out : (a b r w e : ℕ) → (a * 2 ^ (r + (w + e)) + b) / 2 ^ e % 2 ^ w ≡ b / 2 ^ e % 2 ^ w
above_out a b r w e =
    let h : a * 2 ^ (r + (w + e)) ≡ a * 2 ^ r * 2 ^ w * 2 ^ e = rw (pow-add 2 r (w + e), pow-add 2 w e) (simp mul_assoc) in
    rw h
    (ap (λ (k : ℕ). k % 2 ^ w) (mul-add-div_right (pow_pos e) (a * 2 ^ r * 2 ^ w) b)
    ∙ mul-add-mod_self_right (a * 2 ^ r) (2 ^ w) (b / 2 ^ e))

cut_out : (a b c r w e k : ℕ) → c < 2 ^ k → ((a * 2 ^ (r + (w + e)) + b) * 2 ^ k + c) / 2 ^ (k + e) % 2 ^ w ≡ b / 2 ^ e % 2 ^ w
cut_out a b c r w e k h =
    let n = a * 2 ^ (r + (w + e)) + b in
    ap (λ (x : ℕ). x % 2 ^ w) (sym (shr-shr (n * 2 ^ k + c) k e) ∙ ap (λ (x : ℕ). x / 2 ^ e) (high n k h))
    ∙ above_out a b r w e

-- the number in q + m + k octets
number_three : (l : List ℕ) (at q m k : ℕ)
    → number_at l at (q + (m + k)) ≡ (number_at l at q * 2 ^ (8 * m) + number_at l (at + q) m) * 2 ^ (8 * k) + number_at l (at + (q + m)) k
number_three l at q m k =
    ap (number_at l at) (sym (add_assoc q m k))
    ∙ number_append l at (q + m) k
    ∙ ap (λ (x : ℕ). x * 256 ^ k + number_at l (at + (q + m)) k) (number_append l at q m)
    ∙ ap₂ (λ (x y : ℕ). (number_at l at q * x + number_at l (at + q) m) * y + number_at l (at + (q + m)) k) (pow_octets m) (pow_octets k)

-- of octets, an item taken from those that hold it is an item of the whole number
pub item_of_whole : ItemOfWhole
unfolding bits_from bits_at
item_of_whole l at n first width o h =
    let q : ℕ = first / 8 in
    let r : ℕ = first % 8 in
    let m : ℕ = (r + width + 7) / 8 in
    let k : ℕ = n - (q + m) in
    let e : ℕ = 8 * m - (r + width) in
    let en : n ≡ q + (m + k) = omega arith in
    let ee : 8 * n - (first + width) ≡ 8 * k + e = omega arith in
    let em : 8 * m ≡ r + (width + e) = omega arith in
    let lt : number_at l (at + (q + m)) k < 2 ^ (8 * k) = rw (pow_octets k) at (number_lt l (at + (q + m)) k o) in
    sym (ap₂ (λ (x y : ℕ). x / 2 ^ y % 2 ^ width)
    (ap (number_at l at) en ∙ number_three l at q m k ∙ ap (λ (x : ℕ). (number_at l at q * 2 ^ x + number_at l (at + q) m) * 2 ^ (8 * k) + number_at l (at + (q + m)) k) em)
    ee
    ∙ cut_out (number_at l at q) (number_at l (at + q) m) (number_at l (at + (q + m)) k) r width e (8 * k) lt)

-- an item of octets that stand between others
bits_between : (p l s : List ℕ) (first width : ℕ) → first + width ≤ 8 * length l → bits_from (p ++ l ++ s) (length p) first width ≡ bits_from l 0 first width
unfolding bits_from bits_at
bits_between p l s first width h =
    let m : ℕ = (first % 8 + width + 7) / 8 in
    let inside : first / 8 + m ≤ length l = omega arith in
    ap (λ (n : ℕ). n / 2 ^ (8 * m - (first % 8 + width)) % 2 ^ width)
    (number_between p l s (first / 8) m inside ∙ ap (λ (k : ℕ). number_at l k m) (omega arith))

-- the items numbered behind n, and how much they hold
numbered_behind : {Name : Type 0} (n : ℕ) (ps : List (Item Name)) (value : Name → ℕ)
    → numbered n ps value ≡ n * 2 ^ bits_together ps + numbered 0 ps value
unfolding numbered bits_together
numbered_behind n [] value = omega arith
numbered_behind n (p ∷ ps) value =
    let w = p.width in
    let x : ℕ = value p.name % 2 ^ w in
    let e : n * 2 ^ (w + bits_together ps) ≡ n * 2 ^ w * 2 ^ bits_together ps = rw (pow-add 2 w (bits_together ps)) (sym (mul_assoc n (2 ^ w) (2 ^ bits_together ps))) in
    numbered_behind (n * 2 ^ w + x) ps value
    ∙ omega (arith, numbered_behind (0 * 2 ^ w + x) ps value)

-- by its first item and the others
numbered_first : {Name : Type 0} (p : Item Name) (ps : List (Item Name)) (value : Name → ℕ)
    → numbered 0 (p ∷ ps) value ≡ value p.name % 2 ^ p.width * 2 ^ bits_together ps + numbered 0 ps value
unfolding numbered
numbered_first p ps value = numbered_behind (0 * 2 ^ p.width + value p.name % 2 ^ p.width) ps value ∙ omega arith

pub numbered_lt : {Name : Type 0} (ps : List (Item Name)) (value : Name → ℕ) → numbered 0 ps value < 2 ^ bits_together ps
unfolding bits_together
numbered_lt [] value = unfold numbered in omega arith
numbered_lt (p ∷ ps) value =
    rw (numbered_first p ps value, pow-add 2 p.width (bits_together ps))
    (digits_lt (mod-lt (value p.name) (pow_pos p.width)) (numbered_lt ps value))

-- an item lies within the bits of its list
inside_step : {Name : Type 0} (told : Name → ℕ) (p : Item Name) (ps : List (Item Name)) (n : Name) (b : Bool) → eqb (told p.name) (told n) ≡ b
    → (has told ps n ≡ true → first_among told ps n + width_among told ps n ≤ bits_together ps) → has told (p ∷ ps) n ≡ true
    → first_among told (p ∷ ps) n + width_among told (p ∷ ps) n ≤ bits_together (p ∷ ps)
unfolding has first_among width_among bits_together
inside_step told p ps n true e ih h = rw e (omega arith)
inside_step told p ps n false e ih h = rw e (omega (arith, ih (rw e at h)))

pub part_inside : {Name : Type 0} (told : Name → ℕ) (ps : List (Item Name)) (n : Name) → has told ps n ≡ true
    → first_among told ps n + width_among told ps n ≤ bits_together ps
unfolding first_among width_among bits_together
part_inside told [] n h = omega arith
part_inside told (p ∷ ps) n h = inside_step told p ps n (eqb (told p.name) (told n)) refl (part_inside told ps n) h

-- the item n of the number v
abbrev part_of : {Name : Type 0} → (Name → ℕ) → List (Item Name) → ℕ → Name → ℕ
part_of told ps v n = v / 2 ^ (bits_together ps - (first_among told ps n + width_among told ps n)) % 2 ^ width_among told ps n

-- of the first item, and of any other
part_first : {Name : Type 0} (told : Name → ℕ) (p : Item Name) (ps : List (Item Name)) (n : Name) (v : ℕ) → eqb (told p.name) (told n) ≡ true
    → part_of told (p ∷ ps) v n ≡ v / 2 ^ bits_together ps % 2 ^ p.width
unfolding first_among width_among bits_together
part_first told p ps n v e = rw e (ap (λ (k : ℕ). v / 2 ^ k % 2 ^ p.width) (omega arith))

part_other : {Name : Type 0} (told : Name → ℕ) (p : Item Name) (ps : List (Item Name)) (n : Name) (v : ℕ) → eqb (told p.name) (told n) ≡ false
    → part_of told (p ∷ ps) v n ≡ part_of told ps v n
unfolding first_among width_among bits_together
part_other told p ps n v e = rw e (ap (λ (k : ℕ). v / 2 ^ k % 2 ^ width_among told ps n) (omega arith))

-- numbers that differ above the items only
part_low : {Name : Type 0} (told : Name → ℕ) (ps : List (Item Name)) (n : Name) (x v : ℕ) → has told ps n ≡ true
    → part_of told ps (x * 2 ^ bits_together ps + v) n ≡ part_of told ps v n
part_low told ps n x v h =
    let f = first_among told ps n in
    let w = width_among told ps n in
    let e : ℕ = bits_together ps - (f + w) in
    let eb : bits_together ps ≡ f + (w + e) = omega (arith, part_inside told ps n h) in
    ap (λ (k : ℕ). (x * 2 ^ k + v) / 2 ^ e % 2 ^ w) eb ∙ above_out x v f w e

-- an item of what was numbered is its value
width_first : {Name : Type 0} (told : Name → ℕ) (p : Item Name) (ps : List (Item Name)) (n : Name) → eqb (told p.name) (told n) ≡ true
    → width_among told (p ∷ ps) n ≡ p.width
unfolding width_among
width_first told p ps n e = rw e

width_other : {Name : Type 0} (told : Name → ℕ) (p : Item Name) (ps : List (Item Name)) (n : Name) → eqb (told p.name) (told n) ≡ false
    → width_among told (p ∷ ps) n ≡ width_among told ps n
unfolding width_among
width_other told p ps n e = rw e

back_step : {Name : Type 0} (told : Name → ℕ) (p : Item Name) (ps : List (Item Name)) (value : Name → ℕ) (n : Name) (b : Bool)
    → ((m : Name) → told m ≡ told n → m ≡ n) → eqb (told p.name) (told n) ≡ b
    → (has told ps n ≡ true → part_of told ps (numbered 0 ps value) n ≡ value n % 2 ^ width_among told ps n) → has told (p ∷ ps) n ≡ true
    → part_of told (p ∷ ps) (numbered 0 (p ∷ ps) value) n ≡ value n % 2 ^ width_among told (p ∷ ps) n
back_step told p ps value n true one e ih h =
    let w = p.width in
    let x : ℕ = value p.name % 2 ^ w in
    part_first told p ps n (numbered 0 (p ∷ ps) value) e
    ∙ ap (λ (k : ℕ). k / 2 ^ bits_together ps % 2 ^ w) (numbered_first p ps value)
    ∙ ap (λ (k : ℕ). k % 2 ^ w) (high x (bits_together ps) (numbered_lt ps value))
    ∙ mod-mod (value p.name) (2 ^ w)
    ∙ ap₂ (λ (k j : ℕ). k % 2 ^ j) (ap value (one p.name (eqb-true _ _ e))) (sym (width_first told p ps n e))
back_step told p ps value n false one e ih h =
    let there : has told ps n ≡ true = unfold has in (rw e at h) in
    part_other told p ps n (numbered 0 (p ∷ ps) value) e
    ∙ ap (λ (k : ℕ). part_of told ps k n) (numbered_first p ps value)
    ∙ part_low told ps n (value p.name % 2 ^ p.width) (numbered 0 ps value) there
    ∙ ih there
    ∙ ap (λ (k : ℕ). value n % 2 ^ k) (sym (width_other told p ps n e))

part_back : {Name : Type 0} (told : Name → ℕ) (ps : List (Item Name)) (value : Name → ℕ) (n : Name) → ((m : Name) → told m ≡ told n → m ≡ n)
    → has told ps n ≡ true → part_of told ps (numbered 0 ps value) n ≡ value n % 2 ^ width_among told ps n
part_back told [] value n one h = unfold has in cc
part_back told (p ∷ ps) value n one h = back_step told p ps value n (eqb (told p.name) (told n)) one refl (part_back told ps value n one) h

-- what is laid out: octets, as many as the layout has
pub laid_out_octets : {Name : Type 0} (L : Layout Name) (value : Name → ℕ) → Octets (laid_out L value)
unfolding laid_out
laid_out_octets L value = octets_lt (octets_in L) (numbered 0 L.items value)

pub laid_out_length : {Name : Type 0} (L : Layout Name) (value : Name → ℕ) → length (laid_out L value) ≡ octets_in L
unfolding laid_out
laid_out_length L value = length_octets (octets_in L) (numbered 0 L.items value)

-- a value has as many bits as its item
pub value_lt : {Name : Type 0} (L : Layout Name) (l : List ℕ) (at : ℕ) (n : Name) → value_in L l at n < 2 ^ width_among L.told L.items n
unfolding value_in bits_from
value_lt L l at n =
    let f = first_among L.told L.items n in
    let w = width_among L.told L.items n in
    bits_lt l (at + f / 8) ((f % 8 + w + 7) / 8) (f % 8) w

-- of octets, it is an item of the number that the layout's octets make
value_part : {Name : Type 0} (L : Layout Name) (l : List ℕ) (at : ℕ) (n : Name) → FillsOctets L → Octets l → has L.told L.items n ≡ true
    → value_in L l at n ≡ part_of L.told L.items (number_at l at (octets_in L)) n
unfolding value_in
value_part L l at n fill o h =
    let f = first_among L.told L.items n in
    let w = width_among L.told L.items n in
    item_of_whole l at (octets_in L) f w o (omega (arith, part_inside L.told L.items n h))
    ∙ unfold bits_at in ap (λ (k : ℕ). number_at l at (octets_in L) / 2 ^ (k - (f + w)) % 2 ^ w) (sym fill)

-- the number of what is laid out
laid_out_number : {Name : Type 0} (L : Layout Name) (value : Name → ℕ) → FillsOctets L
    → number_at (laid_out L value) 0 (octets_in L) ≡ numbered 0 L.items value
unfolding laid_out
laid_out_number L value fill =
    let N = octets_in L in
    let v = numbered 0 L.items value in
    let lt : v < 256 ^ N = rw (pow_octets N, ← fill) (numbered_lt L.items value) in
    ap (λ (l : List ℕ). number_at l 0 N) (sym (append-nil (octets_of N v))) ∙ number_back [] [] 0 N v refl lt

pub reads_back : {Name : Type 0} (L : Layout Name) → ReadsBackLaw L
reads_back L fill one value before behind n h =
    let l = laid_out L value in
    let f = first_among L.told L.items n in
    let w = width_among L.told L.items n in
    let i = part_inside L.told L.items n h in
    let e : value_in L (before ++ l ++ behind) (length before) n ≡ value_in L l 0 n =
    unfold value_in in bits_between before l behind f w (omega (arith, laid_out_length L value)) in
    e
    ∙ value_part L l 0 n fill (laid_out_octets L value) h
    ∙ ap (λ (k : ℕ). part_of L.told L.items k n) (laid_out_number L value fill)
    ∙ part_back L.told L.items value n (λ m. one m n) h

-- names with one number: the list has both or none
has_same : {Name : Type 0} (told : Name → ℕ) (ps : List (Item Name)) (n m : Name) → told n ≡ told m → has told ps n ≡ has told ps m
unfolding has
has_same told [] n m e = refl
has_same told (p ∷ ps) n m e = ap₂ (λ (k : ℕ) (b : Bool). pick (eqb (told p.name) k) true b) e (has_same told ps n m e)

-- an item of the others is not the first item
apart_both : (a b : Bool) → not a && b ≡ true → (a ≡ false) × (b ≡ true)
apart_both true b e = (cc, cc)
apart_both false b e = (refl, e)

other_told : {Name : Type 0} (told : Name → ℕ) (p : Item Name) (ps : List (Item Name)) (n : Name) (b : Bool) → eqb (told p.name) (told n) ≡ b
    → has told ps p.name ≡ false → has told ps n ≡ true → b ≡ false
other_told told p ps n true e absent h = sym h ∙ sym (has_same told ps p.name n (eqb-true _ _ e)) ∙ absent
other_told told p ps n false e absent h = refl

-- numbered again from the items of v, they make v
numbered_parts : {Name : Type 0} (told : Name → ℕ) (ps : List (Item Name)) (value : Name → ℕ) (v : ℕ) → apart told ps ≡ true
    → ((n : Name) → has told ps n ≡ true → value n ≡ part_of told ps v n) → numbered 0 ps value ≡ v % 2 ^ bits_together ps
unfolding apart bits_together has
numbered_parts {Name} told [] value v a h = unfold numbered in omega arith
numbered_parts {Name} told (p ∷ ps) value v a h =
    let w = p.width in
    let t = apart_both (has told ps p.name) (apart told ps) a in
    let same : eqb (told p.name) (told p.name) ≡ true = eq-eqb (told p.name) (told p.name) refl in
    let x : value p.name % 2 ^ w ≡ v / 2 ^ bits_together ps % 2 ^ w =
    ap (λ (k : ℕ). k % 2 ^ w) (h p.name (rw same) ∙ part_first told p ps p.name v same) ∙ mod-mod (v / 2 ^ bits_together ps) (2 ^ w) in
    let rest : (n : Name) → has told ps n ≡ true → value n ≡ part_of told ps v n =
    λ n g. let differs = other_told told p ps n (eqb (told p.name) (told n)) refl t.0 g in h n (rw differs g) ∙ part_other told p ps n v differs in
    numbered_first p ps value
    ∙ ap₂ (λ (j k : ℕ). j * 2 ^ bits_together ps + k) x (numbered_parts told ps value v t.1 rest)
    ∙ sym (mod-pow-add v w (bits_together ps))

pub writes_back : {Name : Type 0} (L : Layout Name) → WritesBackLaw L
unfolding laid_out
writes_back L fill a l at o h =
    let N = octets_in L in
    let v = number_at l at N in
    let lt : v < 2 ^ bits_together L.items = rw (fill, ← pow_octets N) (number_lt l at N o) in
    ap (octets_of N) (numbered_parts L.told L.items (value_in L l at) v a (λ n k. value_part L l at n fill o k) ∙ mod-eq_of_lt lt)
    ∙ octets_at N l at o h
