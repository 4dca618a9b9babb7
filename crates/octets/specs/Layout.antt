-- A layout of bits (01, "Layouts": "Bits count from the most significant, 0 first."): items one behind the other, each with its name and its
-- width. Reading and writing are both made from the one list of items; that each is the other's inverse is stated at the end, once for every
-- layout, and proved in proofs/Layouts.antt under these names in lower case.
use Rattle.std.specs.Prelude.{Bool, true, false, not, ◌&&◌, List, [], ◌∷◌, ◌++◌, ◌≡◌, ℕ, ◌+◌, ◌*◌, ◌/◌, ◌%◌, ◌^◌, ◌≤◌, eqb, length, take, drop}
use Rattle.octets.specs.Numbers.{bits_at, octets_of}
use Rattle.octets.specs.Octets.{Octets}
use Rattle.octets.specs.Pick.{pick}

-- an item: its name, and how many bits it has
pub record Item (Name : Type 0) : Type 0 where
  pub name : Name
  pub width : ℕ

abbrev pub item : {Name : Type 0} → Name → ℕ → Item Name
item n w = record { name = n; width = w }

-- a layout: its items in order, most significant first, and a number for each name, which tells it from the others
pub record Layout (Name : Type 0) : Type 0 where
  pub items : List (Item Name)
  pub told : Name → ℕ

-- how many bits the items have together
unfoldable pub bits_together : {Name : Type 0} → List (Item Name) → ℕ
bits_together [] = 0
bits_together (p ∷ ps) = p.width + bits_together ps

-- and how many octets the layout has
unfoldable pub octets_in : {Name : Type 0} → Layout Name → ℕ
octets_in L = bits_together L.items / 8

-- the width of an item, and the bits before it
unfoldable pub width_among : {Name : Type 0} → (Name → ℕ) → List (Item Name) → Name → ℕ
width_among told [] n = 0
width_among told (p ∷ ps) n = pick (eqb (told p.name) (told n)) p.width (width_among told ps n)

unfoldable pub first_among : {Name : Type 0} → (Name → ℕ) → List (Item Name) → Name → ℕ
first_among told [] n = 0
first_among told (p ∷ ps) n = pick (eqb (told p.name) (told n)) 0 (p.width + first_among told ps n)

-- the number in `width` bits from bit `first` of the octets from place at, taken from the octets that hold these bits and from no other
unfoldable pub bits_from : List ℕ → ℕ → ℕ → ℕ → ℕ
bits_from l at first width = bits_at l (at + first / 8) ((first % 8 + width + 7) / 8) (first % 8) width

-- reading: the value of an item, in the octets from place at
unfoldable pub value_in : {Name : Type 0} → Layout Name → List ℕ → ℕ → Name → ℕ
value_in L l at n = bits_from l at (first_among L.told L.items n) (width_among L.told L.items n)

-- the items with these values, one behind the other, behind the number n; a value gives its low bits, as many as its item has
unfoldable pub numbered : {Name : Type 0} → ℕ → List (Item Name) → (Name → ℕ) → ℕ
numbered n [] value = n
numbered n (p ∷ ps) value = numbered (n * 2 ^ p.width + value p.name % 2 ^ p.width) ps value

-- writing: the octets of the items with these values
unfoldable pub laid_out : {Name : Type 0} → Layout Name → (Name → ℕ) → List ℕ
laid_out L value = octets_of (octets_in L) (numbered 0 L.items value)

-- a layout has the name; no two of its items have one name; its items fill its octets
unfoldable pub has : {Name : Type 0} → (Name → ℕ) → List (Item Name) → Name → Bool
has told [] n = false
has told (p ∷ ps) n = pick (eqb (told p.name) (told n)) true (has told ps n)

unfoldable pub apart : {Name : Type 0} → (Name → ℕ) → List (Item Name) → Bool
apart told [] = true
apart told (p ∷ ps) = not (has told ps p.name) && apart told ps

abbrev pub FillsOctets : {Name : Type 0} → Layout Name → Type 0
FillsOctets L = bits_together L.items ≡ 8 * octets_in L

-- the number of a name is that of no other name
abbrev pub TellsApart : {Name : Type 0} → Layout Name → Type 0
TellsApart {Name} L = (n m : Name) → L.told n ≡ L.told m → n ≡ m

-- what the laws below ask of a layout: it has n octets, which its items fill; each name has an item, and one alone; names are told apart
pub record LaidIn {Name : Type 0} (L : Layout Name) (n : ℕ) : Type 0 where
  pub octets : octets_in L ≡ n
  pub filled : FillsOctets L
  pub every : (m : Name) → has L.told L.items m ≡ true
  pub once : apart L.told L.items ≡ true
  pub named : TellsApart L

-- of octets, an item taken from those that hold it is that item of the number that all n of them make
abbrev pub ItemOfWhole : Type 0
ItemOfWhole = (l : List ℕ) (at n first width : ℕ) → Octets l → first + width ≤ 8 * n
    → bits_from l at first width ≡ bits_at l at n first width

-- what is written is read back: an item has the low bits of the value that it was given, so the value itself if that fits
abbrev pub ReadsBackLaw : {Name : Type 0} → Layout Name → Type 0
ReadsBackLaw {Name} L = FillsOctets L → TellsApart L → (value : Name → ℕ) (before behind : List ℕ) (n : Name) → has L.told L.items n ≡ true
    → value_in L (before ++ laid_out L value ++ behind) (length before) n ≡ value n % 2 ^ width_among L.told L.items n

-- what is read is written back: the octets of a layout, from any place in a list of octets, read item by item, are laid out as they were
abbrev pub WritesBackLaw : {Name : Type 0} → Layout Name → Type 0
WritesBackLaw L = FillsOctets L → apart L.told L.items ≡ true → (l : List ℕ) (at : ℕ) → Octets l → at + octets_in L ≤ length l
    → laid_out L (value_in L l at) ≡ take (octets_in L) (drop at l)
