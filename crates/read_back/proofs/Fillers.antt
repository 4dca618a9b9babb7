-- The filler packets: each is whole by its own header and idle; and which of them a call begins.
-- Assumes nothing.
use mathlib.Core.Path.{◌≡◌, refl, ◌∙◌, sym, ap}
use mathlib.Core.Bool.{Bool, true, false}
use mathlib.Core.List.{List, [], ◌∷◌, ◌++◌}
use Prim.Native.Nat.{ℕ, ◌≤◌}
use native.Mathlib.Omega.{arith}
use lib.Dec.{eqb, leb}
use lib.ListN.{length, length-append, length-replicate}
use borrow.Author.Tests.{leb-true}
use Rattle.octets.specs.Numbers.{octets_of}
use Rattle.octets.specs.Pick.{pick}
use Rattle.octets.proofs.Runs.{length_octets}
use Rattle.packet.specs.Family.{Whole, AllWhole}
use Rattle.packet.specs.Size.{version_of, total_of, idle_of, source}
use Rattle.packet.proofs.Laws.{size_in_words, in_octets}
use Rattle.packet.specs.declared.source.Size.TheVariants.{Total}
use Rattle.writing.specs.Laying.{idle_packet, short_idle}
use Rattle.read_back.specs.Demand2.{filler_for}

-- packets that are all idle
abbrev pub AllIdle : List (List ℕ) → Type 0
AllIdle [] = Unit {0}
AllIdle (p ∷ ps) = (idle_of p ≡ true) × AllIdle ps

pub idle_append : (a b : List (List ℕ)) → AllIdle a → AllIdle b → AllIdle (a ++ b)
idle_append [] b i j = j
idle_append (p ∷ a) b i j = (i.0, idle_append a b i.1 j)

pub whole_append : (a b : List (List ℕ)) → AllWhole source a → AllWhole source b → AllWhole source (a ++ b)
whole_append [] b v w = w
whole_append (p ∷ a) b v w = (v.0, whole_append a b v.1 w)

-- an idle packet of n octets
pub length_idle : (n : ℕ) → 7 ≤ n → length (idle_packet n) ≡ n
unfolding idle_packet
length_idle n h = simp (length-append, length_octets, length-replicate) (omega arith)

idle_version : (n : ℕ) → version_of (idle_packet n) ≡ 0
unfolding idle_packet
idle_version n = (in_octets (idle_packet n)).version (omega arith)

idle_total : (n : ℕ) → 7 ≤ n → n ≤ 2042 → total_of (idle_packet n) ≡ n
unfolding idle_packet octets_of
idle_total n h i = (in_octets (idle_packet n)).total (omega arith) (omega arith) ∙ omega arith

pub idle_whole : (n : ℕ) → 7 ≤ n → n ≤ 2042 → Whole source (idle_packet n)
idle_whole n h i =
    let l = length_idle n h in
    (size_in_words (idle_packet n)).six (omega arith) (idle_version n) ∙ ap Total (idle_total n h i ∙ sym l)

pub idle_idle : (n : ℕ) → idle_of (idle_packet n) ≡ true
unfolding idle_packet
idle_idle n = (in_octets (idle_packet n)).idle

pub short_whole : Whole source short_idle
short_whole = (size_in_words short_idle).six (omega arith) ((in_octets short_idle).version (omega arith)) ∙ ap Total ((in_octets short_idle).total (omega arith) (omega arith))

pub short_idle_lem : idle_of short_idle ≡ true
short_idle_lem = (in_octets short_idle).idle

-- the filler that a call begins
pub filler_whole : (placed room : ℕ) → room ≤ 2042 → AllWhole source (filler_for placed room)
unfolding filler_for
filler_whole placed room h = go (eqb placed 0) (eqb room 0) (leb 7 room) refl
  where
    go : (a b c : Bool) → leb 7 room ≡ c → AllWhole source (pick a [] (pick b [] (pick c (idle_packet room ∷ []) (short_idle ∷ []))))
    go true b c e = tt
    go false true c e = tt
    go false false true e = (idle_whole room (leb-true 7 room e) h, tt)
    go false false false e = (short_whole, tt)

pub filler_idle : (placed room : ℕ) → AllIdle (filler_for placed room)
unfolding filler_for
filler_idle placed room = go (eqb placed 0) (eqb room 0) (leb 7 room)
  where
    go : (a b c : Bool) → AllIdle (pick a [] (pick b [] (pick c (idle_packet room ∷ []) (short_idle ∷ []))))
    go true b c = tt
    go false true c = tt
    go false false true = (idle_idle room, tt)
    go false false false = (short_idle_lem, tt)
