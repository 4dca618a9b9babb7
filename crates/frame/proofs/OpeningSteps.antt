-- The table of refusals walked in the order of the code: what each test decides.
-- Assumes nothing.
use Rattle.std.proofs.Common.{◌≡◌, ℕ, ◌+◌, ◌<◌, ◌≤◌, Bool, true, false, List, [], ◌∷◌, length, arith, le-ltb, lt-ltb, eq-eqb, ne_eqb, Ok, Err}
use Rattle.octets.specs.Pick.{pick}
use Rattle.frame.specs.declared.header.Header.{Header}
use Rattle.frame.specs.declared.opening.Refusal.TheVariants.{SetUpRange, FrameLength, FrameCheck, FrameVersion, OtherSpacecraft, SecondaryHeader, NoData, OrderOrSegment, PointerPlace}
use Rattle.frame.specs.declared.set_up.SetUp.{SetUp}
use Rattle.frame.specs.Header.{header_of}
use Rattle.frame.specs.Inside.{open_from}
use Rattle.frame.specs.Opening.{row1, row5, row6, row7, row8, row9, row10, row11, row12, secondary_size, data_size, data_place, word_of, frame_of, frame_table, open_table, open_of}
use Rattle.frame.specs.SetUp.{fits_of}
use Rattle.table.specs.Table.{row, first_cause}

-- row 1
pub outside : (u : SetUp) (f : List ℕ) → fits_of u ≡ false → Err SetUpRange ≡ open_of u f
unfolding open_of open_table first_cause row1
outside u f a = rw a

-- rows 5 and 6, of a set-up that fits
module _ (u : SetUp) (f : List ℕ) (a : fits_of u ≡ true) where
  pub wrong_length : (length f ≡ u.length → ⊥) → Err FrameLength ≡ open_of u f
  unfolding open_of open_table frame_table first_cause row1 row5
  wrong_length b = rw (a, ne_eqb (length f) u.length b)

  pub failed_check : length f ≡ u.length → row6 u f ≡ true → Err FrameCheck ≡ open_of u f
  unfolding open_of open_table frame_table first_cause row1 row5
  failed_check b c = rw (a, eq-eqb (length f) u.length b, c)

  pub checked : length f ≡ u.length → row6 u f ≡ false → open_from 3 u f ≡ open_of u f
  unfolding open_of open_from open_table frame_table first_cause row1 row5
  checked b c = rw (a, eq-eqb (length f) u.length b, c)

-- rows 7 to 9
pub wrong_version : (u : SetUp) (f : List ℕ) → row7 f ≡ true → Err FrameVersion ≡ open_from 3 u f
unfolding open_from open_table frame_table first_cause
wrong_version u f a = rw a

module _ (u : SetUp) (f : List ℕ) (h : Header) (e : h ≡ header_of f) (a : row7 f ≡ false) where
  pub wrong_spacecraft : (h.spacecraft ≡ u.spacecraft → ⊥) → Err OtherSpacecraft ≡ open_from 3 u f
  unfolding open_from open_table frame_table first_cause row8
  wrong_spacecraft b = rw (a, ← e, ne_eqb h.spacecraft u.spacecraft b)

  pub wrong_secondary : h.spacecraft ≡ u.spacecraft → row9 h f ≡ true → Err SecondaryHeader ≡ open_from 3 u f
  unfolding open_from open_table frame_table first_cause row8
  wrong_secondary b c = rw (a, ← e, eq-eqb h.spacecraft u.spacecraft b, c)

  pub right_header : h.spacecraft ≡ u.spacecraft → row9 h f ≡ false → open_from 6 u f ≡ open_from 3 u f
  unfolding open_from open_table frame_table first_cause row8
  right_header b c = rw (a, ← e, eq-eqb h.spacecraft u.spacecraft b, c)

-- rows 10 to 12
module _ (u : SetUp) (f : List ℕ) (h : Header) (s D : ℕ) (e : h ≡ header_of f) (es : s ≡ secondary_size h f) (e_d : D ≡ data_size u s h.flagged) where
  from_six : open_from 6 u f ≡ first_cause (row NoData (row10 D) ∷ row OrderOrSegment (row11 h) ∷ row PointerPlace (row12 h D) ∷ [])
      Err (Ok (record { header = h; word = word_of h f (data_place s + D); place = data_place s; size = D }))
  unfolding open_from open_table frame_table frame_of
  from_six = rw (e_d, es, e)

  pub no_data : D < 1 → Err NoData ≡ open_from 6 u f
  unfolding first_cause row10
  no_data a = rw (from_six, lt-ltb D 1 a)

  module _ (a : 1 ≤ D) where
    pub wrong_order : row11 h ≡ true → Err OrderOrSegment ≡ open_from 6 u f
    unfolding first_cause row10
    wrong_order b = rw (from_six, le-ltb D 1 a, b)

    pub wrong_pointer : row11 h ≡ false → row12 h D ≡ true → Err PointerPlace ≡ open_from 6 u f
    unfolding first_cause row10
    wrong_pointer b c = rw (from_six, le-ltb D 1 a, b, c)

    pub right_frame : row11 h ≡ false → row12 h D ≡ false → (w : ℕ) → w ≡ word_of h f (data_place s + D)
        → Ok (record { header = h; word = w; place = data_place s; size = D }) ≡ open_from 6 u f
    unfolding first_cause row10
    right_frame b c w ew = rw (from_six, le-ltb D 1 a, b, c, ew)

-- a data field of at least one octet, with all that stands beside it, fills the frame
pub filled : (u : SetUp) (s D : ℕ) (flagged : Bool) → D ≡ data_size u s flagged → 1 ≤ D
    → data_place s + D + pick flagged 4 0 + pick u.error_control 2 0 ≡ u.length
unfolding data_size
filled u s D flagged e a = omega arith
