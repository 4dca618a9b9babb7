-- What is counted, channel by channel.
use Rattle.std.specs.Prelude.{ℕ, ◌+◌, min, eqb, ltb, get_or, replicate, set, Result, Ok, Err}
use Rattle.octets.specs.Pick.{pick}
use Rattle.reading.specs.declared.Refusal.{Refusal}
use Rattle.reading.specs.declared.Report.{Report}
use Rattle.desk.specs.declared.counting.Sums.{Sums}
use Rattle.desk.specs.declared.counting.Totals.{Totals}

-- the largest count
abbrev pub most : ℕ
most = 18446744073709551615

abbrev pub gap_count : ℕ → ℕ
gap_count g = pick (eqb g 0) 0 1

-- the sums of a channel after one more accepted frame
unfoldable pub counted_of : Sums → Report → Sums
counted_of s r =
    record {
      frames = min (s.frames + 1) most;
      gaps = min (s.gaps + gap_count r.gap) most;
      missing = min (s.missing + r.gap) most;
      delivered = min (s.delivered + r.delivered) most;
      idle = min (s.idle + r.idle) most;
      broken = min (s.broken + r.broken) most;
      disagreement = min (s.disagreement + r.disagreement) most;
      foreign = min (s.foreign + r.foreign) most;
      oversize = min (s.oversize + r.oversize) most;
    }

abbrev pub no_sums : Sums
no_sums =
    record { frames = 0; gaps = 0; missing = 0; delivered = 0; idle = 0; broken = 0; disagreement = 0; foreign = 0; oversize = 0 }

unfoldable pub no_totals : Totals
no_totals = record { channels = replicate 8 no_sums; frames = 0; refused = 0 }

-- an accepted frame counts on its own channel alone
unfoldable pub totals_with : Totals → Report → Totals
totals_with t r =
    let v : ℕ = r.header.channel in
    record {
      channels = pick (ltb v 8) (set t.channels v (counted_of (get_or t.channels v no_sums) r)) t.channels;
      frames = min (t.frames + 1) most;
      refused = t.refused;
    }

-- a refused one on none
unfoldable pub totals_refused : Totals → Totals
totals_refused t = record { channels = t.channels; frames = min (t.frames + 1) most; refused = min (t.refused + 1) most }

unfoldable pub totals_after : Totals → Result Report Refusal → Totals
totals_after t (Err r) = totals_refused t
totals_after t (Ok r) = totals_with t r
