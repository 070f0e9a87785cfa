-- The release sheet: a row of plain numbers for each release, and what a note does.
use Rattle.std.specs.Prelude.{ℕ, ◌+◌, ◌-◌, cond, ltb, ◌||◌, List, map, replicate, Some, None, Option, ◌==◌, nat_lt, slice_index_or, slice_set}
use Rattle.units.specs.Refusals.{Refused, refused}
use Rattle.pooling.specs.Ratios.{Ratio}
use Rattle.pooling.specs.Pooling.{unless_refused}
use Rattle.releases.specs.Limits.{row_count, most_trials}
use Rattle.releases.specs.declared.rows.Row.{Row}
use Rattle.releases.specs.declared.sheets.ReleaseSheet.{ReleaseSheet}

-- a row as successes over trials
abbrev pub row_ratio : Row → Ratio
row_ratio x = record { part = x.successes; whole = x.trials }

abbrev pub sheet_rows : ReleaseSheet → List Ratio
sheet_rows sheet = map row_ratio sheet.rows

abbrev pub no_trials : Ratio
no_trials = record { part = 0; whole = 0 }

abbrev pub empty_rows : List Ratio
empty_rows = replicate row_count no_trials

-- the row of a release
abbrev pub row_of : List Ratio → ℕ → Ratio
row_of rows release = slice_index_or rows (release - 1) no_trials

abbrev pub row_noted : Ratio → ℕ → ℕ → Ratio
row_noted row successes trials = record { part = row.part + successes; whole = row.whole + trials }

-- the share of a row with trials
abbrev pub row_share : Ratio → Option Ratio
row_share row = cond (ltb 0 row.whole) (Some row) None

-- 16 where the successes pass the trials, or the row would pass its most trials
abbrev pub row_refusal : Ratio → ℕ → ℕ → Option Refused
row_refusal row successes trials = cond (nat_lt trials successes || nat_lt most_trials (row.whole + trials)) (Some (refused 16)) None

-- or where there is no such row
abbrev pub note_refusal : List Ratio → ℕ → ℕ → ℕ → Option Refused
note_refusal rows release successes trials =
    cond (release == 0 || nat_lt row_count release) (Some (refused 16)) (row_refusal (row_of rows release) successes trials)

-- a note changes the row of its release and no other; refused, it changes none
abbrev pub noted_rows : List Ratio → ℕ → ℕ → ℕ → List Ratio
noted_rows rows release successes trials =
    unless_refused (note_refusal rows release successes trials) rows (slice_set rows (release - 1) (row_noted (row_of rows release) successes trials))
