-- The sizes of a release sheet.
use Rattle.std.specs.Prelude.{ℕ}

-- releases are numbered from 1 to this
abbrev pub row_count : ℕ
row_count = 64

-- the most trials of a row
abbrev pub most_trials : ℕ
most_trials = 1000000
