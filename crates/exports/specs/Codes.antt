-- What a caller in C gets of U-shaped fits: one number for the steps and the turning gap.
use Rattle.std.specs.Prelude.{ℕ, ◌+◌, ◌*◌, cond, ◌||◌, List, map, length, Ok, Err, Result, ◌==◌, nat_lt}
use Rattle.units.specs.Refusals.{Refused}
use Rattle.sources.specs.Benches.{bench_counts}
use Rattle.sources.specs.Counts.{Counts}
use Rattle.curves.specs.Fits.{fit_result}
use Rattle.curves.specs.declared.fits.Fit.{Fit}
use Rattle.curves.specs.declared.shapes.Shape.TheVariants.{UShaped}
use Rattle.history.specs.Calls.{PlainCall, enter}
use Rattle.history.specs.Runs.{counts_after}

-- 1,024 ages at most
abbrev pub most_ages : ℕ
most_ages = 1024

-- their gaps are one more; a fit is lent as many steps and work places
abbrev pub most_gaps : ℕ
most_gaps = 1025

-- steps + turning gap × 65,536; 0 for a refusal
abbrev pub fit_code : Result Fit Refused → ℕ
fit_code (Ok a) = a.steps + a.turning_gap * 65536
fit_code (Err e) = 0

-- one U-shaped fit of counts
unfoldable pub ushaped_code : Counts → ℕ
ushaped_code c = fit_code (fit_result c UShaped most_gaps most_gaps)

-- so many fits of the same counts, which the caller gave by n ages: 0 for no time, and for too many ages
abbrev pub code_after : ℕ → ℕ → Counts → ℕ
code_after n times c = cond (times == 0 || nat_lt most_ages n) 0 (ushaped_code c)

-- so many fits of the bench run with these failure ages
abbrev pub bench_code : List ℕ → ℕ → ℕ → ℕ → ℕ
bench_code ages units stop times = code_after (length ages) times (bench_counts (record { units = units; ages = ages; stop = stop }))

-- the call that enters a life: watched from age 0 until it failed at the exit age
abbrev pub life_entered : ℕ → PlainCall
life_entered exit = enter (record { serial = 1; entry = 0; exit = exit; status = 0 })

-- so many fits of the study that these lives were entered into, in their order
abbrev pub lives_code : List ℕ → ℕ → ℕ
lives_code exits times = code_after (length exits) times (counts_after most_ages (map life_entered exits))
