-- What bench runs mean: their data, and their counts.
use Rattle.std.specs.Prelude.{ℕ, ◌+◌, ◌-◌, cond, ◌&&◌, List, [], ◌∷◌, map, Ok, Err, Result, ◌==◌, nat_le, nat_lt}
use Rattle.units.specs.Hours.{age_ticks}
use Rattle.units.specs.Refusals.{Refused, refused}
use Rattle.sources.specs.Counts.{Counts}
pub use Rattle.sources.specs.BenchRules.{PlainBench, most_units, in_order, sizes_valid}
unfoldable pub use Rattle.sources.specs.BenchRules.{valid}
use Rattle.sources.specs.declared.run.BenchRun.{BenchRun}

abbrev pub plain_bench : BenchRun → PlainBench
plain_bench b = record { units = b.units; ages = map age_ticks b.ages.now; stop = b.stop.0 }

-- 11 where the data break the rules
abbrev pub check_answer : PlainBench → Result (Unit {0}) Refused
check_answer b = cond (valid b) (Ok tt) (Err (refused 11))

-- how many of the ages are t
abbrev pub number_at : List ℕ → ℕ → ℕ
number_at [] t = 0
number_at (x ∷ xs) t = number_at xs t + cond (x == t) 1 0

-- how many of the ages are before t
abbrev pub number_before : List ℕ → ℕ → ℕ
number_before [] t = 0
number_before (x ∷ xs) t = number_before xs t + cond (nat_lt x t) 1 0

-- the units less the failures before t, for t from 1 to the stop age; nothing was watched in a void bench
unfoldable pub bench_watched : PlainBench → ℕ → ℕ
bench_watched b t = cond (valid b && (nat_le 1 t && nat_le t b.stop)) (b.units - number_before b.ages t) 0

-- the failures at t; a void bench has none
unfoldable pub bench_failed : PlainBench → ℕ → ℕ
bench_failed b t = cond (valid b) (number_at b.ages t) 0

-- what a bench run means as a source
abbrev pub bench_counts : PlainBench → Counts
bench_counts b = record { watched = bench_watched b; failed = bench_failed b }
