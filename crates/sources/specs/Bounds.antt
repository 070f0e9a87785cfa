-- The upper bound on the failure rate at the end of a bench run.
use Rattle.std.specs.Prelude.{ℕ, ◌+◌, ◌-◌, ◌*◌, ◌/◌, ◌≤◌, cond, not, List, [], ◌∷◌, Ok, Err, Result, ◌==◌, nat_lt, slice_index}
use Rattle.units.specs.Hours.{last_tick}
use Rattle.units.specs.Refusals.{Refused, refused}
use Rattle.sources.specs.Ticks.{whole}
use Rattle.sources.specs.Ages.{latest}
use Rattle.sources.specs.Benches.{PlainBench, bench_failed, bench_watched}
use Rattle.sources.specs.declared.bound.Confidence.{Confidence}
use Rattle.sources.specs.declared.bound.Confidence.TheVariants.{Percent95, Percent90}

-- the most failures that a bound has a percentile for
abbrev pub most_bound_failures : ℕ
most_bound_failures = 10

-- the percentiles in thousandths, for 1 to 10 failures
abbrev pub percentiles : Confidence → List ℕ
percentiles Percent95 = 5991 ∷ 9488 ∷ 12592 ∷ 15507 ∷ 18307 ∷ 21026 ∷ 23685 ∷ 26296 ∷ 28869 ∷ 31410 ∷ []
percentiles Percent90 = 4605 ∷ 7779 ∷ 10645 ∷ 13362 ∷ 15987 ∷ 18549 ∷ 21064 ∷ 23542 ∷ 25989 ∷ 28412 ∷ []

abbrev pub percentile : Confidence → ℕ → ℕ
percentile confidence failures = slice_index (percentiles confidence) (failures - 1)

-- 15 where there are over ten failures
abbrev pub percentile_answer : Confidence → ℕ → Result ℕ Refused
percentile_answer confidence failures = cond (nat_lt most_bound_failures failures) (Err (refused 15)) (Ok (percentile confidence failures))

-- a / b, rounded up
abbrev pub rounded_up : ℕ → ℕ → ℕ
rounded_up a b = (a + (b - 1)) / b

-- q is the least whole number not below a / b
pub record LeastNotBelow (a b q : ℕ) : Type 0 where
  pub not_below : a ≤ q * b
  pub least : (p : ℕ) → a ≤ p * b → q ≤ p

-- a bound is per million unit-ticks, and a percentile in thousandths
abbrev pub ticks_of_bound : ℕ
ticks_of_bound = 1000000

abbrev pub parts_of_percentile : ℕ
parts_of_percentile = 1000

-- percentile / (2 x total time on test) as a quotient of whole numbers
abbrev pub bound_numerator : ℕ → ℕ
bound_numerator thousandths = thousandths * ticks_of_bound

abbrev pub bound_denominator : ℕ → ℕ
bound_denominator total = 2 * total * parts_of_percentile

-- The bound, or the first reason that there is none: 12 where there is no failure,
-- 14 where the run was not stopped at its last failure, 15 where there are over ten failures.
abbrev pub bound_by : Confidence → ℕ → ℕ → ℕ → ℕ → Result ℕ Refused
bound_by confidence failures last stop total =
    cond (failures == 0) (Err (refused 12))
    (cond (not (last == stop)) (Err (refused 14))
    (cond (nat_lt most_bound_failures failures) (Err (refused 15))
    (Ok (rounded_up (bound_numerator (percentile confidence failures)) (bound_denominator total)))))

-- the last failure age, or 0
unfoldable pub last_failure : (ℕ → ℕ) → ℕ
last_failure f = latest f last_tick

-- of a bench run, by its counts: a void bench has no failure
abbrev pub bound_answer : Confidence → PlainBench → Result ℕ Refused
bound_answer confidence b = bound_by confidence (whole (bench_failed b)) (last_failure (bench_failed b)) b.stop (whole (bench_watched b))

-- what an answered bound is, in words
abbrev pub BoundMeans : Confidence → PlainBench → ℕ → Type 0
BoundMeans confidence b q = LeastNotBelow (bound_numerator (percentile confidence (whole (bench_failed b)))) (bound_denominator (whole (bench_watched b))) q
