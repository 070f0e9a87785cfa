-- The number of blocks in the rising fit of rates, as plain numbers.
use Rattle.std.specs.Prelude.{ℕ, ◌+◌, Bool, true, cond, not, ◌&&◌, ◌||◌, List, [], ◌∷◌, length, Ok, Err, sum_by, Result, ◌==◌, nat_lt}
use Rattle.units.specs.Refusals.{Refused}
use Rattle.isotonic.specs.declared.blocks.Block.{Block}
use Rattle.isotonic.specs.MaxMin.{rising_blocks}
use Rattle.pooling.specs.Ratios.{Ratio, ratio_leq, ratio_sum, within_limit}
use Rattle.pooling.specs.Kinds.{rate_leq, rate_joined, rate_bulk}
use Rattle.pooling.specs.Pooling.{answered, list_refusal, pool_answer}
use Rattle.pooling.specs.declared.rates.Rate.{Rate}
use Rattle.exports.specs.declared.PlainRate.{PlainRate}

-- a rate as the caller lays it out: failures over exposure
abbrev pub plain_ratio : PlainRate → Ratio
plain_ratio x = record { part = x.failures; whole = x.exposure }

-- rates compare by their exact ratio
abbrev pub plain_leq : Ratio → Ratio → Bool
plain_leq = ratio_leq (λ x. x.part) (λ x. x.whole)

-- the bulk of a rate: failures and exposure
abbrev pub plain_bulk : Ratio → ℕ
plain_bulk x = x.part + x.whole

-- rates pool by adding while their bulks stay within the limit
abbrev pub plain_joined : Ratio → Ratio → Ratio
plain_joined = within_limit plain_bulk ratio_sum

-- the blocks of the rising fit of rates
abbrev pub plain_blocks : List Ratio → List (Block Ratio)
plain_blocks rates = rising_blocks plain_leq plain_joined rates

-- each rate has an exposure above 0
abbrev pub all_exposed : List Ratio → Bool
all_exposed [] = true
all_exposed (x ∷ xs) = nat_lt 0 x.whole && all_exposed xs

-- a list has 1,024 rates at most, and the fit has room for as many blocks
abbrev pub most_rates : ℕ
most_rates = 1024

-- the number in an answer; 0 for a refusal
abbrev pub or_zero : Result ℕ Refused → ℕ
or_zero (Ok n) = n
or_zero (Err e) = 0

-- what one fit of rates counts with room for so many blocks
abbrev pub rates_count : List Rate → ℕ → ℕ
rates_count rates room = or_zero (pool_answer rate_leq rate_joined rate_bulk most_rates rates room)

-- the number of blocks of one fit; 0 where the list is refused
abbrev pub fit_count : List Ratio → ℕ
fit_count rates = or_zero (answered (list_refusal most_rates (length rates) most_rates (sum_by plain_bulk rates)) (length (plain_blocks rates)))

-- the number of blocks after so many fits of the same rates; 0 after none, and where a rate has no exposure
abbrev pub blocks_counted : List Ratio → ℕ → ℕ
blocks_counted rates times = cond (times == 0 || not (all_exposed rates)) 0 (fit_count rates)
