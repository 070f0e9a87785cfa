-- Rates and shares.
use Rattle.std.specs.Prelude.{ℕ, ◌+◌, ◌≤◌, Bool, cond, ◌||◌, Some, None, Option, ◌==◌, nat_lt}
use Rattle.std.proofs.Common.{arith}
use Rattle.pooling.specs.Ratios.{Ratio, ratio_sum, ratio_leq, within_limit}
use Rattle.pooling.specs.declared.rates.Rate.{Rate}
use Rattle.pooling.specs.declared.shares.Share.{Share}

abbrev pub rate_part : Rate → ℕ
rate_part x = x.failures

abbrev pub rate_whole : Rate → ℕ
rate_whole x = x.exposure.0

abbrev pub rate_ratio : Rate → Ratio
rate_ratio x = record { part = rate_part x; whole = rate_whole x }

-- there is a rate of failures over an exposure unless the exposure is 0
abbrev pub rate_made : ℕ → ℕ → Option Ratio
rate_made failures exposure = cond (exposure == 0) None (Some (record { part = failures; whole = exposure }))

abbrev pub rate_leq : Rate → Rate → Bool
rate_leq = ratio_leq rate_part rate_whole

-- the bulk of a rate: failures and exposure
abbrev pub rate_bulk : Rate → ℕ
rate_bulk x = rate_part x + rate_whole x

pub one_of : (a b : ℕ) → 1 ≤ a → 1 ≤ a + b
one_of a b h = omega arith

abbrev pub rate_sum : Rate → Rate → Rate
rate_sum x y = record {
  failures = rate_part x + rate_part y;
  exposure = record { 0 = rate_whole x + rate_whole y };
  exposed = one_of (rate_whole x) (rate_whole y) x.exposed;
}

abbrev pub rate_joined : Rate → Rate → Rate
rate_joined = within_limit rate_bulk rate_sum

abbrev pub share_part : Share → ℕ
share_part x = x.successes

abbrev pub share_whole : Share → ℕ
share_whole x = x.trials

abbrev pub share_ratio : Share → Ratio
share_ratio x = record { part = share_part x; whole = share_whole x }

-- there is a share of successes among trials unless there is no trial or more successes than trials
abbrev pub share_made : ℕ → ℕ → Option Ratio
share_made successes trials = cond (trials == 0 || nat_lt trials successes) None (Some (record { part = successes; whole = trials }))

abbrev pub share_leq : Share → Share → Bool
share_leq = ratio_leq share_part share_whole

-- the bulk of a share: its trials
abbrev pub share_bulk : Share → ℕ
share_bulk x = share_whole x

pub both_within : (a b c d : ℕ) → a ≤ c → b ≤ d → a + b ≤ c + d
both_within a b c d h k = omega arith

abbrev pub share_sum : Share → Share → Share
share_sum x y = record {
  successes = share_part x + share_part y;
  trials = share_whole x + share_whole y;
  tried = one_of (share_whole x) (share_whole y) x.tried;
  within = both_within (share_part x) (share_part y) (share_whole x) (share_whole y) x.within y.within;
}

abbrev pub share_joined : Share → Share → Share
share_joined = within_limit share_bulk share_sum

-- shares as plain numbers: compared by exact ratio, and pooled by adding while the trials stay within the limit
abbrev pub trials_leq : Ratio → Ratio → Bool
trials_leq = ratio_leq (λ x. x.part) (λ x. x.whole)

abbrev pub trials_joined : Ratio → Ratio → Ratio
trials_joined = within_limit (λ x. x.whole) ratio_sum
