-- Elements with the same numbers are the same: an invariant has one proof at most.
use Rattle.std.specs.Prelude.{◌≡◌, ◌≤◌, refl}
use mathlib.Core.HLevel.{is_prop→PathP}
use Rattle.std.proofs.Math.Bridge.{le_prop}
use Rattle.std.proofs.Common.{arith}
use Rattle.pooling.specs.Kinds.{rate_part, rate_whole, rate_bulk, rate_sum, share_part, share_whole, share_bulk, share_sum}
use Rattle.pooling.specs.declared.rates.Rate.{Rate}
use Rattle.pooling.specs.declared.shares.Share.{Share}
use Rattle.pooling.specs.Laws.{Adds}

pub same_rate : (x y : Rate) → rate_part x ≡ rate_part y → rate_whole x ≡ rate_whole y → x ≡ y
same_rate x y p q =
    λ i. record {
      failures = p i;
      exposure = record { 0 = q i };
      exposed = is_prop→PathP (λ j. 1 ≤ q j) (λ j. le_prop {n = 1} {m = q j}) x.exposed y.exposed i;
    }

pub same_share : (x y : Share) → share_part x ≡ share_part y → share_whole x ≡ share_whole y → x ≡ y
same_share x y p q =
    λ i. record {
      successes = p i;
      trials = q i;
      tried = is_prop→PathP (λ j. 1 ≤ q j) (λ j. le_prop {n = 1} {m = q j}) x.tried y.tried i;
      within = is_prop→PathP (λ j. p j ≤ q j) (λ j. le_prop {n = p j} {m = q j}) x.within y.within i;
    }

pub rates_add : Adds rate_part rate_whole rate_bulk rate_sum
rates_add = record {
  some = λ x. x.exposed;
  part_sum = λ x y. refl;
  whole_sum = λ x y. refl;
  bulk_sum = λ x y. omega arith;
  same = same_rate;
}

pub shares_add : Adds share_part share_whole share_bulk share_sum
shares_add = record {
  some = λ x. x.tried;
  part_sum = λ x y. refl;
  whole_sum = λ x y. refl;
  bulk_sum = λ x y. refl;
  same = same_share;
}
