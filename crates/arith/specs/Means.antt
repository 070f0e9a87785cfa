-- The inequality of the weighted geometric and arithmetic mean, in whole numbers.
use Rattle.std.specs.Prelude.{ℕ, ◌*◌, ◌^◌, ◌≤◌, List}
use Rattle.arith.specs.Sums.{total, product}

-- A value that counts as often as its weight says.
pub record Weighted : Type 0 where
  pub value : ℕ
  pub weight : ℕ

-- With W the sum of the weights, the product of value ^ weight is at most (sum of value * weight / W) ^ W.
-- Said with no division; the empty power 0 ^ 0 is 1.
abbrev pub WeightedMean : Type 0
WeightedMean =
    (xs : List Weighted)
    → total (λ x. x.weight) xs ^ total (λ x. x.weight) xs * product (λ x. x.value ^ x.weight) xs
    ≤ total (λ x. x.value * x.weight) xs ^ total (λ x. x.weight) xs
