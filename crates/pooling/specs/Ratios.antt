-- Ratios compared exactly, and pooled by adding while their bulks stay within the limit.
use Rattle.std.specs.Prelude.{ℕ, ◌+◌, ◌*◌, Bool, cond, nat_le}
use Rattle.isotonic.specs.Laws.{limit}

-- a ratio as two plain numbers
pub record Ratio : Type 0 where
  pub part : ℕ
  pub whole : ℕ

-- what memory for elements is filled with: 0 over 1
abbrev pub none_of_one : Ratio
none_of_one = record { part = 0; whole = 1 }

-- pooling adds both numbers
abbrev pub ratio_sum : Ratio → Ratio → Ratio
ratio_sum x y = record { part = x.part + y.part; whole = x.whole + y.whole }

-- x over its whole is at most y over its whole, by cross products
abbrev pub ratio_leq : {V : Type 0} → (V → ℕ) → (V → ℕ) → V → V → Bool
ratio_leq part whole x y = nat_le (part x * whole y) (part y * whole x)

-- the sum, or the first where the bulks pass the limit
abbrev pub within_limit : {V : Type 0} → (V → ℕ) → (V → V → V) → V → V → V
within_limit bulk sum x y = cond (nat_le (bulk x + bulk y) limit) (sum x y) x
