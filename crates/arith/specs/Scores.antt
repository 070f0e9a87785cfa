-- The score of a fit: the scaled logarithm of its product, by the logarithm in whole numbers, and how well it tells products apart.
use Rattle.std.specs.Prelude.{◌≡◌, ℕ, ◌-◌, ◌^◌, ◌<◌, List, [], ◌∷◌, ℤ, pos, ◌+ℤ◌, ◌-ℤ◌, ◌*ℤ◌, ◌≤ℤ◌}
use Rattle.std.specs.List.{AllByRecursion}
use Rattle.arith.specs.Fractions.{AtMostTimes}
use Rattle.arith.specs.Log.{scaled_log2}
use Rattle.arith.specs.Rivals.{Piece, pooled, fit_product}

-- The score of (d / t) ^ d with K squarings: d (S(d) - S(t)), which is 0 where d is 0.
abbrev pub log_term : ℕ → ℕ → ℕ → ℤ
log_term K d t = pos d *ℤ (pos (scaled_log2 K d) -ℤ pos (scaled_log2 K t))

-- The score of a fit, the sum over its blocks.
abbrev pub score : ℕ → List Piece → ℤ
score K [] = pos 0
score K (b ∷ bs) = log_term K b.failures b.exposure +ℤ score K bs

-- A block whose numbers have 32 bits, with some exposure.
abbrev pub Scorable : Piece → Type 0
Scorable b = (b.failures < 2 ^ 32) × (0 < b.exposure) × (b.exposure < 2 ^ 32)

-- The power at which scores tell products apart.
abbrev pub telling_power : ℕ → ℕ
telling_power K = 2 ^ (K - 2)

-- Of two fits with the same failures, one whose score is no greater has no larger product,
-- up to a factor of 2 for each failure at the telling power.
abbrev pub ScoresTellProducts : ℕ → Type 0
ScoresTellProducts K =
    (best other : List Piece)
    → AllByRecursion Scorable best
    → AllByRecursion Scorable other
    → (pooled best).failures ≡ (pooled other).failures
    → score K other ≤ℤ score K best
    → AtMostTimes (2 ^ (pooled best).failures) (telling_power K) (fit_product other) (fit_product best)
