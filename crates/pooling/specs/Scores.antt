-- Scores of rates, shares and blocks.
use Rattle.std.specs.Prelude.{ℕ, ◌+◌, ◌-◌, ◌*◌, ◌^◌, List, [], ◌∷◌, ℤ, pos, ◌+ℤ◌, neg_ℤ, ◌≤ℤ◌}
use Rattle.arith.specs.Log.{squarings}
use Rattle.arith.specs.Scores.{log_term}
use Rattle.isotonic.specs.declared.blocks.Block.{Block}
use Rattle.pooling.specs.Ratios.{Ratio}
use Rattle.pooling.specs.Kinds.{rate_part, rate_whole, share_ratio}
use Rattle.pooling.specs.declared.rates.Rate.{Rate}
use Rattle.pooling.specs.declared.shares.Share.{Share}

-- no logarithm of a number of 32 bits reaches this
abbrev pub unit_bound : ℕ
unit_bound = 2 ^ (squarings + 5)

-- from -k to k
abbrev pub Within : ℕ → ℤ → Type 0
Within k z = (neg_ℤ (pos k) ≤ℤ z) × (z ≤ℤ pos k)

-- a score stays within the unit bound for each unit of bulk
abbrev pub Modest : {V : Type 0} → (V → ℕ) → (V → ℤ) → Type 0
Modest {V = V} bulk score = (x : V) → Within (unit_bound * bulk x) (score x)

-- a rate's score: d (S(d) - S(T))
abbrev pub rate_score : Rate → ℤ
rate_score x = log_term squarings (rate_part x) (rate_whole x)

-- the score of s successes in q trials: s (S(s) - S(q)) + (q - s) (S(q - s) - S(q))
abbrev pub trials_score : Ratio → ℤ
trials_score x = log_term squarings x.part x.whole +ℤ log_term squarings (x.whole - x.part) x.whole

abbrev pub share_score : Share → ℤ
share_score x = trials_score (share_ratio x)

-- the scores of blocks, added up
abbrev pub blocks_score : {V : Type 0} → (V → ℤ) → List (Block V) → ℤ
blocks_score score [] = pos 0
blocks_score score (b ∷ bs) = score b.element +ℤ blocks_score score bs
