-- The gaps between failure ages, and the pieces on either side of a turning gap.
use Rattle.std.specs.Prelude.{ℕ, zero, suc, ◌-◌, ◌≤◌, max, List, [], ◌∷◌, length, slice_index_or}
use Rattle.std.proofs.Common.{arith}
use Rattle.arith.specs.Rivals.{Piece}
use Rattle.pooling.specs.declared.rates.Rate.{Rate}
use Rattle.sources.specs.Ticks.{between}

-- g s, g (s + 1) and so on, m of them
abbrev pub row : {A : Type 0} → (ℕ → A) → ℕ → ℕ → List A
row g s zero = []
row g s (suc m) = g s ∷ row g (suc s) m

-- The age X i, where the counted failure ages X 1 < .. < X k are xs: X 0 is 0, and after X k comes the oldest age.
abbrev pub age : List ℕ → ℕ → ℕ → ℕ
age xs oldest i = slice_index_or (0 ∷ xs) i oldest

-- Of n units watched and f failures at each tick:
module _ (n f : ℕ → ℕ) (xs : List ℕ) (oldest : ℕ) where
  -- the exposure T i of gap i, which runs from X (i - 1) to X i; gap k + 1 runs to the oldest age
  abbrev pub gap_exposure : ℕ → ℕ
  gap_exposure zero = 0
  gap_exposure (suc i) = between n (age xs oldest i) (age xs oldest (suc i))

  -- on the left, the failures at X i with the gap that ends there: (d i, T i)
  abbrev pub left_piece : ℕ → Piece
  left_piece i = record { failures = f (age xs oldest i); exposure = gap_exposure i }

  -- on the right, the failures at X i with the gap that begins there: (d i, T (i + 1))
  abbrev pub right_piece : ℕ → Piece
  right_piece i = record { failures = f (age xs oldest i); exposure = gap_exposure (suc i) }

  -- the left pieces of turning gap j: those of X i for i < j
  abbrev pub left_pieces : ℕ → List Piece
  left_pieces j = row left_piece 1 (j - 1)

  -- the right pieces of turning gap j: those of X i for i ≥ j
  abbrev pub right_pieces : ℕ → List Piece
  right_pieces j = row right_piece j (suc (length xs) - j)

  -- the trough is the turning gap itself: its exposure, and no failures
  abbrev pub trough_piece : ℕ → Piece
  trough_piece j = record { failures = 0; exposure = gap_exposure j }

pub one_or_more : (t : ℕ) → 1 ≤ max 1 t
one_or_more t = omega arith

-- A piece as a rate, which has an exposure of at least 1. No piece of lawful counts has an exposure of 0, so it does not matter that it would be read as 1.
abbrev pub rate_of : Piece → Rate
rate_of p = record { failures = p.failures; exposure = record { 0 = max 1 p.exposure }; exposed = one_or_more p.exposure }
