-- What is proved of the ages, the pieces and the steps of lawful counts.
use Rattle.std.specs.Prelude.{◌≡◌, ℕ, suc, ◌*◌, ◌<◌, ◌≤◌, true, List, [], ◌∷◌, map, length, take, drop, ℤ, ◌≤ℤ◌, ◌<ℤ◌}
use Rattle.std.specs.List.{AllByRecursion}
use Rattle.arith.specs.Rivals.{Piece, Chain}
use Rattle.arith.specs.Sums.{total}
use Rattle.isotonic.specs.declared.blocks.Block.{Block}
use Rattle.isotonic.specs.MaxMin.{run, level, rising, falling}
use Rattle.pooling.specs.Kinds.{rate_part, rate_whole, rate_leq, rate_joined}
use Rattle.pooling.specs.declared.rates.Rate.{Rate}
use Rattle.sources.specs.Ages.{oldest, ages}
use Rattle.sources.specs.Counts.{Counts, Lawful}
use Rattle.sources.specs.Gaps.{gaps}
use Rattle.sources.specs.Ticks.{upto}
use Rattle.sources.specs.declared.gaps.Gap.{Gap}
use Rattle.curves.specs.Pieces.{gap_exposure, left_pieces, right_pieces, rate_of}
use Rattle.curves.specs.Curves.{Step, best_gap, counted_ages, left_of, right_of, left_blocks_of, right_blocks_of, steps_of}
use Rattle.curves.specs.Rivals.{Allowed}
use Rattle.curves.specs.declared.shapes.Shape.{Shape}

-- ages above lo and up to hi, each above the one before and with failures
abbrev pub Listed : (ℕ → ℕ) → ℕ → ℕ → List ℕ → Type 0
Listed f lo hi [] = lo ≤ hi
Listed f lo hi (x ∷ xs) = (lo < x) × (x ≤ hi) × (0 < f x) × Listed f x hi xs

-- the listed ages rise and have failures, and no other age has any
abbrev pub AgesStand : Type 0
AgesStand = (f : ℕ → ℕ) (t : ℕ) → Listed f 0 t (ages f t) × (total f (ages f t) ≡ upto f t)

-- a gap of the table as a piece: the failures at its end, and its exposure
abbrev pub gap_piece : Gap → Piece
gap_piece g = record { failures = g.failures; exposure = g.exposure.0 }

-- the failures of each piece with the exposure of the next, and of the last with that of the last gap
abbrev pub moved : List Piece → ℕ → List Piece
moved [] last = []
moved (p ∷ []) last = record { failures = p.failures; exposure = last } ∷ []
moved (p ∷ q ∷ ps) last = record { failures = p.failures; exposure = q.exposure } ∷ moved (q ∷ ps) last

-- The left pieces of turning gap k + 1 are the table of gaps, and the right pieces of turning gap 1 are these moved by one gap.
-- Those of turning gap m + 1 are the first m of the former, and all but the first m of the latter.
abbrev pub GapsAgree : (ℕ → ℕ) → (ℕ → ℕ) → ℕ → ℕ → Type 0
GapsAgree n f t oldest =
    (left_pieces n f (ages f t) oldest (suc (length (ages f t))) ≡ map gap_piece (gaps n f t))
    × (right_pieces n f (ages f t) oldest 1 ≡ moved (map gap_piece (gaps n f t)) (gap_exposure n f (ages f t) oldest (suc (length (ages f t)))))
    × ((m : ℕ) → m ≤ length (ages f t) → left_pieces n f (ages f t) oldest (suc m) ≡ take m (left_pieces n f (ages f t) oldest (suc (length (ages f t)))))
    × ((m : ℕ) → m ≤ length (ages f t) → right_pieces n f (ages f t) oldest (suc m) ≡ drop m (right_pieces n f (ages f t) oldest 1))

-- of k + 1 gaps with these scores, the best is one that none exceeds, and all before it have smaller scores
abbrev pub GapIsBest : Type 0
GapIsBest =
    (s : ℕ → ℤ) (k : ℕ) → (1 ≤ best_gap s k) × (best_gap s k ≤ suc k)
    × ((j : ℕ) → 1 ≤ j → j ≤ suc k → s j ≤ℤ s (best_gap s k)) × ((j : ℕ) → 1 ≤ j → j < best_gap s k → s j <ℤ s (best_gap s k))

-- a piece has failures and exposure
abbrev pub WholePiece : Piece → Type 0
WholePiece p = (0 < p.failures) × (0 < p.exposure)

-- steps from the age lo to the age hi, each from where the one before ends
abbrev pub Joins : ℕ → List Step → ℕ → Type 0
Joins lo [] hi = lo ≡ hi
Joins lo (s ∷ ss) hi = (s.from ≡ lo) × Joins s.to ss hi

-- the first rate is strictly above the second
abbrev pub Above : Block Rate → Block Rate → Type 0
Above b c = rate_part c.element * rate_whole b.element < rate_part b.element * rate_whole c.element

-- a block has, at each of its pieces, the value that is given there
abbrev pub HasValues : (ℕ → Rate) → Block Rate → Type 0
HasValues value b = (i : ℕ) → b.first ≤ i → i ≤ b.last → level rate_leq (value i) b.element ≡ true

-- Of lawful counts, a shape and a turning gap that the shape allows:
module _ (c : Counts) (shape : Shape) (j : ℕ) where
  abbrev pub WhereAllowed : Type 0 → Type 0
  WhereAllowed A = Lawful c.watched c.failed → Allowed shape (length (counted_ages c shape)) j → A

  -- each piece has failures and exposure, so that its rate is over an exposure of at least 1
  abbrev pub PiecesStand : Type 0
  PiecesStand = WhereAllowed (AllByRecursion WholePiece (left_of c shape j) × AllByRecursion WholePiece (right_of c shape j))

  -- the steps go from 0 to the oldest age, end to end
  abbrev pub StepsJoin : Type 0
  StepsJoin = WhereAllowed (Joins 0 (steps_of c shape j) (oldest c.watched))

  -- from step to step the rate falls strictly on the left, and rises strictly on the right
  abbrev pub StepsTurn : Type 0
  StepsTurn =
      WhereAllowed (Chain Above (left_blocks_of c shape j) × Chain (λ a b. Above b a) (right_blocks_of c shape j))

  -- pieces a to b pooled
  abbrev pub pooled_left : Rate → ℕ → ℕ → Rate
  pooled_left d = run rate_joined d (map rate_of (left_of c shape j))

  abbrev pub pooled_right : Rate → ℕ → ℕ → Rate
  pooled_right d = run rate_joined d (map rate_of (right_of c shape j))

  -- Each step but the trough has, at each of its pieces i, the max-min value of pooled ratios: on the left the greatest, over b ≥ i, of the least, over a ≤ i,
  -- of pieces a to b pooled; on the right the greatest, over a ≤ i, of the least, over b ≥ i. (d stands for a run of no pieces, which does not occur.)
  abbrev pub ValuesStand : Type 0
  ValuesStand =
      WhereAllowed ((d : Rate)
      → AllByRecursion (HasValues (falling rate_leq (pooled_left d) (length (left_of c shape j)))) (left_blocks_of c shape j)
      × AllByRecursion (HasValues (rising rate_leq (pooled_right d) (length (right_of c shape j)))) (right_blocks_of c shape j))
