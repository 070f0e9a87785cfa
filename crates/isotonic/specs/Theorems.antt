-- What is proved of the fits of every kind.
use Rattle.std.specs.Prelude.{◌≡◌, ℕ, suc, ◌<◌, ◌≤◌, Bool, true, false, List, [], ◌∷◌, ◌++◌, map, reverse, length, take, sum_by}
use Rattle.isotonic.specs.declared.blocks.Block.{Block}
use Rattle.isotonic.specs.Laws.{limit, Commutes}
use Rattle.isotonic.specs.MaxMin.{run, level, rising, min_max, rising_blocks, falling_blocks}
use Rattle.isotonic.specs.Stacks.{mirrored}

-- the order, turned
abbrev pub turned : {V : Type 0} → (V → V → Bool) → V → V → Bool
turned leq x y = leq y x

-- a block of some of n pieces
abbrev pub Inside : {V : Type 0} → ℕ → Block V → Type 0
Inside n b = (b.first ≤ b.last) × (b.last < n)

module _ {V : Type 0} (leq : V → V → Bool) (over : ℕ → ℕ → V) (n : ℕ) where
  -- a block lies strictly below the next one
  abbrev pub BelowNext : Block V → List (Block V) → Type 0
  BelowNext b [] = Unit {0}
  BelowNext b (c ∷ cs) = leq c.element b.element ≡ false

  -- blocks tile the pieces from `lo` to the last: none is empty, none overlaps or leaves a gap, each has its pieces pooled, is equal in value to the rising fit at each of its pieces, and lies strictly below the next
  abbrev pub Tiles : ℕ → List (Block V) → Type 0
  Tiles lo [] = lo ≡ n
  Tiles lo (b ∷ bs) =
      (b.first ≡ lo) × (b.first ≤ b.last) × (b.element ≡ over b.first (suc b.last))
      × ((i : ℕ) → b.first ≤ i → i ≤ b.last → level leq (rising leq over n i) b.element ≡ true)
      × BelowNext b bs × Tiles (suc b.last) bs

module _ {V : Type 0} (leq : V → V → Bool) (joined : V → V → V) (bulk : V → ℕ) where
  -- the max-min and the min-max rule give equal values at each piece
  abbrev pub RulesAgree : Type 0
  RulesAgree =
      (xs : List V) → sum_by bulk xs ≤ limit → (d : V) (i : ℕ) → i < length xs →
      level leq (rising leq (run joined d xs) (length xs) i) (min_max leq (run joined d xs) (length xs) i) ≡ true

  -- the rising blocks tile the pieces
  abbrev pub BlocksTile : Type 0
  BlocksTile =
      (xs : List V) → sum_by bulk xs ≤ limit → 0 < length xs → (d : V) → Tiles leq (run joined d xs) (length xs) 0 (rising_blocks leq joined xs)

  -- the falling fit is the rising fit in the turned order
  abbrev pub FallingTurns : Type 0
  FallingTurns = (xs : List V) → sum_by bulk xs ≤ limit → falling_blocks leq joined xs ≡ rising_blocks (turned leq) joined xs

  -- where pooling commutes, the rising blocks of a list are the falling blocks of the list read backwards, read backwards and counted from the other end
  abbrev pub RisingMirrors : Type 0
  RisingMirrors =
      Commutes joined bulk → (xs : List V) → sum_by bulk xs ≤ limit →
      rising_blocks leq joined xs ≡ reverse (map (mirrored (length xs)) (falling_blocks leq joined (reverse xs)))

  -- the rising blocks of a front of the pieces are those of a shorter front, and one block behind them
  abbrev pub FrontsNest : Type 0
  FrontsNest =
      (xs : List V) → sum_by bulk xs ≤ limit → (i : ℕ) → 0 < i → i ≤ length xs →
      (b : Block V) × (b.first < i) × (rising_blocks leq joined (take i xs) ≡ rising_blocks leq joined (take b.first xs) ++ (b ∷ []))
