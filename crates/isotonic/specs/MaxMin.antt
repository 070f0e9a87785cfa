-- Rising and falling fits of a list of pieces by the max-min rule, and their blocks.
use Rattle.std.specs.Prelude.{ℕ, zero, suc, ◌+◌, ◌-◌, Bool, cond, ◌&&◌, List, [], ◌∷◌, length, take, drop}
use Rattle.isotonic.specs.declared.blocks.Block.{Block}

-- x, and then the others, pooled in order
abbrev pub pooled_on : {V : Type 0} → (V → V → V) → V → List V → V
pooled_on joined x [] = x
pooled_on joined x (y ∷ ys) = joined x (pooled_on joined y ys)

-- all pooled in order; d where there is none
abbrev pub pooled : {V : Type 0} → (V → V → V) → V → List V → V
pooled joined d [] = d
pooled joined d (x ∷ xs) = pooled_on joined x xs

-- the pieces from a on and before b, pooled
abbrev pub run : {V : Type 0} → (V → V → V) → V → List V → ℕ → ℕ → V
run joined d pieces a b = pooled joined d (take (b - a) (drop a pieces))

module _ {V : Type 0} (leq : V → V → Bool) where
  -- the first of two, unless the second lies strictly below it
  abbrev pub lesser : V → V → V
  lesser x y = cond (leq x y) x y

  -- the first of two, unless the second lies strictly above it
  abbrev pub greater : V → V → V
  greater x y = cond (leq y x) x y

  -- the least of f 0 .. f k
  abbrev pub least : (ℕ → V) → ℕ → V
  least f zero = f 0
  least f (suc k) = lesser (least f k) (f (suc k))

  -- the greatest of f 0 .. f k
  abbrev pub greatest : (ℕ → V) → ℕ → V
  greatest f zero = f 0
  greatest f (suc k) = greater (greatest f k) (f (suc k))

  -- equal in value: each is at most the other
  abbrev pub level : V → V → Bool
  level x y = leq x y && leq y x

-- n pieces, of which those from a on and before b pool to `over a b`; a and i are counted from 0, and b runs over i + 1 + k for k < n - i
module _ {V : Type 0} (leq : V → V → Bool) (over : ℕ → ℕ → V) (n : ℕ) where
  -- the least, over b ≥ i, of the pieces a to b pooled
  abbrev pub least_from : ℕ → ℕ → V
  least_from a i = least leq (λ k. over a (suc (i + k))) (n - suc i)

  -- the rising fit at piece i: the greatest, over a ≤ i, of the least, over b ≥ i, of the pieces a to b pooled
  abbrev pub rising : ℕ → V
  rising i = greatest leq (λ a. least_from a i) i

  -- the two taken the other way round: the least, over b ≥ i, of the greatest, over a ≤ i
  abbrev pub min_max : ℕ → V
  min_max i = least leq (λ k. greatest leq (λ a. over a (suc (i + k))) i) (n - suc i)

  -- the falling fit at piece i: the greatest, over b ≥ i, of the least, over a ≤ i, of the pieces a to b pooled
  abbrev pub falling : ℕ → V
  falling i = greatest leq (λ k. least leq (λ a. over a (suc (i + k))) i) (n - suc i)

-- a block with its element seen by f
abbrev pub on_element : {V W : Type 0} → (V → W) → Block V → Block W
on_element f b = record { first = b.first; last = b.last; element = f b.element }

-- the pieces i to j as a block
abbrev pub block : {V : Type 0} → (ℕ → ℕ → V) → ℕ → ℕ → Block V
block over i j = record { first = i; last = j; element = over i (suc j) }

-- the blocks of pieces with these fitted values: the longest runs of equal values
module _ {V : Type 0} (leq : V → V → Bool) (over : ℕ → ℕ → V) (value : ℕ → V) where
  -- piece i in front of the blocks that follow it: it joins the first of them where its value equals that of the next piece
  abbrev pub in_front : ℕ → List (Block V) → List (Block V)
  in_front i [] = block over i i ∷ []
  in_front i (b ∷ bs) = cond (level leq (value i) (value (suc i))) (block over i b.last ∷ bs) (block over i i ∷ b ∷ bs)

  -- the blocks of the last k of n pieces
  abbrev pub last_blocks : ℕ → ℕ → List (Block V)
  last_blocks n zero = []
  last_blocks n (suc k) = in_front (n - suc k) (last_blocks n k)

-- the blocks of the rising fit
unfoldable pub rising_blocks : {V : Type 0} → (V → V → Bool) → (V → V → V) → List V → List (Block V)
rising_blocks leq joined [] = []
rising_blocks leq joined (x ∷ xs) =
    let over = run joined x (x ∷ xs) in let n = length (x ∷ xs) in last_blocks leq over (rising leq over n) n n

-- the blocks of the falling fit
unfoldable pub falling_blocks : {V : Type 0} → (V → V → Bool) → (V → V → V) → List V → List (Block V)
falling_blocks leq joined [] = []
falling_blocks leq joined (x ∷ xs) =
    let over = run joined x (x ∷ xs) in let n = length (x ∷ xs) in last_blocks leq over (falling leq over n) n n
