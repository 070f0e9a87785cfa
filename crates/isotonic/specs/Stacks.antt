-- A stack of blocks, as a list with the top first.
use Rattle.std.specs.Prelude.{ℕ, suc, ◌-◌, Bool, cond, List, [], ◌∷◌, ◌++◌, reverse, length, take, drop, Some, None, Option}
use Rattle.isotonic.specs.declared.blocks.Block.{Block}

-- two neighbouring blocks as one
abbrev pub merged : {V : Type 0} → (V → V → V) → Block V → Block V → Block V
merged joined x y = record { first = x.first; last = y.last; element = joined x.element y.element }

-- a piece as a block of its own
abbrev pub lone : {V : Type 0} → ℕ → V → Block V
lone i v = record { first = i; last = i; element = v }

module _ {V : Type 0} (leq : V → V → Bool) (joined : V → V → V) where
  -- a block put on the stack, merged with the blocks at the top that it does not rise above
  unfoldable pub pushed : List (Block V) → Block V → List (Block V)
  pushed [] b = b ∷ []
  pushed (t ∷ ts) b = cond (leq b.element t.element) (pushed ts (merged joined t b)) (b ∷ t ∷ ts)

  -- the pieces from number i on, put on the stack in order
  unfoldable pub stacked_on : List (Block V) → ℕ → List V → List (Block V)
  stacked_on bs i [] = bs
  stacked_on bs i (x ∷ xs) = stacked_on (pushed bs (lone i x)) (suc i) xs

  abbrev pub stacked : List V → List (Block V)
  stacked xs = stacked_on [] 0 xs

-- the stack that the first places of a memory hold
abbrev pub stack_in : {X : Type 0} → List X → ℕ → List X
stack_in memory height = reverse (take height memory)

-- the top of a stack, if there is one
abbrev pub top_of : {X : Type 0} → List X → Option X
top_of [] = None
top_of (x ∷ xs) = Some x

-- a memory with a stack in its first places, the bottom first; the rest stays
abbrev pub laid_in : {X : Type 0} → List X → List X → List X
laid_in stack memory = reverse stack ++ drop (length stack) memory

-- a block counted from the other end of n pieces
abbrev pub mirrored : {V : Type 0} → ℕ → Block V → Block V
mirrored n b = record { first = n - suc b.last; last = n - suc b.first; element = b.element }
