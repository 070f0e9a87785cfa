-- What a stack of blocks keeps while pieces are pooled.
use Rattle.std.proofs.Common.{◌≡◌, ℕ, suc, ◌<◌, Bool, true, false, List, [], ◌∷◌}
use Rattle.isotonic.specs.declared.blocks.Block.{Block}
use Rattle.isotonic.specs.MaxMin.{run}

module _ {V : Type 0} (leq : V → V → Bool) (over : ℕ → ℕ → V) where
  -- wherever the pieces from s on and before e are cut, the back is at most the front
  abbrev pub Solid : ℕ → ℕ → Type 0
  Solid s e = (k : ℕ) → s < k → k < e → leq (over k e) (over s k) ≡ true

  pub record Stands (b : Block V) (hi : ℕ) : Type 0 where
    pub some : b.first < hi
    pub ends : suc b.last ≡ hi
    pub is : b.element ≡ over b.first hi
    pub solid : Solid b.first hi

  -- v lies strictly above the top of the stack
  abbrev pub Above : V → List (Block V) → Type 0
  Above v [] = Unit {0}
  Above v (t ∷ ts) = leq v t.element ≡ false

  -- the blocks of the first hi pieces, the last of them first
  abbrev pub Tower : ℕ → List (Block V) → Type 0
  Tower hi [] = hi ≡ 0
  Tower hi (b ∷ bs) = Stands b hi × Above b.element bs × Tower b.first bs

-- the blocks of the first n of the pieces, the last of them first, whatever stands for a run with no piece
abbrev pub Holds : {V : Type 0} → (V → V → Bool) → (V → V → V) → List V → ℕ → List (Block V) → Type 0
Holds {V = V} leq joined pieces n bs = (d : V) → Tower leq (run joined d pieces) n bs
