-- What is printed of a block before its element.
use Rattle.std.specs.Prelude.{ℕ, List, [], ◌∷◌, ◌++◌}
use Rattle.std.specs.Fmt.{decimal}
use Rattle.isotonic.specs.declared.blocks.Block.{Block}

-- its first and its last piece, with a space after each
abbrev pub block_place : {K : Type 0} → Block K → List ℕ
block_place b = decimal b.first ++ (32 ∷ decimal b.last ++ (32 ∷ []))
