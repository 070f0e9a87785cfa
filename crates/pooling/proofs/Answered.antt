-- What an answer says of the refusal that was due.
use Rattle.std.proofs.Common.{◌≡◌, ℕ, Bool, List, length, take, Some, None, Ok, Err, Option, sym, refl, ap, ◌∙◌, arith}
use Rattle.std.proofs.lemmas.List.{take_at}
use Rattle.units.specs.Refusals.{Refused}
use Rattle.isotonic.specs.declared.blocks.Block.{Block}
use Rattle.isotonic.specs.MaxMin.{rising_blocks}
use Rattle.pooling.specs.Pooling.{answered, unless_refused, fitted_memory, pool_refusal, pool_answer, pool_memory}

-- an accepted call had no refusal due
pub accepted : {X : Type 0} (q : Option Refused) (x y : X) → Ok y ≡ answered q x → (q ≡ None) × (y ≡ x)
accepted None x y e = (refl, cc)
accepted (Some r) x y e = let z : ◌≡◌ {A = ℕ} 0 1 = cc in absurd (omega arith)

-- a refused call had that refusal due
pub refused_by : {X : Type 0} (q : Option Refused) (x : X) (r : Refused) → Err r ≡ answered q x → q ≡ Some r
refused_by None x r e = let z : ◌≡◌ {A = ℕ} 0 1 = cc in absurd (omega arith)
refused_by (Some s) x r e = cc

-- an accepted pooling call wrote the blocks of the rising fit
module _ {V : Type 0} (leq : V → V → Bool) (joined : V → V → V) (bulk : V → ℕ) (most : ℕ) (pieces : List V) where
  pub pooled_blocks : (before after : List (Block V)) (count : ℕ) → Ok count ≡ pool_answer leq joined bulk most pieces (length before) → after ≡ pool_memory leq joined bulk most pieces before after → take count after ≡ rising_blocks leq joined pieces
  pooled_blocks before after count answer memory =
      let made = accepted (pool_refusal leq joined bulk most pieces (length before)) (length (rising_blocks leq joined pieces)) count answer in
      let fitted = fitted_memory (rising_blocks leq joined pieces) (length pieces) before after in
      ap (take count) (memory ∙ ap (λ q. unless_refused q before fitted) made.0)
      ∙ take_at (rising_blocks leq joined pieces) _ count (sym made.1)
