-- Shares as plain numbers.
use Rattle.std.proofs.Common.{◌≡◌, ◌+◌, Bool, true, false, cond, leb, List, [], ◌∷◌, map, ℤ, ◌+ℤ◌, refl, ap}
use Rattle.isotonic.specs.declared.blocks.Block.{Block}
use Rattle.isotonic.specs.Laws.{limit}
use Rattle.isotonic.specs.MaxMin.{on_element, rising_blocks}
use Rattle.isotonic.proofs.Maps.{rising_blocks_map}
use Rattle.pooling.specs.Kinds.{share_ratio, share_leq, share_joined, share_bulk, share_sum, trials_leq, trials_joined}
use Rattle.pooling.specs.Scores.{trials_score, share_score, blocks_score}
use Rattle.pooling.specs.declared.shares.Share.{Share}

joined_plain : (x y : Share) → share_ratio (share_joined x y) ≡ trials_joined (share_ratio x) (share_ratio y)
joined_plain x y = go (leb (share_bulk x + share_bulk y) limit)
  where
    go : (t : Bool) → share_ratio (cond t (share_sum x y) x) ≡ cond t (share_ratio (share_sum x y)) (share_ratio x)
    go true = refl
    go false = refl

-- the blocks of shares, as plain numbers
pub blocks_plain : (xs : List Share) → map (on_element share_ratio) (rising_blocks share_leq share_joined xs) ≡ rising_blocks trials_leq trials_joined (map share_ratio xs)
blocks_plain = rising_blocks_map share_ratio trials_leq trials_joined (λ x y. refl) joined_plain

-- and their scores
pub score_plain : (bs : List (Block Share)) → blocks_score trials_score (map (on_element share_ratio) bs) ≡ blocks_score share_score bs
score_plain [] = refl
score_plain (b ∷ bs) = ap (λ (z : ℤ). share_score b.element +ℤ z) (score_plain bs)
