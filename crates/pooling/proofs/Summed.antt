-- The scores of blocks, added up in 64 bits.
use Rattle.std.proofs.Common.{◌≡◌, ℕ, ◌+◌, ◌*◌, ◌<◌, ◌≤◌, List, length, get_or, take, ℤ, ◌+ℤ◌, sum_by, sym, ap, ◌∙◌, subst, arith, w64, SFits, to_z, of_z}
use Rattle.std.proofs.lemmas.Int.{ints}
use Rattle.std.proofs.lemmas.List.Sums.{sum_by-take-le, get_or-le-sum_by}
use Rattle.isotonic.specs.declared.blocks.Block.{Block}
use Rattle.isotonic.specs.Laws.{limit}
use Rattle.pooling.specs.Scores.{unit_bound, Within, Modest, blocks_score}
use Rattle.pooling.specs.Terms.{score_more, score_within}

-- no score of a list reaches this
abbrev pub score_bound : ℕ
score_bound = unit_bound * limit

sum_fits : (a z : ℤ) → Within score_bound a → Within score_bound z → SFits w64 (a +ℤ to_z w64 (of_z w64 z))
sum_fits a z (h, k) (p, q) = omega (arith, ints)

sum_kept : (a z : ℤ) → Within score_bound a → Within score_bound z → to_z w64 (of_z w64 (a +ℤ to_z w64 (of_z w64 z))) ≡ a +ℤ z
sum_kept a z (h, k) (p, q) = omega (arith, ints)

pub wider : (m n : ℕ) (z : ℤ) → m ≤ n → Within (unit_bound * m) z → Within (unit_bound * n) z
wider m n z l (h, k) = (omega (arith, ints), omega (arith, ints))

module _ {V : Type 0} (bulk : V → ℕ) (score : V → ℤ) (modest : Modest bulk score) (bs : List (Block V)) (light : sum_by (λ b. bulk b.element) bs ≤ limit) where
  -- the scores of all blocks stay within the bound
  pub all_within : Within score_bound (blocks_score score bs)
  all_within = wider (sum_by (λ b. bulk b.element) bs) limit _ light (score_within score bulk modest bs)

  module _ (i : ℕ) (b : Block V) (within : i < length bs) (read : b ≡ get_or bs i b) where
    abbrev weight : Block V → ℕ
    weight b = bulk b.element

    so_far : Within score_bound (blocks_score score (take i bs))
    so_far = wider (sum_by weight (take i bs)) limit _ (omega (arith, sum_by-take-le weight bs i)) (score_within score bulk modest (take i bs))

    next : Within score_bound (score b.element)
    next = wider (bulk b.element) limit _ (omega (arith, ap weight read, get_or-le-sum_by weight bs i b within)) (modest b.element)

    module _ (a z : ℤ) (is : a ≡ blocks_score score (take i bs)) (one : z ≡ score b.element) where
      pub add_fits : SFits w64 (a +ℤ to_z w64 (of_z w64 z))
      add_fits = sum_fits a z (subst (Within score_bound) (sym is) so_far) (subst (Within score_bound) (sym one) next)

      pub add_is : to_z w64 (of_z w64 (a +ℤ to_z w64 (of_z w64 z))) ≡ blocks_score score (take (i + 1) bs)
      add_is =
          sum_kept a z (subst (Within score_bound) (sym is) so_far) (subst (Within score_bound) (sym one) next)
          ∙ (λ t. is t +ℤ one t) ∙ sym (score_more score bs i b within read)
