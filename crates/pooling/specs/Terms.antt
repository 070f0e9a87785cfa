-- Terms of scores in 64 bits.
use Rattle.std.specs.Prelude.{◌≡◌, ℕ, zero, suc, ◌+◌, ◌-◌, ◌*◌, ◌<◌, List, [], ◌∷◌, ◌++◌, reverse, length, take, ℤ, pos, ◌+ℤ◌, ◌-ℤ◌, ◌*ℤ◌, neg_ℤ, ◌≤ℤ◌, sum_by, FitsSigned, slice_index_or, refl}
use Rattle.std.proofs.Common.{sym, ap, ◌∙◌, arith, to_z, of_z}
use mathlib.Core.List.{reverse-cons}
use Rattle.std.proofs.Math.IntN.{zero-*ℤ, suc_ℤ-*ℤ}
use Rattle.std.specs.Int.{w64}
use Rattle.std.proofs.lemmas.List.{take_more}
use Rattle.std.proofs.lemmas.List.Sums.{sum_by-cons}
use Rattle.std.proofs.lemmas.Int.{ints, to_z-of_z}
use Rattle.arith.specs.Log.{squarings, S}
use Rattle.arith.specs.Scores.{log_term}
use Rattle.arith.proofs.Log.{log_below}
use Rattle.isotonic.specs.declared.blocks.Block.{Block}
use Rattle.pooling.specs.Kinds.{rate_bulk, rate_part, rate_whole, share_bulk, share_part, share_whole}
use Rattle.pooling.specs.Scores.{Within, Modest, rate_score, share_score, blocks_score, unit_bound}

-- d times what lies between the bounds of a logarithm
times_within : (d : ℕ) (z : ℤ) → Within unit_bound z → Within (unit_bound * d) (pos d *ℤ z)
times_within zero z h = rw (zero-*ℤ z) (omega (arith, ints), omega (arith, ints))
times_within (suc d) z h =
    let below = times_within d z h in
    let e = suc_ℤ-*ℤ (pos d) z in
    (omega (arith, ints, e, below.0, h.0), omega (arith, ints, e, below.1, h.1))

pub product_within : (d a b : ℕ) → a < unit_bound → b < unit_bound → Within (unit_bound * d) (pos d *ℤ (pos a -ℤ pos b))
product_within d a b h k = times_within d (pos a -ℤ pos b) (omega (arith, ints), omega (arith, ints))

pub term_within : (d t : ℕ) → Within (unit_bound * d) (log_term squarings d t)
term_within d t = product_within d (S d) (S t) (log_below squarings d) (log_below squarings t)

pub rates_modest : Modest rate_bulk rate_score
rates_modest x = let h = term_within (rate_part x) (rate_whole x) in (omega (arith, ints, h.0), omega (arith, ints, h.1))

pub shares_modest : Modest share_bulk share_score
shares_modest x =
    let h = term_within (share_part x) (share_whole x) in
    let k = term_within (share_whole x - share_part x) (share_whole x) in
    let w = x.within in
    (omega (arith, ints, h.0, k.0), omega (arith, ints, h.1, k.1))

-- the product in 64 bits
module _ (d a b : ℕ) (f : d < 4294967296) (h : a < unit_bound) (k : b < unit_bound) where
  product_is : to_z w64 d *ℤ to_z w64 (of_z w64 (to_z w64 a -ℤ to_z w64 b)) ≡ pos d *ℤ (pos a -ℤ pos b)
  product_is = λ i. left i *ℤ right i
    where
      left : to_z w64 d ≡ pos d
      left = omega (arith, ints)

      right : to_z w64 (of_z w64 (to_z w64 a -ℤ to_z w64 b)) ≡ pos a -ℤ pos b
      right = omega (arith, ints)

  pub product_fits : FitsSigned w64 (to_z w64 d *ℤ to_z w64 (of_z w64 (to_z w64 a -ℤ to_z w64 b)))
  product_fits = rw product_is (fits (pos d *ℤ (pos a -ℤ pos b)) (product_within d a b h k).0 (product_within d a b h k).1)
    where
      fits : (z : ℤ) → neg_ℤ (pos (unit_bound * d)) ≤ℤ z → z ≤ℤ pos (unit_bound * d) → FitsSigned w64 z
      fits z p q = omega (arith, ints)

  pub product_kept : to_z w64 (of_z w64 (to_z w64 d *ℤ to_z w64 (of_z w64 (to_z w64 a -ℤ to_z w64 b)))) ≡ pos d *ℤ (pos a -ℤ pos b)
  product_kept = to_z-of_z w64 (to_z w64 d *ℤ to_z w64 (of_z w64 (to_z w64 a -ℤ to_z w64 b))) product_fits ∙ product_is

-- the scores of blocks, added up one by one
module _ {V : Type 0} (score : V → ℤ) where
  pub score_append : (bs cs : List (Block V)) → blocks_score score (bs ++ cs) ≡ blocks_score score bs +ℤ blocks_score score cs
  score_append [] cs = omega (arith, ints)
  score_append (b ∷ bs) cs = omega (arith, ints, score_append bs cs)

  score_push : (bs : List (Block V)) (b : Block V) → blocks_score score (bs ++ (b ∷ [])) ≡ blocks_score score bs +ℤ score b.element
  score_push bs b = score_append bs (b ∷ []) ∙ omega (arith, ints)

  pub score_more : (bs : List (Block V)) (i : ℕ) (b : Block V) → i < length bs → b ≡ slice_index_or bs i b → blocks_score score (take (i + 1) bs) ≡ blocks_score score (take i bs) +ℤ score b.element
  score_more bs i b h read =
      ap (blocks_score score) (take_more bs i b h) ∙ score_push (take i bs) (slice_index_or bs i b)
      ∙ ap (λ (c : Block V). blocks_score score (take i bs) +ℤ score c.element) (sym read)

  -- in either order
  pub score_reverse : (bs : List (Block V)) → blocks_score score (reverse bs) ≡ blocks_score score bs
  score_reverse [] = refl
  score_reverse (b ∷ bs) = ap (blocks_score score) (reverse-cons b bs) ∙ score_push (reverse bs) b ∙ omega (arith, ints, score_reverse bs)

  -- they stay within the bound of their bulks
  pub score_within : (bulk : V → ℕ) → Modest bulk score → (bs : List (Block V)) → Within (unit_bound * sum_by (λ b. bulk b.element) bs) (blocks_score score bs)
  score_within bulk modest [] = (omega (arith, ints), omega (arith, ints))
  score_within bulk modest (b ∷ bs) =
      let h = modest b.element in
      let k = score_within bulk modest bs in
      let e = sum_by-cons (λ (c : Block V). bulk c.element) b bs in
      (omega (arith, ints, e, h.0, k.0), omega (arith, ints, e, h.1, k.1))
