-- The blocks of a fit: their bulks, and the pieces that they name.
use Rattle.std.proofs.Common.{ℕ, suc, ◌+◌, ◌<◌, ◌≤◌, Bool, List, [], ◌∷◌, length, sum_by, subst, arith}
use Rattle.std.specs.List.{AllByRecursion}
use Rattle.std.proofs.lemmas.List.{length-reverse}
use Rattle.std.proofs.lemmas.List.Sums.{sum_by-cons}
use Rattle.std.proofs.lemmas.Bool.{cond_both}
use Rattle.isotonic.specs.declared.blocks.Block.{Block}
use Rattle.isotonic.specs.Laws.{Laws, limit}
use Rattle.isotonic.specs.MaxMin.{run, rising_blocks}
use Rattle.isotonic.specs.Stacks.{merged, lone, pushed, stacked_on, stacked}
use Rattle.isotonic.specs.Theorems.{Inside, Tiles}
use Rattle.isotonic.proofs.Agree.{blocks_tile}
use Rattle.isotonic.proofs.Derived.{bulk_joined}
use Rattle.isotonic.proofs.Mirror.{sumBy_reverse}
use Rattle.isotonic.proofs.Pushed.{pushed_height, stacked_fits}

tiles_inside : {V : Type 0} (leq : V → V → Bool) (over : ℕ → ℕ → V) (n lo : ℕ) (bs : List (Block V)) → Tiles leq over n lo bs → (lo ≤ n) × AllByRecursion (Inside n) bs
tiles_inside leq over n lo [] t = (omega (arith, t), tt)
tiles_inside leq over n lo (b ∷ bs) t =
    let rest = tiles_inside leq over n (suc b.last) bs t.5 in
    (omega (arith, t.0, t.1, rest.0), ((t.1, omega (arith, rest.0)), rest.1))

module _ {V : Type 0} {leq : V → V → Bool} {joined : V → V → V} {bulk : V → ℕ} (laws : Laws leq joined bulk) where
  abbrev weight : Block V → ℕ
  weight b = bulk b.element

  pushed_bulk : (bs : List (Block V)) (b : Block V) → sum_by weight (pushed leq joined bs b) ≤ sum_by weight bs + weight b
  unfolding pushed
  pushed_bulk [] b = omega (arith, sum_by-cons weight b [])
  pushed_bulk (t ∷ ts) b =
      cond_both (leq b.element t.element) (pushed leq joined ts (merged joined t b)) (b ∷ t ∷ ts) (λ cs. sum_by weight cs ≤ sum_by weight (t ∷ ts) + weight b)
      (λ _. omega (arith, sum_by-cons weight t ts, pushed_bulk ts (merged joined t b), bulk_joined laws t.element b.element))
      (λ _. omega (arith, sum_by-cons weight b (t ∷ ts)))

  stacked_bulk : (bs : List (Block V)) (i : ℕ) (xs : List V) → sum_by weight (stacked_on leq joined bs i xs) ≤ sum_by weight bs + sum_by bulk xs
  unfolding stacked_on
  stacked_bulk bs i [] = omega arith
  stacked_bulk bs i (x ∷ xs) =
      omega (arith, sum_by-cons bulk x xs, pushed_bulk bs (lone i x), stacked_bulk (pushed leq joined bs (lone i x)) (suc i) xs)

  stacked_count : (bs : List (Block V)) (i : ℕ) (xs : List V) → length (stacked_on leq joined bs i xs) ≤ length bs + length xs
  unfolding stacked_on
  stacked_count bs i [] = omega arith
  stacked_count bs i (x ∷ xs) = omega (arith, pushed_height leq joined bs (lone i x), stacked_count (pushed leq joined bs (lone i x)) (suc i) xs)

  module _ (xs : List V) (light : sum_by bulk xs ≤ limit) where
    -- there are no more blocks than pieces
    pub rising_count : length (rising_blocks leq joined xs) ≤ length xs
    rising_count =
        subst (λ (bs : List (Block V)). length bs ≤ length xs) (stacked_fits laws xs light)
        (omega (arith, length-reverse (stacked leq joined xs), stacked_count [] 0 xs))

    -- the blocks have no more bulk than their pieces
    pub rising_bulk : sum_by weight (rising_blocks leq joined xs) ≤ sum_by bulk xs
    rising_bulk =
        subst (λ (bs : List (Block V)). sum_by weight bs ≤ sum_by bulk xs) (stacked_fits laws xs light)
        (omega (arith, sumBy_reverse weight (stacked leq joined xs), stacked_bulk [] 0 xs))

    -- they are blocks of those pieces
    pub rising_inside : 0 < length xs → V → AllByRecursion (Inside (length xs)) (rising_blocks leq joined xs)
    rising_inside some d = (tiles_inside leq (run joined d xs) (length xs) 0 (rising_blocks leq joined xs) (blocks_tile laws xs light some d)).1
