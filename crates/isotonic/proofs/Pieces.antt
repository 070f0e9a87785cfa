-- Runs of pieces: neighbours join, and lie between.
use Rattle.std.proofs.Common.{◌≡◌, ℕ, suc, ◌+◌, ◌-◌, ◌<◌, ◌≤◌, Bool, List, [], ◌∷◌, ◌++◌, reverse, length, get_or, take, drop, sum_by, sym, refl, ap, ◌∙◌, arith}
use Rattle.std.proofs.lemmas.List.{take-append-drop, take-take, drop-take, drop-drop, drop_more, length-take-le, length-drop}
use Rattle.std.proofs.lemmas.List.Sums.{sum_by-cons, sum_by-append, sum_by-take-le, sum_by-take-drop}
use Rattle.isotonic.specs.declared.blocks.Block.{Block}
use Rattle.isotonic.specs.Laws.{Laws, limit}
use Rattle.isotonic.specs.MaxMin.{pooled_on, pooled, run, rising_blocks}
use Rattle.isotonic.proofs.Towers.{Tower}
use Rattle.isotonic.proofs.Derived.{mean_up, mean_down, bulk_joined}
use Rattle.isotonic.proofs.Means.{Means}
use Rattle.isotonic.proofs.Fit.{tower_fits}

take_split : {X : Type 0} (p q : ℕ) (xs : List X) → take (p + q) xs ≡ take p xs ++ take q (drop p xs)
take_split p q xs =
    sym (take-append-drop p (take (p + q) xs))
    ∙ ap (λ ys. ys ++ drop p (take (p + q) xs)) (take-take p (p + q) xs (omega arith))
    ∙ ap (λ ys. take p xs ++ ys) (drop-take p q xs)

-- the pieces from a on and before e, cut at b
pub part_split : {X : Type 0} (xs : List X) (a b e : ℕ) → a ≤ b → b ≤ e → take (e - a) (drop a xs) ≡ take (b - a) (drop a xs) ++ take (e - b) (drop b xs)
part_split xs a b e p q =
    ap (λ k. take k (drop a xs)) sizes ∙ take_split (b - a) (e - b) (drop a xs)
    ∙ ap (λ ys. take (b - a) (drop a xs) ++ take (e - b) ys) (drop-drop (b - a) a xs ∙ ap (λ k. drop k xs) reach)
  where
    sizes : e - a ≡ (b - a) + (e - b)
    sizes = omega arith

    reach : a + (b - a) ≡ b
    reach = omega arith

part_length : {X : Type 0} (xs : List X) (a b : ℕ) → a < b → b ≤ length xs → 0 < length (take (b - a) (drop a xs))
part_length xs a b p q = rw (length-take-le (b - a) (drop a xs) fits) (omega arith)
  where
    fits : b - a ≤ length (drop a xs)
    fits = rw (length-drop a xs) (omega arith)

module _ {V : Type 0} {leq : V → V → Bool} {joined : V → V → V} {bulk : V → ℕ} (laws : Laws leq joined bulk) where
  bulk_on : (x : V) (xs : List V) → bulk (pooled_on joined x xs) ≤ sum_by bulk (x ∷ xs)
  bulk_on x [] = omega (arith, sum_by-cons bulk x [])
  bulk_on x (y ∷ ys) = omega (arith, sum_by-cons bulk x (y ∷ ys), bulk_joined laws x (pooled_on joined y ys), bulk_on y ys)

  on_append : (x : V) (xs : List V) (y : V) (ys : List V) → sum_by bulk (x ∷ xs) + sum_by bulk (y ∷ ys) ≤ limit → pooled_on joined x (xs ++ (y ∷ ys)) ≡ joined (pooled_on joined x xs) (pooled_on joined y ys)
  on_append x [] y ys h = refl
  on_append x (z ∷ zs) y ys h =
      ap (joined x) (on_append z zs y ys (omega (arith, sum_by-cons bulk x (z ∷ zs))))
      ∙ sym (laws.assoc x (pooled_on joined z zs) (pooled_on joined y ys) (omega (arith, sum_by-cons bulk x (z ∷ zs), bulk_on z zs, bulk_on y ys)))

  pub bulk_pooled : (d : V) (xs : List V) → 0 < length xs → bulk (pooled joined d xs) ≤ sum_by bulk xs
  bulk_pooled d [] h = absurd (omega arith)
  bulk_pooled d (x ∷ xs) h = bulk_on x xs

  pub pooled_append : (d : V) (xs ys : List V) → 0 < length xs → 0 < length ys → sum_by bulk xs + sum_by bulk ys ≤ limit → pooled joined d (xs ++ ys) ≡ joined (pooled joined d xs) (pooled joined d ys)
  pooled_append d [] ys h k l = absurd (omega arith)
  pooled_append d (x ∷ xs) [] h k l = absurd (omega arith)
  pooled_append d (x ∷ xs) (y ∷ ys) h k l = on_append x xs y ys l

  pub part_weight : (xs : List V) (a b : ℕ) → sum_by bulk (take (b - a) (drop a xs)) ≤ sum_by bulk xs
  part_weight xs a b = omega (arith, sum_by-take-le bulk (drop a xs) (b - a), sum_by-take-drop bulk xs a)

  module _ (xs : List V) (light : sum_by bulk xs ≤ limit) (d : V) where
    two_weights : (a b e : ℕ) → a < b → b < e → sum_by bulk (take (b - a) (drop a xs)) + sum_by bulk (take (e - b) (drop b xs)) ≤ limit
    two_weights a b e p q =
        omega (arith, part_weight xs a e, ap (sum_by bulk) (part_split xs a b e (omega arith) (omega arith)), sum_by-append bulk (take (b - a) (drop a xs)) (take (e - b) (drop b xs)))

    pub run_joined : (a b e : ℕ) → a < b → b < e → e ≤ length xs → run joined d xs a e ≡ joined (run joined d xs a b) (run joined d xs b e)
    run_joined a b e p q r =
        ap (pooled joined d) (part_split xs a b e (omega arith) (omega arith))
        ∙ pooled_append d _ _ (part_length xs a b p (omega arith)) (part_length xs b e q r) (two_weights a b e p q)

    run_bulks : (a b e : ℕ) → a < b → b < e → e ≤ length xs → bulk (run joined d xs a b) + bulk (run joined d xs b e) ≤ limit
    run_bulks a b e p q r =
        omega (arith, bulk_pooled d (take (b - a) (drop a xs)) (part_length xs a b p (omega arith)), bulk_pooled d (take (e - b) (drop b xs)) (part_length xs b e q r), two_weights a b e p q)

    pub run_one : (i : ℕ) → i < length xs → run joined d xs i (suc i) ≡ get_or xs i d
    run_one i h = ap (λ k. pooled joined d (take k (drop i xs))) one_long ∙ ap (λ ys. pooled joined d (take 1 ys)) (drop_more xs i d h)
      where
        one_long : suc i - i ≡ 1
        one_long = omega arith

    pub means : Means leq (run joined d xs) (length xs)
    means = record {
      order = record { total = laws.total; trans = laws.trans };
      up = λ a b e p q r h. rw (run_joined a b e p q r) (mean_up laws _ _ (run_bulks a b e p q r) h);
      down = λ a b e p q r h. rw (run_joined a b e p q r) (mean_down laws _ _ (run_bulks a b e p q r) h);
    }

  -- a tower over all pieces is their rising fit
  pub tower_blocks : (xs : List V) (bs : List (Block V)) → 0 < length xs → sum_by bulk xs ≤ limit → ((d : V) → Tower leq (run joined d xs) (length xs) bs) → reverse bs ≡ rising_blocks leq joined xs
  unfolding rising_blocks
  tower_blocks [] bs h l t = absurd (omega arith)
  tower_blocks (x ∷ xs) bs h l t = tower_fits (means (x ∷ xs) l x) bs (t x)
