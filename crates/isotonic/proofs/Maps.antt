-- A kind seen by a map that keeps its order and its pooling has the same blocks and the same stacks.
use Rattle.std.proofs.Common.{◌≡◌, ℕ, zero, suc, ◌+◌, ◌-◌, Bool, true, false, cond, ◌&&◌, List, [], ◌∷◌, map, length, take, drop, sym, refl, ap, ◌∙◌}
use Rattle.std.proofs.lemmas.List.{take-map, drop-map, length-map}
use Rattle.isotonic.specs.declared.blocks.Block.{Block}
use Rattle.isotonic.specs.Stacks.{merged, pushed}
use Rattle.isotonic.specs.MaxMin.{pooled_on, pooled, run, lesser, greater, least, greatest, level, least_from, rising, on_element, block, in_front, last_blocks, rising_blocks}

pub map_twice : {X Y Z : Type 0} (f : Y → Z) (h : X → Y) (xs : List X) → map f (map h xs) ≡ map (λ x. f (h x)) xs
map_twice f h [] = refl
map_twice f h (x ∷ xs) = ap (λ ys. f (h x) ∷ ys) (map_twice f h xs)

pub cond_map : {X Y : Type 0} (h : X → Y) (t : Bool) (x y : X) → h (cond t x y) ≡ cond t (h x) (h y)
cond_map h true x y = refl
cond_map h false x y = refl

module _ {V W : Type 0} (f : V → W) {leq : V → V → Bool} {joined : V → V → V} (leq' : W → W → Bool) (joined' : W → W → W) (same : (x y : V) → leq' (f x) (f y) ≡ leq x y) (pools : (x y : V) → f (joined x y) ≡ joined' (f x) (f y)) where
  pooled_on_map : (x : V) (xs : List V) → f (pooled_on joined x xs) ≡ pooled_on joined' (f x) (map f xs)
  pooled_on_map x [] = refl
  pooled_on_map x (y ∷ ys) = pools x (pooled_on joined y ys) ∙ ap (joined' (f x)) (pooled_on_map y ys)

  pooled_map : (d : V) (xs : List V) → f (pooled joined d xs) ≡ pooled joined' (f d) (map f xs)
  pooled_map d [] = refl
  pooled_map d (x ∷ xs) = pooled_on_map x xs

  run_map : (d : V) (xs : List V) (a b : ℕ) → f (run joined d xs a b) ≡ run joined' (f d) (map f xs) a b
  run_map d xs a b =
      pooled_map d (take (b - a) (drop a xs))
      ∙ ap (pooled joined' (f d)) (sym (take-map f (b - a) (drop a xs)) ∙ ap (take (b - a)) (sym (drop-map f a xs)))

  lesser_map : (x y : V) → f (lesser leq x y) ≡ lesser leq' (f x) (f y)
  lesser_map x y = cond_map f (leq x y) x y ∙ ap (λ (t : Bool). cond t (f x) (f y)) (sym (same x y))

  greater_map : (x y : V) → f (greater leq x y) ≡ greater leq' (f x) (f y)
  greater_map x y = cond_map f (leq y x) x y ∙ ap (λ (t : Bool). cond t (f x) (f y)) (sym (same y x))

  least_map : (v : ℕ → V) (w : ℕ → W) → ((k : ℕ) → f (v k) ≡ w k) → (k : ℕ) → f (least leq v k) ≡ least leq' w k
  least_map v w e zero = e 0
  least_map v w e (suc k) = lesser_map (least leq v k) (v (suc k)) ∙ (λ i. lesser leq' (least_map v w e k i) (e (suc k) i))

  greatest_map : (v : ℕ → V) (w : ℕ → W) → ((k : ℕ) → f (v k) ≡ w k) → (k : ℕ) → f (greatest leq v k) ≡ greatest leq' w k
  greatest_map v w e zero = e 0
  greatest_map v w e (suc k) = greater_map (greatest leq v k) (v (suc k)) ∙ (λ i. greater leq' (greatest_map v w e k i) (e (suc k) i))

  module _ (over : ℕ → ℕ → V) (over' : ℕ → ℕ → W) (seen : (a b : ℕ) → f (over a b) ≡ over' a b) where
    rising_map : (n i : ℕ) → f (rising leq over n i) ≡ rising leq' over' n i
    rising_map n i =
        greatest_map (λ a. least_from leq over n a i) (λ a. least_from leq' over' n a i)
        (λ a. least_map (λ k. over a (suc (i + k))) (λ k. over' a (suc (i + k))) (λ k. seen a (suc (i + k))) (n - suc i)) i

    block_map : (i j : ℕ) → on_element f (block over i j) ≡ block over' i j
    block_map i j = λ t. record { first = i; last = j; element = seen i (suc j) t }

    module _ (value : ℕ → V) (value' : ℕ → W) (fits : (i : ℕ) → f (value i) ≡ value' i) where
      level_map : (i j : ℕ) → level leq (value i) (value j) ≡ level leq' (value' i) (value' j)
      level_map i j =
          (λ t. sym (same (value i) (value j)) t && sym (same (value j) (value i)) t) ∙ (λ t. level leq' (fits i t) (fits j t))

      in_front_map : (i : ℕ) (bs : List (Block V)) → map (on_element f) (in_front leq over value i bs) ≡ in_front leq' over' value' i (map (on_element f) bs)
      in_front_map i [] = ap (λ (b : Block W). b ∷ []) (block_map i i)
      in_front_map i (b ∷ bs) =
          cond_map (map (on_element f)) (level leq (value i) (value (suc i))) (block over i b.last ∷ bs) (block over i i ∷ b ∷ bs)
          ∙ (λ t. cond (level_map i (suc i) t) (block_map i b.last t ∷ map (on_element f) bs) (block_map i i t ∷ on_element f b ∷ map (on_element f) bs))

      last_blocks_map : (n k : ℕ) → map (on_element f) (last_blocks leq over value n k) ≡ last_blocks leq' over' value' n k
      last_blocks_map n zero = refl
      last_blocks_map n (suc k) =
          in_front_map (n - suc k) (last_blocks leq over value n k) ∙ ap (in_front leq' over' value' (n - suc k)) (last_blocks_map n k)

  -- a block put on a stack, seen by f, is put on the stack seen by f
  pub pushed_map : (bs : List (Block V)) (b : Block V) → map (on_element f) (pushed leq joined bs b) ≡ pushed leq' joined' (map (on_element f) bs) (on_element f b)
  unfolding pushed
  pushed_map [] b = refl
  pushed_map (t ∷ ts) b =
      cond_map (map (on_element f)) (leq b.element t.element) (pushed leq joined ts (merged joined t b)) (b ∷ t ∷ ts)
      ∙ ap (λ (q : Bool). cond q (map (on_element f) (pushed leq joined ts (merged joined t b))) (on_element f b ∷ on_element f t ∷ map (on_element f) ts)) (sym (same b.element t.element))
      ∙ ap (λ (cs : List (Block W)). cond (leq' (f b.element) (f t.element)) cs (on_element f b ∷ on_element f t ∷ map (on_element f) ts))
      (pushed_map ts (merged joined t b) ∙ (λ i. pushed leq' joined' (map (on_element f) ts) (record { first = t.first; last = b.last; element = pools t.element b.element i })))

  -- the blocks of the list, seen by f, are those of the list seen by f
  pub rising_blocks_map : (xs : List V) → map (on_element f) (rising_blocks leq joined xs) ≡ rising_blocks leq' joined' (map f xs)
  unfolding rising_blocks
  rising_blocks_map [] = refl
  rising_blocks_map (x ∷ xs) =
      let over = run joined x (x ∷ xs) in
      let over' = run joined' (f x) (f x ∷ map f xs) in
      let n = length (x ∷ xs) in
      last_blocks_map over over' (run_map x (x ∷ xs)) (rising leq over n) (rising leq' over' n) (rising_map over over' (run_map x (x ∷ xs)) n) n n
      ∙ ap (λ (k : ℕ). last_blocks leq' over' (rising leq' over' k) k k) (sym (length-map (x ∷ xs) f))
