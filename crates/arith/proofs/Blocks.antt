-- Blocks against rates in whole numbers over one common unit: where each block is solid and the rates fall along it,
-- no rates that expect no more failures than were counted have a larger product than the blocks' own.
use Rattle.std.proofs.Common.{◌≡◌, ℕ, suc, ◌+◌, ◌*◌, ◌^◌, ◌<◌, ◌≤◌, List, [], ◌∷◌, take, ap, le_trans, le_refl, mul-le-mul_right, mul-le-mul, mul-le-mul_left, arith}
use native.Mathlib.Nat.{le_dest, pow-le-pow_left, le_of_mul-le-mul_left}
use Rattle.std.specs.List.{AllByRecursion}
use Rattle.arith.specs.Sums.{total, product}
use Rattle.arith.specs.Rivals.{Direction, along, pieces, Next, Chain}
use Rattle.arith.proofs.Powers.{mul_pow, pow_self_pos}
use Rattle.arith.proofs.Sums.{total_scale, total_same, total_pieces, product_pieces, product_mul}
use Rattle.arith.proofs.Means.{even_shares, weighted}
use Rattle.arith.proofs.Chains.{total_along}

-- Over elements with failures d, exposure t and a rate a in a common unit.
module _ {X : Type 0} (d t a : X → ℕ) where
  -- Summation by parts: where the rate falls along a list, and each front of it sums to no more by u than by v and c,
  -- the whole list sums to no more by u than by v and c when each element is weighted by its rate.
  by_parts : (u v : X → ℕ) (x : X) (xs : List X) (c : ℕ) → ((k : ℕ) → total u (take k xs) ≤ c + total v (take k xs))
      → Next (λ x y. a y ≤ a x) x xs → Chain (λ x y. a y ≤ a x) xs
      → total (λ y. a y * u y) xs ≤ c * a x + total (λ y. a y * v y) xs
  by_parts u v x [] c fronts n h = omega arith
  by_parts u v x (y ∷ ys) c fronts n h =
      let one : u y + 0 ≤ c + (v y + 0) = fronts 1 in
      let more : u y ≤ c + v y = omega arith in
      let rest = le_dest more in
      let e : u y + rest.0 ≡ c + v y = rest.1 in
      let ih = by_parts u v y ys rest.0 (λ k. let f : u y + total u (take k ys) ≤ c + (v y + total v (take k ys)) = fronts (suc k) in omega arith) h.0 h.1 in
      omega (arith, ih, mul-le-mul_left c n, ap (λ z. a y * z) e)

  -- the rate, averaged by the failures of the block, is at most the rate averaged by its exposure
  abbrev pub Follows : List X → Type 0
  Follows b = total t b * total (λ x. a x * d x) b ≤ total d b * total (λ x. a x * t x) b

  -- no front has a higher rate of failures than the whole
  abbrev pub Fronts : List X → Type 0
  Fronts b = (k : ℕ) → total d (take k b) * total t b ≤ total d b * total t (take k b)

  follows_falling : (b : List X) → Fronts b → Chain (λ x y. a y ≤ a x) b → Follows b
  follows_falling [] p h = le_refl _
  follows_falling (x ∷ xs) p h = done (by_parts u v x b 0 fronts (le_refl (a x)) h)
    where
      b : List X
      b = x ∷ xs

      u : X → ℕ
      u y = total t b * d y

      v : X → ℕ
      v y = total d b * t y

      fronts : (k : ℕ) → total u (take k b) ≤ 0 + total v (take k b)
      fronts k = rw (total_scale (total t b) d (take k b), total_scale (total d b) t (take k b)) (let q = p k in omega arith)

      done : total (λ y. a y * u y) b ≤ 0 * a x + total (λ y. a y * v y) b → Follows b
      done q = omega (
        arith,
        total_same (λ y. a y * u y) (λ y. total t b * (a y * d y)) (λ y. omega arith) b,
        total_scale (total t b) (λ y. a y * d y) b,
        total_same (λ y. a y * v y) (λ y. total d b * (a y * t y)) (λ y. omega arith) b,
        total_scale (total d b) (λ y. a y * t y) b,
      )

  pub follows : (direction : Direction) (b : List X) → Fronts (along direction b) → Chain (λ x y. a y ≤ a x) (along direction b) → Follows b
  follows direction b p h =
      rw (total_along t direction b, total_along d direction b, total_along (λ x. a x * d x) direction b, total_along (λ x. a x * t x) direction b)
      at (follows_falling (along direction b) p h)

  -- the product within one block
  in_block : (b : List X) → Follows b → total t b ^ total d b * product (λ x. a x ^ d x) b ≤ total (λ x. a x * t x) b ^ total d b
  in_block b f = cancel (total d b ^ total d b) (total t b ^ total d b) (product (λ x. a x ^ d x) b) (total (λ x. a x * d x) b ^ total d b) (total (λ x. a x * t x) b ^ total d b)
      (weighted d a b) (rw (mul_pow (total t b), mul_pow (total d b)) at (pow-le-pow_left f (total d b))) (pow_self_pos (total d b))
    where
      cancel : (n y p m w : ℕ) → n * p ≤ m → y * m ≤ n * w → 0 < n → y * p ≤ w
      cancel n y p m w h g pos = le_of_mul-le-mul_left {k = n} (omega (arith, mul-le-mul_left y h)) pos

  in_blocks : (bs : List (List X)) → AllByRecursion Follows bs
      → product (λ b. total t b ^ total d b * product (λ x. a x ^ d x) b) bs ≤ product (λ b. total (λ x. a x * t x) b ^ total d b) bs
  in_blocks [] f = le_refl 1
  in_blocks (b ∷ bs) f = mul-le-mul (in_block b f.0) (in_blocks bs f.1)

  -- the product over all blocks, where the rates are in units of 1 / q
  pub blocks_best : (bs : List (List X)) (q : ℕ) → AllByRecursion Follows bs → total (λ x. a x * t x) (pieces bs) ≤ q * total d (pieces bs)
      → product (λ b. total t b ^ total d b) bs * product (λ x. a x ^ d x) (pieces bs) ≤ product (λ b. total d b ^ total d b) bs * q ^ total d (pieces bs)
  blocks_best bs q f h =
      rw (product_pieces (λ x. a x ^ d x) bs, total_pieces d bs)
      (chained (n ^ n) (product (λ b. total t b ^ total d b) bs) (product (λ b. product (λ x. a x ^ d x) b) bs)
      (product (λ b. total (λ x. a x * t x) b ^ total d b) bs) (product (λ b. total d b ^ total d b) bs) (w ^ n) (q ^ n)
      (rw (product_mul (λ b. total t b ^ total d b) (λ b. product (λ x. a x ^ d x) b) bs) at (in_blocks bs f))
      (even_shares (λ b. total d b) (λ b. total (λ x. a x * t x) b) bs)
      (rw mul_pow at (pow-le-pow_left (rw (total_pieces (λ x. a x * t x) bs, total_pieces d bs) at h) n))
      (pow_self_pos n))
    where
      n : ℕ
      n = total (λ b. total d b) bs

      w : ℕ
      w = total (λ b. total (λ x. a x * t x) b) bs

      chained : (N pt pa pw pd wn Q : ℕ) → pt * pa ≤ pw → N * pw ≤ wn * pd → wn ≤ Q * N → 0 < N → pt * pa ≤ pd * Q
      chained N pt pa pw pd wn Q h g k pos =
          le_of_mul-le-mul_left {k = N} (le_trans (mul-le-mul_left N h) (le_trans g (omega (arith, mul-le-mul_right pd k)))) pos
