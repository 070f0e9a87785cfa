-- The weighted mean inequality: proof of specs/Means.antt.
use Rattle.std.proofs.Common.{◌≡◌, ℕ, zero, suc, ◌+◌, ◌*◌, ◌^◌, ◌<◌, ◌≤◌, List, [], ◌∷◌, ap, ◌∙◌, le_trans, le_of_eq, le_refl, add-zero, mul-le-mul_right, zero-lt-suc, suc-add, mul-le-mul_left, mul-pos, pow-suc, zero-add, le_of_mul-le-mul_right, arith, pow-add}
use native.Mathlib.Nat.{pow-zero, pow-le-pow_left, le_of_mul-le-mul_left, one-le-pow}
use Rattle.arith.specs.Sums.{total, product}
use Rattle.arith.specs.Means.{WeightedMean}
use Rattle.arith.proofs.Powers.{pow_one, mul_pow, pow_self_pos, tangent}
use Rattle.arith.proofs.Sums.{product_same, product_mul, product_pos, all_of}

-- one more number a beside n numbers of the sum s
grow : (n a s : ℕ) → suc n ^ suc n * (a * s ^ n) ≤ n ^ n * (a + s) ^ suc n
grow zero a s = rw (pow_one 1, pow_one (a + s), pow-zero s, pow-zero 0) (omega arith)
grow (suc m) a s =
    rw (pow-suc (suc n) n)
    (cancel (suc n ^ n) (s ^ n) (n ^ n) ((a + s) ^ suc n)
    (rw (pow-suc (suc n * s) n, mul_pow (suc n) s n, mul_pow n (a + s) (suc n), pow-suc n n) at (tangent (n * (a + s)) (suc n * s) n)))
  where
    n : ℕ
    n = suc m

    cancel : (p q r v : ℕ) → suc n * (n * (a + s) * (p * q)) ≤ r * n * v + n * (p * q * (suc n * s)) → p * suc n * (a * q) ≤ r * v
    cancel p q r v h = le_of_mul-le-mul_left {k = n} (omega arith) (zero-lt-suc m)

-- the same with the product p of the n numbers
grown : (n a s p : ℕ) → n ^ n * p ≤ s ^ n → suc n ^ suc n * (a * p) ≤ (a + s) ^ suc n
grown n a s p h = within (suc n ^ suc n) (n ^ n) (s ^ n) ((a + s) ^ suc n) h (grow n a s) (pow_self_pos n)
  where
    within : (k m t r : ℕ) → m * p ≤ t → k * (a * t) ≤ m * r → 0 < m → k * (a * p) ≤ r
    within k m t r h g pos = le_of_mul-le-mul_left {k = m} (omega (arith, mul-le-mul_left (k * a) h)) pos

-- a times x and b times y
two_values : (a b x y : ℕ) → (a + b) ^ (a + b) * (x ^ a * y ^ b) ≤ (a * x + b * y) ^ (a + b)
two_values zero b x y = rw (zero-add b, pow-zero x) (base (b ^ b) (y ^ b) ((0 * x + b * y) ^ b) (ap (λ t. t ^ b) (omega arith) ∙ mul_pow b y b))
  where
    base : (p q r : ℕ) → r ≡ p * q → p * (1 * q) ≤ r
    base p q r e = omega arith
two_values (suc a) b x y =
    let e : x + (a * x + b * y) ≡ suc a * x + b * y = omega arith in
    rw (suc-add a b, pow-suc x a)
    (same (suc (a + b) ^ suc (a + b)) (x ^ a) (y ^ b) ((suc a * x + b * y) ^ suc (a + b))
    (rw e at (grown (a + b) x (a * x + b * y) (x ^ a * y ^ b) (two_values a b x y))))
  where
    same : (k p q r : ℕ) → k * (x * (p * q)) ≤ r → k * (p * x * q) ≤ r
    same k p q r h = omega arith

-- two amounts s and t with the weights a and b
two_shares : (a b s t : ℕ) → (a + b) ^ (a + b) * (s ^ a * t ^ b) ≤ (s + t) ^ (a + b) * (a ^ a * b ^ b)
two_shares zero b s t =
    rw (zero-add b, pow-zero s, pow-zero 0)
    (least (b ^ b) (t ^ b) ((s + t) ^ b) (pow-le-pow_left (let h : t ≤ s + t = omega arith in h) b))
  where
    least : (k p q : ℕ) → p ≤ q → k * (1 * p) ≤ q * (1 * k)
    least k p q h = omega (arith, mul-le-mul_left k h)
two_shares (suc a) zero s t =
    rw (add-zero (suc a), pow-zero t, pow-zero 0)
    (least (suc a ^ suc a) (s ^ suc a) ((s + t) ^ suc a) (pow-le-pow_left (let h : s ≤ s + t = omega arith in h) (suc a)))
  where
    least : (k p q : ℕ) → p ≤ q → k * (p * 1) ≤ q * (k * 1)
    least k p q h = omega (arith, mul-le-mul_left k h)
two_shares (suc m) (suc k) s t =
    let e : a * (s * b) + b * (t * a) ≡ (s + t) * (a * b) = omega arith in
    cancel ((a + b) ^ (a + b)) (s ^ a) (t ^ b) ((s + t) ^ (a + b)) (a ^ a) (a ^ b) (b ^ a) (b ^ b)
    (rw (e, mul_pow s b a, mul_pow t a b, mul_pow (s + t) (a * b) (a + b), mul_pow a b (a + b), pow-add a a b, pow-add b a b) at (two_values a b (s * b) (t * a)))
    (mul-pos (one-le-pow b a (zero-lt-suc m)) (one-le-pow a b (zero-lt-suc k)))
  where
    a : ℕ
    a = suc m

    b : ℕ
    b = suc k

    cancel : (n p q r aa ab ba bb : ℕ) → n * (p * ba * (q * ab)) ≤ r * (aa * ab * (ba * bb)) → 0 < ab * ba → n * (p * q) ≤ r * (aa * bb)
    cancel n p q r aa ab ba bb h pos = le_of_mul-le-mul_right {k = ab * ba} (omega arith) pos

-- Of amounts s with a given sum, the product of (s / w) ^ w is greatest where they are in proportion to the weights w.
pub even_shares : {X : Type 0} (w s : X → ℕ) (xs : List X)
    → total w xs ^ total w xs * product (λ x. s x ^ w x) xs ≤ total s xs ^ total w xs * product (λ x. w x ^ w x) xs
even_shares w s [] = le_refl _
even_shares w s (x ∷ xs) =
    join ((w x + total w xs) ^ (w x + total w xs)) (s x ^ w x) ((s x + total s xs) ^ (w x + total w xs)) (w x ^ w x) (total w xs ^ total w xs)
    (product (λ x. s x ^ w x) xs) (product (λ x. w x ^ w x) xs) (total s xs ^ total w xs)
    (even_shares w s xs) (two_shares (w x) (total w xs) (s x) (total s xs)) (pow_self_pos (total w xs))
  where
    join : (a b c e n p y t : ℕ) → n * p ≤ t * y → a * (b * t) ≤ c * (e * n) → 0 < n → a * (b * p) ≤ c * (e * y)
    join a b c e n p y t h g pos = le_of_mul-le-mul_right {k = n} (omega (arith, mul-le-mul_left (a * b) h, mul-le-mul_right y g)) pos

-- values v with the weights w
pub weighted : {X : Type 0} (w v : X → ℕ) (xs : List X)
    → total w xs ^ total w xs * product (λ x. v x ^ w x) xs ≤ total (λ x. v x * w x) xs ^ total w xs
weighted w v xs =
    le_of_mul-le-mul_right {k = product (λ x. w x ^ w x) xs}
    (le_trans (le_of_eq (split (total w xs ^ total w xs) _ _ _ products)) (even_shares w (λ x. v x * w x) xs))
    (product_pos (λ x. w x ^ w x) xs (all_of _ (λ x. pow_self_pos (w x)) xs))
  where
    products : product (λ x. (v x * w x) ^ w x) xs ≡ product (λ x. v x ^ w x) xs * product (λ x. w x ^ w x) xs
    products =
        product_same (λ x. (v x * w x) ^ w x) (λ x. v x ^ w x * w x ^ w x) xs (all_of _ (λ x. mul_pow (v x) (w x) (w x)) xs)
        ∙ product_mul (λ x. v x ^ w x) (λ x. w x ^ w x) xs

    split : (n r p q : ℕ) → r ≡ p * q → n * p * q ≡ n * r
    split n r p q e = rw e (omega arith)

pub weighted_mean : WeightedMean
weighted_mean = weighted (λ x. x.weight) (λ x. x.value)
