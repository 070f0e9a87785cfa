-- Powers: what multiplies out, and the tangent of a power.
use Rattle.std.proofs.Common.{◌≡◌, ℕ, zero, suc, ◌+◌, ◌*◌, ◌^◌, ◌<◌, ◌≤◌, refl, ap, ◌∙◌, mul-le-mul_right, zero-lt-suc, one-mul, pow-suc, mul-zero, mul-suc, two-mul, arith, pow-add}
use native.Mathlib.Nat.{pow-zero, pow-le-pow_left, le_dest, one-le-pow}
use native.Mathlib.Decide.{dec_le}

pub pow_one : (x : ℕ) → x ^ 1 ≡ x
pow_one x = pow-suc x 0 ∙ rw pow-zero (one-mul x)

pub one_pow : (n : ℕ) → 1 ^ n ≡ 1
one_pow zero = refl
one_pow (suc n) = pow-suc 1 n ∙ ap (λ z. z * 1) (one_pow n)

-- a power of a product
pub mul_pow : (a b n : ℕ) → (a * b) ^ n ≡ a ^ n * b ^ n
mul_pow a b zero = rw (pow-zero (a * b), pow-zero a, pow-zero b)
mul_pow a b (suc n) =
    rw (pow-suc (a * b) n, pow-suc a n, pow-suc b n, mul_pow a b n)
    (regroup (a ^ n) (b ^ n) a b)
  where
    regroup : (p q a b : ℕ) → p * q * (a * b) ≡ p * a * (q * b)
    regroup p q a b = omega arith

-- a power of a power
pub pow_mul : (x a b : ℕ) → x ^ (a * b) ≡ (x ^ a) ^ b
pow_mul x a zero = rw (mul-zero a, pow-zero x, pow-zero (x ^ a))
pow_mul x a (suc b) = rw (mul-suc a b, pow-add x (a * b) a, pow_mul x a b, pow-suc (x ^ a) b)

pub pow_double : (x n : ℕ) → x ^ (2 * n) ≡ x ^ n * x ^ n
pow_double x n = ap (λ k. x ^ k) (two-mul n) ∙ pow-add x n n

-- n ^ n is at least 1, since 0 ^ 0 is 1
pub pow_self_pos : (n : ℕ) → 0 < n ^ n
pow_self_pos zero = rw pow-zero (zero-lt-suc 0)
pow_self_pos (suc n) = one-le-pow (suc n) (suc n) (zero-lt-suc n)

-- the larger with the larger and the smaller with the smaller come to at least what they come to crosswise
rearrange : (a b c d : ℕ) → a ≤ b → c ≤ d → a * d + b * c ≤ a * c + b * d
rearrange a b c d h k =
    let e = le_dest h in
    let f = le_dest k in
    rw (← e.1, ← f.1) (apart a e.0 c f.0)
  where
    apart : (a k c l : ℕ) → a * (c + l) + (a + k) * c ≤ a * c + (a + k) * (c + l)
    apart a k c l = omega arith

mixed : (x y n : ℕ) → x * y ^ n + y * x ^ n ≤ x * x ^ n + y * y ^ n
mixed x y n = elim (dec_le x y) [
  | yes h ↦ rearrange x y (x ^ n) (y ^ n) h (pow-le-pow_left h n)
  | no h ↦ flip (let k : y ≤ x = omega arith in rearrange y x (y ^ n) (x ^ n) k (pow-le-pow_left k n))
]
  where
    flip : y * x ^ n + x * y ^ n ≤ y * y ^ n + x * x ^ n → x * y ^ n + y * x ^ n ≤ x * x ^ n + y * y ^ n
    flip h = omega arith

-- A power lies above its tangent: x ^ (n + 1) is at least y ^ (n + 1) + (n + 1) * y ^ n * (x - y).
pub tangent : (x y n : ℕ) → suc n * (x * y ^ n) ≤ x ^ suc n + n * y ^ suc n
tangent x y zero = rw (pow-zero y, pow_one x, pow_one y) (omega arith)
tangent x y (suc n) =
    rw (pow-suc x (suc n), pow-suc y (suc n)) (step (x ^ suc n) (y ^ n) (y ^ suc n) (pow-suc y n) (tangent x y n) (mixed x y (suc n)))
  where
    step : (q r p : ℕ) → p ≡ r * y → suc n * (x * r) ≤ q + n * p → x * p + y * q ≤ x * q + y * p → suc (suc n) * (x * p) ≤ q * x + suc n * (p * y)
    step q r p e h k = omega (arith, mul-le-mul_right y h, ap (λ t. x * t) e, ap (λ t. n * (x * t)) e)
