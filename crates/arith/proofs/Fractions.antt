-- A sum of fractions over one common denominator.
use Rattle.std.proofs.Common.{◌≡◌, ℕ, ◌+◌, ◌*◌, ◌/◌, ◌<◌, ◌≤◌, List, [], ◌∷◌, sym, refl, ap, ◌∙◌, mul-le-mul_right, mul_comm, mul-pos, le_of_mul-le-mul_right, arith}
use native.Mathlib.Nat.{eq_of_mul-eq-mul_left, div-eq_of_eq-mul_left}
use Rattle.std.specs.List.{AllByRecursion}
use Rattle.arith.specs.Sums.{total, product}
use Rattle.arith.specs.Fractions.{Fraction, sum}
use Rattle.arith.proofs.Sums.{product_pos}

-- q divides Q, with the quotient Q / q
abbrev pub Divides : ℕ → ℕ → Type 0
Divides Q q = (0 < q) × (Q / q * q ≡ Q)

-- two fractions py / qy and px / qx over a common denominator
pub over_common : (py px qx qy Q : ℕ) → Divides Q qx → Divides Q qy → py * qx ≤ px * qy → py * (Q / qy) ≤ px * (Q / qx)
over_common py px qx qy Q ex ey h = cross (Q / qx) (Q / qy) ex.1 ey.1
  where
    cross : (rx ry : ℕ) → rx * qx ≡ Q → ry * qy ≡ Q → py * ry ≤ px * rx
    cross rx ry fx fy =
        le_of_mul-le-mul_right {k = qx * qy} (omega (arith, mul-le-mul_right Q h, ap (λ z. py * qx * z) fy, ap (λ z. px * qy * z) fx)) (mul-pos ex.0 ey.0)

module _ {X : Type 0} (f : X → Fraction) where
  pub sum_denominator : (xs : List X) → (sum f xs).denominator ≡ product (λ x. (f x).denominator) xs
  sum_denominator [] = refl
  sum_denominator (x ∷ xs) = ap (λ z. (f x).denominator * z) (sum_denominator xs)

  -- each denominator divides the product of all
  divides : (Q : ℕ) (xs : List X) (c : ℕ) → Q ≡ c * product (λ x. (f x).denominator) xs → AllByRecursion (λ x. 0 < (f x).denominator) xs → AllByRecursion (λ x. Divides Q (f x).denominator) xs
  divides Q [] c e h = tt
  divides Q (x ∷ xs) c e h =
      let g : Q ≡ c * product (λ x. (f x).denominator) xs * (f x).denominator = omega arith in
      let k : Q / (f x).denominator ≡ c * product (λ x. (f x).denominator) xs = div-eq_of_eq-mul_left h.0 g in
      ((h.0, ap (λ z. z * (f x).denominator) k ∙ sym g), divides Q xs (c * (f x).denominator) (omega arith) h.1)

  scaled_sum : (Q : ℕ) (xs : List X) → AllByRecursion (λ x. Divides Q (f x).denominator) xs
      → (sum f xs).numerator * Q ≡ (sum f xs).denominator * total (λ x. (f x).numerator * (Q / (f x).denominator)) xs
  scaled_sum Q [] h = omega arith
  scaled_sum Q (x ∷ xs) h =
      step (f x).numerator (sum f xs).denominator (f x).denominator (sum f xs).numerator (Q / (f x).denominator)
      (total (λ x. (f x).numerator * (Q / (f x).denominator)) xs) h.0.1 (scaled_sum Q xs h.1)
    where
      step : (m p k s r t : ℕ) → r * k ≡ Q → s * Q ≡ p * t → (m * p + k * s) * Q ≡ k * p * (m * r + t)
      step m p k s r t e g = omega (arith, ap (λ z. m * p * z) e, ap (λ z. k * z) g)

  module _ (xs : List X) (some : AllByRecursion (λ x. 0 < (f x).denominator) xs) where
    pub sum_pos : 0 < (sum f xs).denominator
    sum_pos = rw (sum_denominator xs) (product_pos (λ x. (f x).denominator) xs some)

    pub sum_divides : AllByRecursion (λ x. Divides (sum f xs).denominator (f x).denominator) xs
    sum_divides = divides (sum f xs).denominator xs 1 (let e = sum_denominator xs in omega arith) some

    pub sum_numerator : (sum f xs).numerator ≡ total (λ x. (f x).numerator * ((sum f xs).denominator / (f x).denominator)) xs
    sum_numerator =
        eq_of_mul-eq-mul_left (sum f xs).denominator sum_pos _ _
        (mul_comm (sum f xs).denominator _ ∙ scaled_sum (sum f xs).denominator xs sum_divides)
