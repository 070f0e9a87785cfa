-- Scores tell products apart: proof of specs/Scores.antt.
use Rattle.std.proofs.Common.{◌≡◌, ℕ, zero, suc, ◌+◌, ◌-◌, ◌*◌, ◌^◌, ◌<◌, ◌≤◌, List, [], ◌∷◌, ℤ, pos, ◌+ℤ◌, ◌-ℤ◌, ◌*ℤ◌, ◌≤ℤ◌, sym, refl, ap, ◌∙◌, le_trans, le_of_eq, le_refl, le_of_lt, zero-lt-suc, mul_comm, mul-le-mul, mul-le-mul_left, lt_of_not-le, not-le_of_lt, arith, pow_mono, pow-add}
use native.Mathlib.Nat.{pow-zero, pow-le-pow_left, pow-lt-pow_left}
use native.Mathlib.Decide.{dec_le}
use lib.IntN.{zero-*ℤ, suc_ℤ-*ℤ, -ℤ-+ℤ_cancel}
use Rattle.std.specs.List.{AllByRecursion}
use Rattle.std.proofs.ByRecursion.{All-weaker}
use Rattle.std.proofs.lemmas.Int.{ints}
use Rattle.arith.specs.Sums.{total, product}
use Rattle.arith.specs.Log.{scaled_log2}
use Rattle.arith.specs.Rivals.{Piece, pooled, fit_product}
use Rattle.arith.specs.Scores.{log_term, score, Scorable, telling_power, ScoresTellProducts}
use Rattle.arith.proofs.Powers.{mul_pow, pow_mul, one_pow}
use Rattle.arith.proofs.Log.{log_is_close}

-- d times the difference of x and y
times : (d x y : ℕ) (z : ℤ) → z +ℤ pos y ≡ pos x → pos d *ℤ z +ℤ pos (d * y) ≡ pos (d * x)
times zero x y z e = rw zero-*ℤ (omega (arith, ints))
times (suc d) x y z e = omega (arith, ints, suc_ℤ-*ℤ (pos d) z, times d x y z e)

-- a score is the difference of two sums of numbers from 0 on
score_is : (K : ℕ) (bs : List Piece)
    → score K bs +ℤ pos (total (λ b. b.failures * scaled_log2 K b.exposure) bs) ≡ pos (total (λ b. b.failures * scaled_log2 K b.failures) bs)
score_is K [] = refl
score_is K (b ∷ bs) =
    joins (log_term K b.failures b.exposure) (score K bs) (b.failures * S b.failures) (b.failures * S b.exposure) _ _
    (times b.failures (S b.failures) (S b.exposure) (pos (S b.failures) -ℤ pos (S b.exposure)) (-ℤ-+ℤ_cancel (pos (S b.failures)) (pos (S b.exposure))))
    (score_is K bs)
  where
    S : ℕ → ℕ
    S n = scaled_log2 K n

    joins : (u v : ℤ) (a b c d : ℕ) → u +ℤ pos b ≡ pos a → v +ℤ pos d ≡ pos c → u +ℤ v +ℤ pos (b + d) ≡ pos (a + c)
    joins u v a b c d e f = omega (arith, ints)

-- a score that is no greater, in numbers from 0 on
lower : (s t : ℤ) (g h k l : ℕ) → s +ℤ pos g ≡ pos h → t +ℤ pos k ≡ pos l → s ≤ℤ t → h + k ≤ l + g
lower s t g h k l e f o = omega (arith, ints)

-- a power that may be 0
raised : (a b n : ℕ) → (0 < n → a ≤ b) → a ^ n ≤ b ^ n
raised a b zero h = rw (pow-zero a, pow-zero b) (le_refl 1)
raised a b (suc n) h = pow-le-pow_left (h (zero-lt-suc n)) (suc n)

-- products between powers of two, where v stands c times in the product and s is about its logarithm, times N
module _ {X : Type 0} (c v s : X → ℕ) (N : ℕ) where
  swapped : (x : X) → (v x ^ c x) ^ N ≡ (v x ^ N) ^ c x
  swapped x = sym (pow_mul (v x) (c x) N) ∙ ap (λ k. v x ^ k) (mul_comm (c x) N) ∙ pow_mul (v x) N (c x)

  from_below : (xs : List X) → AllByRecursion (λ x. 0 < c x → 2 ^ s x ≤ v x ^ N) xs → 2 ^ total (λ x. c x * s x) xs ≤ product (λ x. v x ^ c x) xs ^ N
  from_below [] h = le_of_eq (sym (one_pow N))
  from_below (x ∷ xs) h =
      rw (pow-add 2 (c x * s x), mul_pow (v x ^ c x), swapped x, mul_comm (c x) (s x), pow_mul 2 (s x) (c x))
      (mul-le-mul (raised (2 ^ s x) (v x ^ N) (c x) h.0) (from_below xs h.1))

  from_above : (xs : List X) → AllByRecursion (λ x. 0 < c x → v x ^ N ≤ 2 ^ (s x + 2)) xs → product (λ x. v x ^ c x) xs ^ N ≤ 2 ^ (total (λ x. c x * s x) xs + 2 * total c xs)
  from_above [] h = le_of_eq (one_pow N)
  from_above (x ∷ xs) h =
      rw (two_more (c x) (s x) (total (λ x. c x * s x) xs) (total c xs), pow-add 2 ((s x + 2) * c x), mul_pow (v x ^ c x), swapped x, pow_mul 2 (s x + 2) (c x))
      (mul-le-mul (raised (v x ^ N) (2 ^ (s x + 2)) (c x) h.0) (from_above xs h.1))
    where
      two_more : (c s t n : ℕ) → c * s + t + 2 * (c + n) ≡ (s + 2) * c + (t + 2 * n)
      two_more c s t n = omega arith

-- the two products of a fit, of powers of `v`
module _ (K : ℕ) (hK : K ≤ 30) (v : Piece → ℕ) where
  abbrev Sized : Piece → Type 0
  Sized b = (0 < b.failures → 0 < v b) × (v b < 2 ^ 32)

  at_least : (bs : List Piece) → AllByRecursion Sized bs → 2 ^ total (λ b. b.failures * scaled_log2 K (v b)) bs ≤ product (λ b. v b ^ b.failures) bs ^ 2 ^ K
  at_least bs h =
      from_below (λ b. b.failures) v (λ b. scaled_log2 K (v b)) (2 ^ K) bs
      (All-weaker Sized _ (λ b r some. (log_is_close K hK (v b) (r.0 some) r.1).0) bs h)

  at_most : (bs : List Piece) → AllByRecursion Sized bs
      → product (λ b. v b ^ b.failures) bs ^ 2 ^ K ≤ 2 ^ (total (λ b. b.failures * scaled_log2 K (v b)) bs + 2 * (pooled bs).failures)
  at_most bs h =
      from_above (λ b. b.failures) v (λ b. scaled_log2 K (v b)) (2 ^ K) bs
      (All-weaker Sized _ (λ b r some. le_of_lt (log_is_close K hK (v b) (r.0 some) r.1).1) bs h)

by_failures : (bs : List Piece) → AllByRecursion Scorable bs → AllByRecursion (λ b. (0 < b.failures → 0 < b.failures) × (b.failures < 2 ^ 32)) bs
by_failures = All-weaker Scorable _ (λ b h. (λ some. some, h.0))

by_exposure : (bs : List Piece) → AllByRecursion Scorable bs → AllByRecursion (λ b. (0 < b.failures → 0 < b.exposure) × (b.exposure < 2 ^ 32)) bs
by_exposure = All-weaker Scorable _ (λ b h. (λ some. h.1, h.2))

-- a fourth power that is no greater
root : (x y : ℕ) → x ^ 4 ≤ y ^ 4 → x ≤ y
root x y h = elim (dec_le x y) [ yes k ↦ k | no k ↦ absurd (not-le_of_lt (pow-lt-pow_left (lt_of_not-le k) (λ e. omega arith)) h) ]

-- the exponents of the four bounds
chained : (a b c d g h k l n N : ℕ) → h + k ≤ l + g → a ^ N ≤ 2 ^ (h + 2 * n) → b ^ N ≤ 2 ^ (k + 2 * n) → 2 ^ l ≤ c ^ N → 2 ^ g ≤ d ^ N
    → (a * b) ^ N ≤ 2 ^ (n * 4) * (c * d) ^ N
chained a b c d g h k l n N o ha hb hc hd =
    rw (mul_pow a b N, mul_pow c d N)
    (le_trans (mul-le-mul ha hb)
    (le_trans (le_of_eq (sym (pow-add 2 (h + 2 * n) (k + 2 * n))))
    (le_trans (pow_mono {i = h + 2 * n + (k + 2 * n)} {j = n * 4 + (l + g)} (omega arith))
    (le_trans (le_of_eq (pow-add 2 (n * 4) (l + g) ∙ ap (λ z. 2 ^ (n * 4) * z) (pow-add 2 l g)))
    (mul-le-mul_left (2 ^ (n * 4)) (mul-le-mul hc hd))))))

pub scores_tell_products : (K : ℕ) → 2 ≤ K → K ≤ 30 → ScoresTellProducts K
scores_tell_products K two hK best other ib io same o =
    root (x ^ P) (2 ^ n * y ^ P)
    (rw (mul_pow (2 ^ n) (y ^ P) 4, ← (pow_mul x P 4), ← (pow_mul y P 4), ← (pow_mul 2 n 4), fourth)
    (chained (above other) (below best) (above best) (below other) _ _ _ _ n (2 ^ K)
    (lower (score K other) (score K best) _ _ _ _ (score_is K other) (score_is K best) o)
    (rw (← same) at (at_most K hK (λ b. b.failures) other (by_failures other io)))
    (at_most K hK (λ b. b.exposure) best (by_exposure best ib))
    (at_least K hK (λ b. b.failures) best (by_failures best ib))
    (at_least K hK (λ b. b.exposure) other (by_exposure other io))))
  where
    above : List Piece → ℕ
    above bs = (fit_product bs).numerator

    below : List Piece → ℕ
    below bs = (fit_product bs).denominator

    P : ℕ
    P = telling_power K

    n : ℕ
    n = (pooled best).failures

    x : ℕ
    x = above other * below best

    y : ℕ
    y = above best * below other

    fourth : P * 4 ≡ 2 ^ K
    fourth = let e : K - 2 + 2 ≡ K = omega arith in sym (pow-add 2 (K - 2) 2) ∙ ap (λ k. 2 ^ k) e
