-- The logarithm by squarings is close to the true one: proofs of specs/Log.antt.
use Rattle.std.proofs.Common.{◌≡◌, ℕ, zero, suc, ◌+◌, ◌-◌, ◌*◌, ◌/◌, ◌^◌, ◌<◌, ◌≤◌, Bool, true, false, cond, ltb, sym, refl, ap, ◌∙◌, lt_of_le_of_lt, mul-le-mul_right, mul_assoc, mul_comm, div-lt_iff_lt-mul, mul-le-mul, lt_of_mul-lt-mul_right, mul-le-mul_left, mul-lt-mul_of_pos_right, pow-suc, le-div_iff_mul-le, zero-mul, mul-one, div-mul-le_self, le_of_mul-le-mul_right, arith, pow_pos, pow_mono, pow-add}
use native.Mathlib.Nat.{pow-succ', mul-lt-mul_of_pos_left, pow-le-pow_left, le_of_mul-le-mul_left, one-le-pow, lt-div-mul-add}
use lib.Count.{count_leading_zeros}
use Rattle.std.proofs.lemmas.Bool.{ltb-true, ltb-false, cond_both}
use Rattle.std.proofs.lemmas.Nat.{leading_top}
use Rattle.arith.specs.Log.{top_bit, mantissa, noted, squared, bits, scaled_log2, LogIsClose, LogValues}
use Rattle.arith.proofs.Powers.{pow_one, mul_pow, pow_mul, pow_double, tangent}

-- q is m squared and scaled back, where the bit b was noted: rounded down, and off by less than one part in H
abbrev Scaled : ℕ → ℕ → ℕ → ℕ → Type 0
Scaled H m q b = (H ≤ q) × (q < 2 * H) × (q * (H * 2 ^ b) ≤ m * m) × (m * m ≤ q * ((H + 1) * 2 ^ b))

module _ (H : ℕ) (some : 0 < H) where
  low : (m : ℕ) → H ≤ m → m * m < 2 * H * H → Scaled H m (m * m / H) 0
  low m h small =
      facts (m * m / H) ((le-div_iff_mul-le some).1 (mul-le-mul h h)) ((div-lt_iff_lt-mul some).1 small) (div-mul-le_self (m * m) H) (lt-div-mul-add some)
    where
      facts : (q : ℕ) → H ≤ q → q < 2 * H → q * H ≤ m * m → m * m < q * H + H → Scaled H m q 0
      facts q a b c d = omega arith

  high : (m : ℕ) → m < 2 * H → 2 * H * H ≤ m * m → Scaled H m (m * m / (2 * H)) 1
  high m h large =
      let twice : 0 < 2 * H = omega arith in
      let most : m * m < 2 * H * (2 * H) = lt_of_le_of_lt (mul-le-mul_left m (let k : m ≤ 2 * H = omega arith in k)) (mul-lt-mul_of_pos_right h twice) in
      facts (m * m / (2 * H)) ((le-div_iff_mul-le twice).1 (omega arith)) ((div-lt_iff_lt-mul twice).1 most) (div-mul-le_self (m * m) (2 * H)) (lt-div-mul-add twice)
    where
      facts : (q : ℕ) → H ≤ q → q < 2 * H → q * (2 * H) ≤ m * m → m * m < q * (2 * H) + 2 * H → Scaled H m q 1
      facts q a b c d = omega arith

-- what stands for 1 (shut, so that no power of it is written out)
H : ℕ
H = 2 ^ 31

HPos : 0 < H
unfolding H
HPos = omega arith

scaled : (m : ℕ) → H ≤ m → m < 2 * H → Scaled H m (squared m) (noted m)
unfolding H
scaled m h k = go (ltb (m * m) (2 ^ 63)) refl
  where
    go : (t : Bool) → ltb (m * m) (2 ^ 63) ≡ t → Scaled (2 ^ 31) m (cond t (m * m / 2 ^ 31) (m * m / 2 ^ 32)) (cond t 0 1)
    go true e = low (2 ^ 31) HPos m h (ltb-true (m * m) (2 ^ 63) e)
    go false e = high (2 ^ 31) HPos m k (ltb-false (m * m) (2 ^ 63) e)

-- one squaring, raised to the power N
module _ (H m q b c r N : ℕ) where
  -- 2 ^ ((2 b + c) N), with its parts
  parts : 2 ^ ((2 * b + c) * N) ≡ 2 ^ (b * (2 * N)) * (2 ^ c) ^ N
  parts =
      let e : (2 * b + c) * N ≡ b * (2 * N) + c * N = omega arith in
      ap (λ k. 2 ^ k) e ∙ pow-add 2 (b * (2 * N)) (c * N) ∙ ap (λ z. 2 ^ (b * (2 * N)) * z) (pow_mul 2 c N)

  lower_step : q * (H * 2 ^ c) ≤ m * m → 2 ^ r * H ^ N ≤ 2 ^ ((2 * b + c) * N) * q ^ N → 2 ^ r * H ^ (2 * N) ≤ 2 ^ (b * (2 * N)) * m ^ (2 * N)
  lower_step h ih =
      rw (pow_double H N, pow_double m N)
      (joins (2 ^ r) (H ^ N) (2 ^ (b * (2 * N))) ((2 ^ c) ^ N) (q ^ N) (m ^ N) (rw parts at ih)
      (rw (mul_pow m m N, mul_pow q (H * 2 ^ c) N, mul_pow H (2 ^ c) N) at (pow-le-pow_left h N)))
    where
      joins : (R h A P qn mn : ℕ) → R * h ≤ A * P * qn → qn * (h * P) ≤ mn * mn → R * (h * h) ≤ A * (mn * mn)
      joins R h A P qn mn f g = omega (arith, mul-le-mul_right h f, mul-le-mul_left A g)

  upper_step : m * m ≤ q * ((H + 1) * 2 ^ c) → q ^ N * 2 ^ ((2 * b + c) * N) * (H + 1) < 2 * H * 2 ^ r * (H + 1) ^ N
      → m ^ (2 * N) * 2 ^ (b * (2 * N)) * (H + 1) < 2 * H * 2 ^ r * (H + 1) ^ (2 * N)
  upper_step h ih =
      rw (pow_double (H + 1) N, pow_double m N)
      (joins (2 ^ r) ((H + 1) ^ N) (2 ^ (b * (2 * N))) ((2 ^ c) ^ N) (q ^ N) (m ^ N) (rw parts at ih)
      (rw (mul_pow m m N, mul_pow q ((H + 1) * 2 ^ c) N, mul_pow (H + 1) (2 ^ c) N) at (pow-le-pow_left h N)) (one-le-pow N (H + 1) (omega arith)))
    where
      joins : (R z A P qn mn : ℕ) → qn * (A * P) * (H + 1) < 2 * H * R * z → mn * mn ≤ qn * (z * P) → 0 < z → mn * mn * A * (H + 1) < 2 * H * R * (z * z)
      joins R z A P qn mn f g zp = omega (arith, mul-lt-mul_of_pos_right f zp, mul-le-mul_left (A * (H + 1)) g)

-- what k squarings of m, after the bits b, come to
bounds : (k m b : ℕ) → H ≤ m → m < 2 * H
    → (2 ^ bits k m b * H ^ 2 ^ k ≤ 2 ^ (b * 2 ^ k) * m ^ 2 ^ k) × (m ^ 2 ^ k * 2 ^ (b * 2 ^ k) * (H + 1) < 2 * H * 2 ^ bits k m b * (H + 1) ^ 2 ^ k)
unfolding bits
bounds zero m b h k =
    rw (pow_one H, pow_one m, pow_one (H + 1), mul-one b)
    (mul-le-mul_left (2 ^ b) h, ends (2 ^ b) (pow_pos b))
  where
    ends : (R : ℕ) → 0 < R → m * R * (H + 1) < 2 * H * R * (H + 1)
    ends R p = mul-lt-mul_of_pos_right (mul-lt-mul_of_pos_right k p) (omega arith)
bounds (suc k) m b h l =
    let s = scaled m h l in
    let ih = bounds k (squared m) (2 * b + noted m) s.0 s.1 in
    rw (pow-succ' 2 k) (
      lower_step H m (squared m) b (noted m) (bits k (squared m) (2 * b + noted m)) (2 ^ k) s.2 ih.0,
      upper_step H m (squared m) b (noted m) (bits k (squared m) (2 * b + noted m)) (2 ^ k) s.3 ih.1,
    )

-- the errors of N roundings, each of less than one part in H, come to less than double
nearly : (H N : ℕ) → 0 < H → 2 * N ≤ H → (H + 1) ^ N ≤ 2 * H ^ N
nearly H N some h =
    le_of_mul-le-mul_left {k = H}
    (joins (H ^ N) ((H + 1) ^ N) (rw (pow-suc H N, pow-suc (H + 1) N) at (tangent H (H + 1) N)))
    some
  where
    joins : (x z : ℕ) → suc N * (H * z) ≤ x * H + N * (z * (H + 1)) → H * z ≤ H * (2 * x)
    joins x z t = omega (arith, mul-le-mul_right z h)

-- from the mantissa m back to n, where e is the place of its top bit
finish : (H n m e N r : ℕ) → 0 < H → 2 * N ≤ H → m * 2 ^ e ≡ n * H
    → 2 ^ r * H ^ N ≤ 2 ^ (0 * N) * m ^ N → m ^ N * 2 ^ (0 * N) * (H + 1) < 2 * H * 2 ^ r * (H + 1) ^ N
    → (2 ^ (N * e + r) ≤ n ^ N) × (n ^ N < 2 ^ (N * e + r + 2))
finish H n m e N r some few same lo up =
    let powers : m ^ N * 2 ^ (N * e) ≡ n ^ N * H ^ N =
    ap (λ k. m ^ N * 2 ^ k) (mul_comm N e) ∙ ap (λ z. m ^ N * z) (pow_mul 2 e N) ∙ sym (mul_pow m (2 ^ e) N) ∙ ap (λ z. z ^ N) same ∙ mul_pow n H N in
    let hp : 0 < H ^ N = one-le-pow N H some in
    rw (pow-add 2 (N * e + r) 2, pow-add 2 (N * e) r) (
      below (2 ^ (N * e)) (2 ^ r) (H ^ N) (m ^ N) (n ^ N) hp powers (rw zero-mul at lo),
      above (2 ^ (N * e)) (2 ^ r) (H ^ N) (m ^ N) (n ^ N) ((H + 1) ^ N) (pow_pos (N * e)) powers (rw zero-mul at up) (nearly H N some few),
    )
  where
    below : (E R h mn nn : ℕ) → 0 < h → mn * E ≡ nn * h → R * h ≤ 1 * mn → E * R ≤ nn
    below E R h mn nn hp s l = le_of_mul-le-mul_right {k = h} (omega (arith, mul-le-mul_left E l)) hp

    above : (E R h mn nn z : ℕ) → 0 < E → mn * E ≡ nn * h → mn * 1 * (H + 1) < 2 * H * R * z → z ≤ 2 * h → nn < E * R * 4
    above E R h mn nn z ep s u near =
        lt_of_mul-lt-mul_right (h * (H + 1)) (omega (arith, ap (λ x. x * (H + 1)) s, mul-lt-mul_of_pos_left u ep, mul-le-mul_left (2 * E * R * H) near))

whole : (e : ℕ) → e ≤ 31 → 2 ^ (31 - e) * 2 ^ e ≡ H
unfolding H
whole e h = let k : 31 - e + e ≡ 31 = omega arith in sym (pow-add 2 (31 - e) e) ∙ ap (λ k. 2 ^ k) k

-- n, moved up to the top place, stands for a number from 1 up to 2
least : (n e : ℕ) → e ≤ 31 → 2 ^ e ≤ n → H ≤ n * 2 ^ (31 - e)
least n e he lo = parts (2 ^ (31 - e)) (2 ^ e) (whole e he) lo
  where
    parts : (x y : ℕ) → x * y ≡ H → y ≤ n → H ≤ n * x
    parts x y p l = omega (arith, mul-le-mul_left x l)

most : (n e : ℕ) → e ≤ 31 → n < 2 ^ suc e → n * 2 ^ (31 - e) < 2 * H
most n e he hi = parts (2 ^ (31 - e)) (2 ^ e) (pow_pos (31 - e)) (whole e he) (rw (pow-succ' 2 e) at hi)
  where
    parts : (x y : ℕ) → 0 < x → x * y ≡ H → n < 2 * y → n * x < 2 * H
    parts x y xp p u = omega (arith, mul-lt-mul_of_pos_left u xp)

few : (K : ℕ) → K ≤ 30 → 2 * 2 ^ K ≤ H
unfolding H
few K h = rw (← pow-succ' 2 K) (pow_mono {i = suc K} {j = 31} (omega arith))

close : (K n e : ℕ) → K ≤ 30 → e ≤ 31 → 2 ^ e ≤ n → n < 2 ^ suc e
    → (2 ^ (2 ^ K * e + bits K (n * 2 ^ (31 - e)) 0) ≤ n ^ 2 ^ K) × (n ^ 2 ^ K < 2 ^ (2 ^ K * e + bits K (n * 2 ^ (31 - e)) 0 + 2))
close K n e hK he lo hi = finish H n m e (2 ^ K) (bits K m 0) HPos (few K hK) same all.0 all.1
  where
    m : ℕ
    m = n * 2 ^ (31 - e)

    same : m * 2 ^ e ≡ n * H
    same = mul_assoc n (2 ^ (31 - e)) (2 ^ e) ∙ ap (λ z. n * z) (whole e he)

    all : (2 ^ bits K m 0 * H ^ 2 ^ K ≤ 2 ^ (0 * 2 ^ K) * m ^ 2 ^ K) × (m ^ 2 ^ K * 2 ^ (0 * 2 ^ K) * (H + 1) < 2 * H * 2 ^ bits K m 0 * (H + 1) ^ 2 ^ K)
    all = bounds K m 0 (least n e he lo) (most n e he hi)

pub log_is_close : (K : ℕ) → K ≤ 30 → LogIsClose K
unfolding scaled_log2
log_is_close K hK n some small =
    let t = leading_top 32 n some small in
    let e : top_bit n ≡ t.0 = omega arith in
    rw e (close K n t.0 hK (omega arith) t.2 t.3)

pub log_values : LogValues
unfolding count_leading_zeros bits scaled_log2
log_values = (refl, refl, refl, refl, refl)

-- for the loop: where it starts, and what a squaring keeps
pub mantissa_range : (n : ℕ) → 0 < n → n < 2 ^ 32 → (2 ^ 31 ≤ mantissa n) × (mantissa n < 2 ^ 32)
unfolding H
mantissa_range n some small =
    let t = leading_top 32 n some small in
    let e : top_bit n ≡ t.0 = omega arith in
    let h : t.0 ≤ 31 = omega arith in
    rw e (least n t.0 h t.2, most n t.0 h t.3)

pub squared_range : (m : ℕ) → 2 ^ 31 ≤ m → m < 2 ^ 32 → (2 ^ 31 ≤ squared m) × (squared m < 2 ^ 32)
unfolding H
squared_range m h k = let s = scaled m h k in (s.0, s.1)

pub noted_le : (m : ℕ) → noted m ≤ 1
noted_le m = cond_both (ltb (m * m) (2 ^ 63)) 0 1 (λ x. x ≤ 1) (λ e. omega arith) (λ e. omega arith)

pub bits_below : (k m b : ℕ) → bits k m b < 2 ^ k * suc b
unfolding bits
bits_below zero m b = omega arith
bits_below (suc k) m b =
    rw (pow-succ' 2 k) (go (2 ^ k) (noted m) (bits k (squared m) (2 * b + noted m)) (noted_le m) (bits_below k (squared m) (2 * b + noted m)))
  where
    go : (p q r : ℕ) → q ≤ 1 → r < p * suc (2 * b + q) → r < 2 * p * suc b
    go p q r h l =
        let few : suc (2 * b + q) ≤ 2 * b + 2 = omega arith in
        omega (arith, l, mul-le-mul_left p few)

-- a logarithm with K squarings has at most K + 5 bits
pub log_below : (K n : ℕ) → scaled_log2 K n < 2 ^ (K + 5)
unfolding scaled_log2
log_below K n = rw (pow-add 2 K 5) (go (2 ^ K) (top_bit n) (bits K (mantissa n) 0) (omega arith) (bits_below K (mantissa n) 0))
  where
    go : (p e r : ℕ) → e ≤ 31 → r < p * 1 → p * e + r < p * 32
    go p e r h l = omega (arith, mul-le-mul_left p h)
