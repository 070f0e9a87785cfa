-- The base-2 logarithm of a whole number, in whole numbers: about log2(n) times 2 ^ K, worked out by K squarings.
use Rattle.std.specs.Prelude.{◌≡◌, ℕ, zero, suc, ◌+◌, ◌-◌, ◌*◌, ◌/◌, ◌^◌, ◌<◌, ◌≤◌, cond, nat_lt}
use Rattle.std.specs.Int.Count.{count_leading_zeros}

-- How often the scores square, which is how many binary digits they keep after the point.
abbrev pub squarings : ℕ
squarings = 16

-- The place of the top bit of a number of 32 bits, counted from 0; for the number 0 it is 0.
abbrev pub top_bit : ℕ → ℕ
top_bit n = 31 - count_leading_zeros 32 n

-- n moved up until its top bit stands at the place 31.
abbrev pub mantissa : ℕ → ℕ
mantissa n = n * 2 ^ (31 - top_bit n)

-- One squaring of m, which stands for m / 2 ^ 31, from 1 up to 2. If the square is at least 2 ^ 63, so that it stands for 2 or more,
-- bit 1 is noted and the square divided by 2 ^ 32, else bit 0 and by 2 ^ 31, rounded down.
abbrev pub noted : ℕ → ℕ
noted m = cond (nat_lt (m * m) (2 ^ 63)) 0 1

abbrev pub squared : ℕ → ℕ
squared m = cond (nat_lt (m * m) (2 ^ 63)) (m * m / 2 ^ 31) (m * m / 2 ^ 32)

-- The bits of k squarings of m, read after the bits b as one number, the first bit highest.
-- (Shut, since at a numeral k it would be written out in full.)
unfoldable pub bits : ℕ → ℕ → ℕ → ℕ
bits zero m b = b
bits (suc k) m b = bits k (squared m) (2 * b + noted m)

-- The logarithm with K squarings: 2 ^ K times the place of the top bit, plus the bits. At n = 0 this is 0.
unfoldable pub scaled_log2 : ℕ → ℕ → ℕ
scaled_log2 K n = 2 ^ K * top_bit n + bits K (mantissa n) 0

-- The logarithm that scores are made of.
abbrev pub S : ℕ → ℕ
S n = scaled_log2 squarings n

-- For every n of 32 bits but 0, 2 ^ K times the logarithm of n is at least the value, and less than 2 above it.
abbrev pub LogIsClose : ℕ → Type 0
LogIsClose K =
    (n : ℕ) → 0 < n → n < 2 ^ 32
    → (2 ^ scaled_log2 K n ≤ n ^ 2 ^ K) × (n ^ 2 ^ K < 2 ^ (scaled_log2 K n + 2))

-- Some values: with the squarings of the scores, and with 20 squarings.
abbrev pub LogValues : Type 0
LogValues = (S 0 ≡ 0) × (S 1 ≡ 0) × (S 2 ≡ 65536) × (S 3 ≡ 103872) × (scaled_log2 20 3 ≡ 1661953)
