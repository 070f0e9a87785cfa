-- What the loop of squarings keeps.
use Rattle.std.proofs.Common.{◌≡◌, ℕ, suc, ◌+◌, ◌-◌, ◌*◌, ◌^◌, ◌<◌, ◌≤◌, sym, ap, ◌∙◌, arith}
use native.Mathlib.Nat.{pow-succ'}
use Rattle.arith.specs.Log.{noted, squared, bits}
use Rattle.arith.proofs.Log.{squared_range, noted_le}

-- after i of K squarings, where `want` are the bits of all of them
abbrev pub Kept : ℕ → ℕ → ℕ → ℕ → ℕ → Type 0
Kept K want i m b = (2 ^ 31 ≤ m) × (m < 2 ^ 32) × (b < 2 ^ i) × (bits (K - i) m b ≡ want)

pub kept_start : (K m : ℕ) → 2 ^ 31 ≤ m → m < 2 ^ 32 → Kept K (bits K m 0) 0 m 0
kept_start K m h k = (h, k, omega arith, let e : K - 0 ≡ K = omega arith in ap (λ x. bits x m 0) e)

pub kept_more : (K want i m b m' b' : ℕ) → i < K → Kept K want i m b → m' ≡ squared m → b' ≡ 2 * b + noted m → Kept K want (i + 1) m' b'
unfolding bits
kept_more K want i m b m' b' l k em eb =
    let r = squared_range m k.0 k.1 in
    let s : K - i ≡ suc (K - (i + 1)) = omega arith in
    let e : i + 1 ≡ suc i = omega arith in
    let p : 2 ^ (i + 1) ≡ 2 * 2 ^ i = ap (λ x. 2 ^ x) e ∙ pow-succ' 2 i in
    let q = k.2 in
    rw (em, eb) (r.0, r.1, rw p (omega (arith, noted_le m)), ap (λ x. bits x m b) (sym s) ∙ k.3)

pub kept_all : (K want i m b : ℕ) → K ≤ i → Kept K want i m b → b ≡ want
unfolding bits
kept_all K want i m b h k = let z : K - i ≡ 0 = omega arith in ap (λ x. bits x m b) (sym z) ∙ k.3
