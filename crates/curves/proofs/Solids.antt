-- Two neighbouring runs of pieces, pooled where the second is no slower, hold together.
use Rattle.std.proofs.Common.{◌≡◌, ℕ, zero, suc, ◌+◌, ◌-◌, ◌*◌, ◌<◌, ◌≤◌, List, [], ◌∷◌, ◌++◌, length, take, drop, sym, ap, ◌∙◌, inl, inr, mul-le-mul_right, le_of_mul-le-mul_right, arith}
use mathlib.Core.List.{reverse-append}
use Rattle.std.proofs.Math.Seq.{take-append-add}
use Rattle.std.proofs.lemmas.List.{take-append-drop, take-append-le}
use Rattle.std.proofs.lemmas.Bool.{cases_lt}
use Rattle.arith.specs.Rivals.{Piece, pooled, NoFaster, Direction, falling, rising, along, Solid}
use Rattle.arith.specs.Sums.{total}
use Rattle.arith.proofs.Sums.{total_append, total_reverse}

-- a front of the first run is no faster than both: d / t ≤ a / s ≤ b / u
front_slow : (d t a s b u : ℕ) → 0 < s → d * s ≤ a * t → a * u ≤ b * s → d * (s + u) ≤ (a + b) * t
front_slow d t a s b u some h k =
    let e : d * u ≤ b * t = le_of_mul-le-mul_right {k = s} (omega (arith, mul-le-mul_right u h, mul-le-mul_right t k)) some in
    omega (arith, h, e)

-- the first run with a front d / t of the second, which d + e over t + v is
both_slow : (a s d t e v : ℕ) → 0 < t + v → d * (t + v) ≤ (d + e) * t → a * (t + v) ≤ (d + e) * s → (a + d) * (s + (t + v)) ≤ (a + (d + e)) * (s + t)
both_slow a s d t e v some h k =
    let f : d * v ≤ e * t = omega (arith, h) in
    let g : a * v ≤ e * s = le_of_mul-le-mul_right {k = t + v} (omega (arith, mul-le-mul_right v k, mul-le-mul_right s f)) some in
    omega (arith, f, g)

split : (g : Piece → ℕ) (m : ℕ) (ys : List Piece) → total g ys ≡ total g (take m ys) + total g (drop m ys)
split g m ys = ap (total g) (sym (take-append-drop m ys)) ∙ total_append g (take m ys) (drop m ys)

solid_append : (xs ys : List Piece) → 0 < (pooled xs).exposure → 0 < (pooled ys).exposure → Solid xs → Solid ys → NoFaster (pooled xs) (pooled ys) → Solid (xs ++ ys)
solid_append xs ys p q sx sy slow k =
    rw (total_append (λ x. x.failures) xs ys, total_append (λ x. x.exposure) xs ys)
    (elim (cases_lt k (length xs)) [
      | inl l ↦ rw (take-append-le k xs ys (omega arith))
          (front_slow (pooled (take k xs)).failures (pooled (take k xs)).exposure (pooled xs).failures (pooled xs).exposure (pooled ys).failures (pooled ys).exposure p (sx k) slow)
      | inr l ↦
          let m = k - length xs in
          let reach : k ≡ length xs + m = omega arith in
          rw (reach, take-append-add xs ys m, total_append (λ x. x.failures) xs (take m ys), total_append (λ x. x.exposure) xs (take m ys))
          (second m)
    ])
  where
    second : (m : ℕ) → ((pooled xs).failures + (pooled (take m ys)).failures) * ((pooled xs).exposure + (pooled ys).exposure) ≤ ((pooled xs).failures + (pooled ys).failures) * ((pooled xs).exposure + (pooled (take m ys)).exposure)
    second m =
        rw (split (λ x. x.failures) m ys, split (λ x. x.exposure) m ys)
        (both_slow (pooled xs).failures (pooled xs).exposure (pooled (take m ys)).failures (pooled (take m ys)).exposure (pooled (drop m ys)).failures (pooled (drop m ys)).exposure
        (rw (split (λ x. x.exposure) m ys) at q)
        (rw (split (λ x. x.failures) m ys, split (λ x. x.exposure) m ys) at (sy m))
        (rw (split (λ x. x.failures) m ys, split (λ x. x.exposure) m ys) at slow))

-- what pooling asks of two neighbours: along the direction, the one that comes first is no faster
abbrev pub Pools : Direction → Piece → Piece → Type 0
Pools falling x y = NoFaster x y
Pools rising x y = NoFaster y x

pub solid_joined : (direction : Direction) (xs ys : List Piece) → 0 < (pooled xs).exposure → 0 < (pooled ys).exposure
    → Solid (along direction xs) → Solid (along direction ys) → Pools direction (pooled xs) (pooled ys) → Solid (along direction (xs ++ ys))
solid_joined falling xs ys p q sx sy slow = solid_append xs ys p q sx sy slow
solid_joined rising xs ys p q sx sy slow =
    rw (reverse-append xs ys)
    (solid_append (along rising ys) (along rising xs) (rw (total_reverse (λ x. x.exposure) ys) q) (rw (total_reverse (λ x. x.exposure) xs) p) sy sx
    (rw (total_reverse (λ x. x.failures) ys, total_reverse (λ x. x.exposure) xs, total_reverse (λ x. x.failures) xs, total_reverse (λ x. x.exposure) ys) slow))

pub solid_one : (direction : Direction) (p : Piece) → Solid (along direction (p ∷ []))
solid_one falling p zero = omega arith
solid_one falling p (suc zero) = omega arith
solid_one falling p (suc (suc k)) = omega arith
solid_one rising p zero = omega arith
solid_one rising p (suc zero) = omega arith
solid_one rising p (suc (suc k)) = omega arith
