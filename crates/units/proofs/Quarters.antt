-- Four times a number of hours in range is exact, and the tests of the code say what `IsTicks` says.
use Rattle.std.proofs.Common.{◌≡◌, ℕ, zero, suc, ◌+◌, ◌-◌, ◌*◌, ◌/◌, ◌%◌, ◌^◌, ◌<◌, ◌≤◌, Bool, true, false, ◌&&◌, ◌||◌, T, eqb, ltb, leb, ◌⊎◌, ℤ, pos, negsuc, sym, refl, ap, ◌∙◌, subst, inl, inr, true≢false, le_trans, le_of_eq, le_of_suc-le-suc, lt_of_le_of_lt, mul-le-mul_right, zero-lt-suc, mul_assoc, mul_comm, eq-or-lt_of_le, mul-pos, one-mul, lt_of_not-le, zero-mul, mul-one, mul_right_comm, not-le_of_lt, le_of_mul-le-mul_right, mul-div_cancel, mul_left_comm, arith, lit<, lit≤, le→leb, eqb→eq, ltb→lt, lt→ltb, leb→le, pow-add}
use mathlib.Core.Bool.{beq}
use native.Mathlib.Nat.{eq_of_mul-eq-mul_right, mul-mod_left, div-le_of_le-mul}
use lib.Pow.{pow-lt}
use lib.Ieee.{Float, nan, inf, fin, binary64, up, down, round, mul, to_unsigned, in_unsigned, whole, fits, eq, le, level, of_bits}
use lib.Ieee.Exact.{HasValue, round_exact}
use lib.Ieee.Back.{round_whole}
use lib.Ieee.Fits.{and_i, and_l, and_r, up_pos, down_pos, eq→eqb}
use Rattle.std.specs.Float.{trunc, round_with}
use Rattle.std.proofs.lemmas.Bool.{and_parts}
use Rattle.units.specs.Hours.{IsTicks, four_times, hours_in_range, equals_zero, equals_cut}

-- ---- the numbers that the source writes
abbrev none : Float
none = fin false 0 (pos 0)

abbrev last : Float
last = fin false 2097151 (negsuc 1)

abbrev four : Float
four = fin false 1 (pos 2)

none_is : of_bits binary64 0 ≡ none
unfolding of_bits
none_is = refl

last_is : of_bits binary64 4692750807425089536 ≡ last
unfolding of_bits
last_is = refl

four_is : of_bits binary64 4616189618054758400 ≡ four
unfolding of_bits
four_is = refl

-- ---- what a value of the format is
down_one : (e : ℤ) → up e * down e ≡ 1 → down e ≤ 2 ^ 1074
down_one (pos k) h = lit≤ tt
down_one (negsuc k) h = le_trans (le_of_eq (sym (one-mul (2 ^ suc k)) ∙ h)) (lit≤ tt)

held : (s : Bool) (m : ℕ) (e : ℤ) → T (fits binary64 (fin s m e)) → (m < 2 ^ 53) × (down e ≤ 2 ^ 1074)
unfolding fits
held s zero e t = (lit< tt, down_one e (eqb→eq (up e * down e) 1 t))
held s (suc m) e t =
    let a : Bool = eqb (suc m % 2) 1 in
    let b : Bool = ltb (suc m) (2 ^ 53) in
    let c : Bool = leb (down e) (2 ^ 1074) in
    let d : Bool = ltb (suc m * up e) (2 ^ 1024 * down e) in
    let abc : T (a && b && c) = and_l (a && b && c) d t in
    (ltb→lt (suc m) (2 ^ 53) (and_r a b (and_l (a && b) c abc)), leb→le (down e) (2 ^ 1074) (and_r (a && b) c abc))

-- ---- four times a value in range is exact
rising : (m k : ℕ) → m * 2 ^ k * 4 * 2 ^ 1074 ≡ m * 2 ^ (k + 1076) * 1
rising m k = ap (λ (x : ℕ). x) (simp (mul_assoc, pow-add, mul-one))

falling : (m k : ℕ) → k ≤ 1074 → m * 1 * 4 * 2 ^ 1074 ≡ m * 2 ^ (1076 - k) * 2 ^ k
falling m k h =
    let e : 1076 - k + k ≡ 1076 = omega arith in
    let p : 2 ^ (1076 - k) * 2 ^ k ≡ 2 ^ 1076 = sym (pow-add 2 (1076 - k) k) ∙ ap (λ (x : ℕ). 2 ^ x) e in
    ap (λ (x : ℕ). x * 4 * 2 ^ 1074) (mul-one m) ∙ mul_assoc m 4 (2 ^ 1074) ∙ ap (λ (x : ℕ). m * x) (sym p) ∙ sym (mul_assoc m (2 ^ (1076 - k)) (2 ^ k))

expo : (k : ℕ) → 2 ^ k ≤ 2 ^ 1074 → k ≤ 1074
expo k h = le_of_suc-le-suc (lt_of_not-le (λ (g : 1075 ≤ k). not-le_of_lt (pow-lt g) h))

-- how far a significand is moved
moved : (m : ℕ) (e : ℤ) → down e ≤ 2 ^ 1074 → (j : ℕ) × (m * up e * 4 * 2 ^ 1074 ≡ m * 2 ^ j * down e)
moved m (pos k) h = (k + 1076, rising m k)
moved m (negsuc k) h = (1076 - suc k, falling m (suc k) (expo (suc k) h))

room : (a b d : ℕ) → 0 < d → a * 2 ^ 1074 ≡ b * d → a ≤ 2097151 * d → b < 2 ^ 2098
room a b d D e h =
    let g : b * d ≤ 2097151 * 2 ^ 1074 * d = le_trans (le_of_eq (sym e)) (le_trans (mul-le-mul_right (2 ^ 1074) h) (le_of_eq (mul_right_comm 2097151 d (2 ^ 1074)))) in
    lt_of_le_of_lt (le_of_mul-le-mul_right g D) (lit< tt)

rounded : (s : Bool) (m : ℕ) (e : ℤ) → T (fits binary64 (fin s m e)) → m * up e * 4 ≤ 2097151 * down e → HasValue (round binary64 s (m * up e * 4) (down e * 1)) s (m * up e * 4) (down e)
rounded s m e t h =
    let f = held s m e t in
    let j = moved m e f.1 in
    rw mul-one (round_exact binary64 s (m * up e * 4) (down e) m j.0 (down_pos e) f.0 (room (m * up e * 4) (m * 2 ^ j.0) (down e) (down_pos e) j.1 h) j.1)

quarters : (s : Bool) (m : ℕ) (e : ℤ) → T (fits binary64 (fin s m e)) → m * up e * 4 ≤ 2097151 * down e → HasValue (mul binary64 (fin s m e) four) s (m * up e * 4) (down e)
unfolding mul
quarters true m e t h = rounded true m e t h
quarters false m e t h = rounded false m e t h

-- ---- a whole number beside a value, by `==`
cross : (U V D E t a c : ℕ) → 0 < D → 0 < E → U * 1 ≡ t * D → V * c ≡ a * E → U * E ≡ V * D → a ≡ t * c
cross U V D E t a c d e p q h =
    let p' : U ≡ t * D = sym (mul-one U) ∙ p in
    let l : a * (E * D) ≡ V * D * c = sym (mul_assoc a E D) ∙ ap (λ (x : ℕ). x * D) (sym q) ∙ mul_right_comm V c D in
    let r : V * D * c ≡ t * c * (E * D) = ap (λ (x : ℕ). x * c) (sym h ∙ ap (λ (x : ℕ). x * E) p') ∙ simp (mul_assoc, mul_comm, mul_left_comm) in
    eq_of_mul-eq-mul_right (E * D) (mul-pos e d) a (t * c) (l ∙ r)

apart : (U V D E t c : ℕ) → 0 < c → U * 1 ≡ t * D → V * c ≡ t * c * E → (V ≡ t * E) × (U * E ≡ V * D)
apart U V D E t c C p q =
    let v : V ≡ t * E = eq_of_mul-eq-mul_right c C V (t * E) (q ∙ mul_right_comm t c E) in
    let u : U ≡ t * D = sym (mul-one U) ∙ p in
    (v, ap (λ (x : ℕ). x * E) u ∙ mul_right_comm t D E ∙ ap (λ (x : ℕ). x * D) (sym v))

eq_sound : (x y : Float) (t : ℕ) (s : Bool) (a c : ℕ) → HasValue x false t 1 → HasValue y s a c → T (eq x y) → a ≡ t * c
unfolding eq
eq_sound nan y t s a c p q h = absurd p
eq_sound (inf r) y t s a c p q h = absurd p
eq_sound (fin r n d) nan t s a c p q h = absurd q
eq_sound (fin r n d) (inf r') t s a c p q h = absurd q
eq_sound (fin r n d) (fin r' n' d') t s a c p q h =
    cross (n * up d) (n' * up d') (down d) (down d') t a c (down_pos d) (down_pos d') p.1 q.1
    (eqb→eq (n * up d * down d') (n' * up d' * down d) (and_l (eqb (n * up d * down d') (n' * up d' * down d)) (beq r r' || eqb (n * up d * down d') 0) h))

signs : (r' : Bool) (z : ℕ) → (r' ≡ false) ⊎ (z ≡ 0) → T (beq false r' || eqb z 0)
signs false z k = tt
signs true z (inl e) = absurd (true≢false e)
signs true z (inr e) = eq→eqb e

eq_complete : (x y : Float) (t : ℕ) (s : Bool) (c : ℕ) → 0 < c → HasValue x false t 1 → HasValue y s (t * c) c → (s ≡ false) ⊎ (t ≡ 0) → T (eq x y)
unfolding eq
eq_complete nan y t s c C p q k = absurd p
eq_complete (inf r) y t s c C p q k = absurd p
eq_complete (fin r n d) nan t s c C p q k = absurd q
eq_complete (fin r n d) (inf r') t s c C p q k = absurd q
eq_complete (fin true n d) (fin r' n' d') t s c C p q k = absurd (true≢false p.0)
eq_complete (fin false n d) (fin r' n' d') t s c C p q k =
    let f = apart (n * up d) (n' * up d') (down d) (down d') t c C p.1 q.1 in
    let z : (r' ≡ false) ⊎ (n * up d * down d' ≡ 0) = elim k [ inl e ↦ inl (q.0 ∙ e) | inr e ↦ inr (ap (λ (x : ℕ). x * down d') (sym (mul-one (n * up d)) ∙ p.1 ∙ ap (λ (x : ℕ). x * down d) e ∙ zero-mul (down d)) ∙ zero-mul (down d')) ] in
    and_i (eqb (n * up d * down d') (n' * up d' * down d)) (beq false r' || eqb (n * up d * down d') 0) (eq→eqb f.1) (signs r' (n * up d * down d') z)

-- ---- the range, by `<=`
abbrev InRange : Float → Type 0
InRange nan = ⊥
InRange (inf s) = ⊥
InRange (fin s m e) = (m * up e * 4 ≤ 2097151 * down e) × ((s ≡ false) ⊎ (m ≡ 0))

or_l : (a b : Bool) → T a → T (a || b)
or_l true b t = tt
or_l false b t = absurd t

or_r : (a b : Bool) → T b → T (a || b)
or_r true b t = tt
or_r false b t = t

or_cases : (a b : Bool) → T (a || b) → T a ⊎ T b
or_cases true b t = inl tt
or_cases false b t = inr t

le_of : (a b : ℕ) (z : Bool) → T (ltb a b || (eqb a b && z)) → a ≤ b
le_of a b z t = elim (or_cases (ltb a b) (eqb a b && z) t) [ inl h ↦ let k = ltb→lt a b h in omega arith | inr h ↦ le_of_eq (eqb→eq a b (and_l (eqb a b) z h)) ]

of_le : (a b : ℕ) → a ≤ b → T (ltb a b || (eqb a b && true))
of_le a b h = elim (eq-or-lt_of_le h) [ inl p ↦ or_r (ltb a b) (eqb a b && true) (and_i (eqb a b) true (eq→eqb p) tt) | inr q ↦ or_l (ltb a b) (eqb a b && true) (lt→ltb a b q) ]

no_size : (m u z : ℕ) → 0 < u → 0 * z ≡ m * u * 1 → m ≡ 0
no_size zero u z h e = refl
no_size (suc m) u z h e = let p = mul-pos (zero-lt-suc m) h in absurd (omega arith)

in_range : (x : Float) → T (le none x) → T (le x last) → InRange x
unfolding le
in_range nan a b = absurd a
in_range (inf true) a b = absurd a
in_range (inf false) a b = absurd b
in_range (fin false m e) a b = (le_of (m * up e * 4) (2097151 * down e) true b, inl refl)
in_range (fin true m e) a b =
    let z : m ≡ 0 = no_size m (up e) (down e) (up_pos e) (eqb→eq (0 * down e) (m * up e * 1) (and_l (eqb (0 * down e) (m * up e * 1)) (eqb (0 * down e) 0) a)) in
    (le_trans (le_of_eq (ap (λ (x : ℕ). x * up e * 4) z ∙ ap (λ (x : ℕ). x * 4) (zero-mul (up e)))) (omega arith), inr z)

range_low : (x : Float) → InRange x → T (le none x)
unfolding le
range_low nan r = absurd r
range_low (inf s) r = absurd r
range_low (fin false m e) r = of_le (0 * down e) (m * up e * 1) (omega arith)
range_low (fin true m e) (a, inl f) = absurd (true≢false f)
range_low (fin true m e) (a, inr z) =
    and_i (eqb (0 * down e) (m * up e * 1)) (eqb (0 * down e) 0)
    (eq→eqb (zero-mul (down e) ∙ sym (mul-one (m * up e) ∙ ap (λ (x : ℕ). x * up e) z ∙ zero-mul (up e)))) (eq→eqb (zero-mul (down e)))

range_high : (x : Float) → InRange x → T (le x last)
unfolding le
range_high nan r = absurd r
range_high (inf s) r = absurd r
range_high (fin false m e) r = of_le (m * up e * 4) (2097151 * down e) r.0
range_high (fin true m e) r =
    let d = down_pos e in
    or_l (ltb 0 (m * up e * 4 + 2097151 * down e)) (level true (m * up e * 4) false (2097151 * down e)) (lt→ltb 0 (m * up e * 4 + 2097151 * down e) (omega arith))

-- ---- what the code found, and what it would have found
ticks_in_range : (x : Float) (t : ℕ) → IsTicks x t → InRange x
ticks_in_range nan t k = absurd k
ticks_in_range (inf s) t k = absurd k
ticks_in_range (fin s m e) t k = (le_trans (le_of_eq k.0) (mul-le-mul_right (down e) k.2), k.1)

-- ---- 0.0 and minus zero
no_factor : (a b : ℕ) → 0 < b → a * b ≡ 0 → a ≡ 0
no_factor zero b h e = refl
no_factor (suc a) b h e = let p = mul-pos (zero-lt-suc a) h in absurd (omega arith)

-- a value of size 0 is equal to 0.0, and no other is
zero_equal : (y : Float) (s : Bool) (a c : ℕ) → 0 < c → HasValue y s a c → a ≡ 0 → T (eq y none)
unfolding eq
zero_equal nan s a c C q z = absurd q
zero_equal (inf r) s a c C q z = absurd q
zero_equal (fin r n d) s a c C q z =
    let n0 : n * up d ≡ 0 = no_factor (n * up d) c C (q.1 ∙ ap (λ (x : ℕ). x * down d) z ∙ zero-mul (down d)) in
    let n1 : n * up d * 1 ≡ 0 = mul-one (n * up d) ∙ n0 in
    and_i (eqb (n * up d * 1) (0 * down d)) (beq r false || eqb (n * up d * 1) 0) (eq→eqb (n1 ∙ sym (zero-mul (down d)))) (or_r (beq r false) (eqb (n * up d * 1) 0) (eq→eqb n1))

equal_zero : (y : Float) (s : Bool) (a c : ℕ) → HasValue y s a c → T (eq y none) → a ≡ 0
unfolding eq
equal_zero nan s a c q t = absurd q
equal_zero (inf r) s a c q t = absurd q
equal_zero (fin r n d) s a c q t =
    let n1 : n * up d * 1 ≡ 0 * down d = eqb→eq (n * up d * 1) (0 * down d) (and_l (eqb (n * up d * 1) (0 * down d)) (beq r false || eqb (n * up d * 1) 0) t) in
    let n0 : n * up d ≡ 0 = sym (mul-one (n * up d)) ∙ n1 ∙ zero-mul (down d) in
    no_factor a (down d) (down_pos d) (sym q.1 ∙ ap (λ (x : ℕ). x * c) n0 ∙ zero-mul c)

-- the test for 0.0 passed: no tick
zero_ticks : (x : Float) → T (fits binary64 x) → InRange x → T (eq (mul binary64 x four) none) → IsTicks x 0
zero_ticks nan f r h = absurd r
zero_ticks (inf s) f r h = absurd r
zero_ticks (fin s m e) f r h =
    let a0 = equal_zero (mul binary64 (fin s m e) four) s (m * up e * 4) (down e) (quarters s m e f r.0) h in
    (a0 ∙ sym (zero-mul (down e)), r.1, omega arith)

-- ---- the test for a whole number, past 0.0
-- a product past 0.0, with its sign and its size
record Product (m : ℕ) (e : ℤ) (y : Float) : Type 0 where
  n : ℕ
  d : ℤ
  is : y ≡ fin false n d
  size : n * up d * down e ≡ m * up e * 4 * down d

taken_apart : (m : ℕ) (e : ℤ) (y : Float) → HasValue y false (m * up e * 4) (down e) → Product m e y
taken_apart m e nan q = absurd q
taken_apart m e (inf r) q = absurd q
taken_apart m e (fin true n d) q = absurd (true≢false q.0)
taken_apart m e (fin false n d) q = record { n = n; d = d; is = refl; size = q.1 }

past_zero : (s : Bool) (m : ℕ) (e : ℤ) → T (fits binary64 (fin s m e)) → InRange (fin s m e) → (T (eq (mul binary64 (fin s m e) four) none) → ⊥) → (s ≡ false) × Product m e (mul binary64 (fin s m e) four)
past_zero false m e f r h = (refl, taken_apart m e (mul binary64 (fin false m e) four) (quarters false m e f r.0))
past_zero true m e f (r, inl p) h = absurd (true≢false p)
past_zero true m e f (r, inr z) h =
    absurd (h (zero_equal (mul binary64 (fin true m e) four) true (m * up e * 4) (down e) (down_pos e) (quarters true m e f r) (ap (λ (x : ℕ). x * up e * 4) z ∙ ap (λ (x : ℕ). x * 4) (zero-mul (up e)))))

-- the whole part of a product in range
part_in_range : (u v d c a : ℕ) → 0 < c → u * c ≡ a * d → a ≤ 2097151 * c → v ≡ u / d → v ≤ 2097151
part_in_range u v d c a C h r e =
    let g : u * c ≤ 2097151 * d * c = le_trans (le_of_eq h) (le_trans (mul-le-mul_right d r) (le_of_eq (mul_right_comm 2097151 c d))) in
    let k : u ≤ d * 2097151 = le_trans (le_of_mul-le-mul_right g C) (le_of_eq (mul_comm 2097151 d)) in
    subst (λ (x : ℕ). x ≤ 2097151) (sym e) (div-le_of_le-mul d k)

-- a whole number t is cut to itself, and the cast takes it
cast_takes : (n : ℕ) (d : ℤ) (t : ℕ) → n * up d ≡ t * down d → t ≤ 2097151 → T (in_unsigned binary64 32 (fin false n d)) × (to_unsigned 32 (fin false n d) ≡ t)
unfolding in_unsigned to_unsigned whole
cast_takes n d t h b =
    let cut : n * up d / down d ≡ t = ap (λ (x : ℕ). x / down d) h ∙ mul-div_cancel t (down_pos d) in
    let rest : n * up d % down d ≡ 0 = ap (λ (x : ℕ). x % down d) h ∙ mul-mod_left t (down d) in
    let low : T (leb (n * up d / down d) (2 ^ 53)) = le→leb (n * up d / down d) (2 ^ 53) (omega arith) in
    let high : T (ltb (n * up d / down d) (2 ^ 32)) = lt→ltb (n * up d / down d) (2 ^ 32) (omega arith) in (
      and_i (eqb (n * up d % down d) 0 && leb (n * up d / down d) (2 ^ 53) && true) (ltb (n * up d / down d) (2 ^ 32))
          (and_i (eqb (n * up d % down d) 0 && leb (n * up d / down d) (2 ^ 53)) true
          (and_i (eqb (n * up d % down d) 0) (leb (n * up d / down d) (2 ^ 53)) (eq→eqb rest) low) tt) high,
      omega arith,
    )

-- what the test for a whole number compares
cut_value : (n : ℕ) (d : ℤ) → n * up d / down d ≤ 2097151 → HasValue (trunc binary64 (fin false n d)) false (n * up d / down d) 1
unfolding round_with
cut_value n d h = round_whole binary64 false (n * up d / down d) (omega arith)

-- the test for a whole number passed: the cast loses nothing, and answers the ticks
whole_ticks : (x : Float) → T (fits binary64 x) → InRange x → (T (eq (mul binary64 x four) none) → ⊥) → T (eq (trunc binary64 (mul binary64 x four)) (mul binary64 x four)) → T (in_unsigned binary64 32 (mul binary64 x four)) × IsTicks x (to_unsigned 32 (mul binary64 x four))
whole_ticks nan f r h t = absurd r
whole_ticks (inf s) f r h t = absurd r
whole_ticks (fin s m e) f r h t = found (past_zero s m e f r h)
  where
    found : (s ≡ false) × Product m e (mul binary64 (fin s m e) four) → T (in_unsigned binary64 32 (mul binary64 (fin s m e) four)) × IsTicks (fin s m e) (to_unsigned 32 (mul binary64 (fin s m e) four))
    found (plus, y) =
        let n = y.n in
        let d = y.d in
        let v = n * up d / down d in
        let b : v ≤ 2097151 = part_in_range (n * up d) v (down d) (down e) (m * up e * 4) (down_pos e) y.size r.0 refl in
        let a : m * up e * 4 ≡ v * down e = eq_sound (trunc binary64 (fin false n d)) (fin false n d) v false (m * up e * 4) (down e) (cut_value n d b) (refl, y.size) (subst (λ (z : Float). T (eq (trunc binary64 z) z)) y.is t) in
        let u : n * up d ≡ v * down d = eq_of_mul-eq-mul_right (down e) (down_pos e) (n * up d) (v * down d) (y.size ∙ ap (λ (z : ℕ). z * down d) a ∙ mul_right_comm v (down e) (down d)) in
        let k = cast_takes n d v u b in (
          subst (λ (z : Float). T (in_unsigned binary64 32 z)) (sym y.is) k.0,
          subst (λ (z : ℕ). IsTicks (fin s m e) z) (sym k.1 ∙ ap (to_unsigned 32) (sym y.is)) (a, inl plus, b),
        )

-- hours that are ticks pass the test
ticks_whole : (x : Float) (t : ℕ) → T (fits binary64 x) → IsTicks x t → (T (eq (mul binary64 x four) none) → ⊥) → T (eq (trunc binary64 (mul binary64 x four)) (mul binary64 x four))
ticks_whole nan t f k h = absurd k
ticks_whole (inf s) t f k h = absurd k
ticks_whole (fin s m e) t f k h = found (past_zero s m e f (ticks_in_range (fin s m e) t k) h)
  where
    found : (s ≡ false) × Product m e (mul binary64 (fin s m e) four) → T (eq (trunc binary64 (mul binary64 (fin s m e) four)) (mul binary64 (fin s m e) four))
    found (plus, y) =
        let n = y.n in
        let d = y.d in
        let u : n * up d ≡ t * down d = eq_of_mul-eq-mul_right (down e) (down_pos e) (n * up d) (t * down d) (y.size ∙ ap (λ (z : ℕ). z * down d) k.0 ∙ mul_right_comm t (down e) (down d)) in
        let v : n * up d / down d ≡ t = ap (λ (z : ℕ). z / down d) u ∙ mul-div_cancel t (down_pos d) in
        let b : n * up d / down d ≤ 2097151 = subst (λ (z : ℕ). z ≤ 2097151) (sym v) k.2 in
        let c : HasValue (trunc binary64 (fin false n d)) false t 1 = subst (λ (z : ℕ). HasValue (trunc binary64 (fin false n d)) false z 1) v (cut_value n d b) in
        let q : HasValue (fin false n d) false (t * down d) (down d) = (refl, ap (λ (z : ℕ). z * down d) u) in
        subst (λ (z : Float). T (eq (trunc binary64 z) z)) (sym y.is) (eq_complete (trunc binary64 (fin false n d)) (fin false n d) t false (down d) (down_pos d) c q (inl refl))

-- ---- the tests of the code
holds : {b : Bool} → b ≡ true → T b
holds e = subst T (sym e) tt

fails : {b : Bool} → b ≡ false → T b → ⊥
fails e t = subst T e t

ranged : (x : Float) → true ≡ hours_in_range x → InRange x
ranged x e =
    let p = and_parts (le (of_bits binary64 0) x) (le x (of_bits binary64 0x411f_ffff_0000_0000)) (sym e) in
    in_range x (holds (rw none_is at p.0)) (holds (rw last_is at p.1))

pub out_of_range : (x : Float) → false ≡ hours_in_range x → (t : ℕ) → IsTicks x t → ⊥
out_of_range x e t k =
    let r = ticks_in_range x t k in
    let low : T (le (of_bits binary64 0) x) = rw none_is (range_low x r) in
    let high : T (le x (of_bits binary64 0x411f_ffff_0000_0000)) = rw last_is (range_high x r) in
    fails (sym e) (and_i (le (of_bits binary64 0) x) (le x (of_bits binary64 0x411f_ffff_0000_0000)) low high)

product : (x q : Float) → q ≡ four_times x → q ≡ mul binary64 x four
product x q e = e ∙ ap (mul binary64 x) four_is

zero_test : (x q : Float) → q ≡ four_times x → equals_zero q ≡ eq (mul binary64 x four) none
zero_test x q e = ap (eq q) none_is ∙ ap (λ z. eq z none) (product x q e)

cut_test : (x q : Float) → q ≡ four_times x → equals_cut q ≡ eq (trunc binary64 (mul binary64 x four)) (mul binary64 x four)
cut_test x q e = ap equals_cut (product x q e)

-- no ticks at 0.0
pub zero_found : (x q : Float) → T (fits binary64 x) → q ≡ four_times x → true ≡ hours_in_range x → true ≡ equals_zero q → IsTicks x 0
zero_found x q f e r z = zero_ticks x f (ranged x r) (holds (sym (zero_test x q e) ∙ sym z))

-- a whole number: the cast loses nothing and answers the ticks
pub ticks_found : (x q : Float) → T (fits binary64 x) → q ≡ four_times x → true ≡ hours_in_range x → false ≡ equals_zero q → true ≡ equals_cut q → T (in_unsigned binary64 32 q) × IsTicks x (to_unsigned 32 q)
ticks_found x q f e r z w =
    subst (λ y. T (in_unsigned binary64 32 y) × IsTicks x (to_unsigned 32 y)) (sym (product x q e))
    (whole_ticks x f (ranged x r) (fails (sym (zero_test x q e) ∙ sym z)) (holds (sym (cut_test x q e) ∙ sym w)))

-- a fraction: no ticks are meant
pub fraction_found : (x q : Float) → T (fits binary64 x) → q ≡ four_times x → false ≡ equals_zero q → false ≡ equals_cut q → (t : ℕ) → IsTicks x t → ⊥
fraction_found x q f e z w t k = fails (sym (cut_test x q e) ∙ sym w) (ticks_whole x t f k (fails (sym (zero_test x q e) ∙ sym z)))
