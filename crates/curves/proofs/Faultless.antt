-- No curve has a fault.
use Rattle.std.proofs.Common.{◌≡◌, ℕ, zero, suc, ◌+◌, ◌-◌, ◌*◌, ◌^◌, ◌<◌, ◌≤◌, List, [], ◌∷◌, ◌++◌, map, length, ◌≤ℤ◌, sym, refl, ap, ◌∙◌, subst, ap₂, subst₂, mul-le-mul_right, not-le_of_lt, le_of_mul-le-mul_right, arith}
use mathlib.Core.List.{map-append}
use native.Mathlib.Nat.{pow-zero, one-le-pow, pow-le-pow_left}
use Rattle.std.specs.List.{AllByRecursion}
use Rattle.std.proofs.ByRecursion.{All-weaker}
use Rattle.arith.specs.Fractions.{Fraction, AtMost, AtMostTimes}
use Rattle.arith.specs.Log.{squarings}
use Rattle.arith.specs.Rivals.{Piece, pooled, fit_product}
use Rattle.arith.specs.Scores.{Scorable, telling_power}
use Rattle.arith.specs.Sums.{total, product}
use Rattle.arith.proofs.Powers.{mul_pow}
use Rattle.arith.proofs.Scores.{scores_tell_products}
use Rattle.arith.proofs.Sums.{product_append, product_pos}
use Rattle.isotonic.specs.Laws.{limit}
use Rattle.sources.specs.Ages.{oldest}
use Rattle.sources.specs.Counts.{Counts, Lawful}
use Rattle.sources.specs.Tallies.{upto_zero, upto_suc, upto_le}
use Rattle.sources.specs.Ticks.{upto, whole}
use Rattle.sources.proofs.Questions.{oldest_means}
use Rattle.curves.specs.Pieces.{age, gap_exposure, trough_piece}
use Rattle.curves.specs.Curves.{left_blocks, right_blocks, steps, score, last_counted, aside, counted_ages, counted_failures, steps_of, score_of, turning}
use Rattle.curves.specs.Rivals.{Allowed, Rival, ExpectsNoMore, product_of}
use Rattle.curves.specs.Faults.{curve_product, better, far_better, other_steps, lost_failures, lost_exposure, NoCurveHasAFault}
use Rattle.curves.specs.Theorems.{Listed, PiecesStand}
use Rattle.curves.specs.declared.shapes.Shape.{Shape}
use Rattle.curves.specs.declared.shapes.Shape.TheVariants.{Falling, Rising, UShaped}
use Rattle.curves.proofs.Best.{best_allowed, best_is}
use Rattle.curves.proofs.Likely.{not_likelier}
use Rattle.curves.proofs.Listed.{ages_listed, ages_total, listed_step, listed_last, listed_some, whole_watched, whole_failed}
use Rattle.curves.proofs.Parts.{block_piece}
use Rattle.curves.proofs.Sides.{Marked}
use Rattle.curves.proofs.Turns.{Sound, sound, both, score_both, product_both, left_parts, right_parts, both_failures, both_scorable, steps_failures, steps_exposure}

-- ---- each turning gap that the shape allows is sound

last_le : (c : Counts) (shape : Shape) → last_counted c shape ≤ oldest c.watched
last_le c Falling = omega arith
last_le c Rising = omega arith
last_le c UShaped = omega arith

module _ (c : Counts) (shape : Shape) (laws : Lawful c.watched c.failed) where
  abbrev xs : List ℕ
  xs = counted_ages c shape

  abbrev end : ℕ
  end = oldest c.watched

  listed : Listed c.failed 0 (last_counted c shape) xs
  listed = ages_listed c.failed (last_counted c shape)

  marks : Marked c.watched c.failed xs end
  marks = record {
    next = λ i l.
        let s = listed_step c.failed 0 (last_counted c shape) end xs listed i l in
        (s.0, s.1, (let g = s.1 in omega (arith, laws.within (age xs end (suc i)))));
    last = let g = listed_last c.failed 0 (last_counted c shape) end xs listed in omega (arith, last_le c shape);
  }

  light : total c.failed xs + upto c.watched end ≤ limit
  light = omega (arith, ages_total c.failed (last_counted c shape), upto_le c.failed (last_counted c shape) end (last_le c shape), laws.limited end)

  -- where failures are set aside, the last gap is not empty, and its last tick is watched
  strict : suc (last_counted c shape) ≡ end → (age xs end (length xs) < end) × (0 < c.watched end)
  strict e = (
    (let g = listed_last c.failed 0 (last_counted c shape) end xs listed in omega arith),
    (oldest_means c.watched c.failed laws).there (omega arith),
  )

  some_left : 0 < length xs → 0 < last_counted c shape
  some_left h = listed_some c.failed 0 (last_counted c shape) xs listed h

pub sound_at : (c : Counts) (shape : Shape) → Lawful c.watched c.failed → (j : ℕ) → Allowed shape (length (counted_ages c shape)) j
    → Sound c.watched c.failed (counted_ages c shape) (oldest c.watched) j
sound_at c Falling laws j a = sound _ _ _ _ j (marks c Falling laws) (light c Falling laws) (omega arith) (omega arith) (λ h. absurd (omega arith))
sound_at c Rising laws j a =
    sound _ _ _ _ j (marks c Rising laws) (light c Rising laws) (omega arith) (omega arith)
    (λ h. strict c Rising laws (let g = some_left c Rising laws (omega arith) in omega arith))
sound_at c UShaped laws j a =
    sound _ _ _ _ j (marks c UShaped laws) (light c UShaped laws) a.0 a.1
    (λ h. strict c UShaped laws (let b = a.0 in let g = some_left c UShaped laws (omega arith) in omega arith))

pub pieces_stand : (c : Counts) (shape : Shape) (j : ℕ) → PiecesStand c shape j
pieces_stand c shape j laws a = let s = sound_at c shape laws j a in (s.left, s.right)

-- the curve's own turning gap is allowed
pub own_allowed : (c : Counts) (shape : Shape) → Allowed shape (length (counted_ages c shape)) (turning c shape)
own_allowed c Falling = refl
own_allowed c Rising = refl
own_allowed c UShaped = best_allowed (score_of c UShaped) (length (counted_ages c UShaped))

own_sound : (c : Counts) (shape : Shape) → Lawful c.watched c.failed → Sound c.watched c.failed (counted_ages c shape) (oldest c.watched) (turning c shape)
own_sound c shape laws = sound_at c shape laws (turning c shape) (own_allowed c shape)

-- ---- no better rival

-- a piece without failures does not count in the product of a fit
trough_apart : (ps qs : List Piece) (t : ℕ) → fit_product (ps ++ record { failures = 0; exposure = t } ∷ qs) ≡ fit_product (ps ++ qs)
trough_apart ps qs t = λ i. record {
  numerator = drop_one (λ x. x.failures ^ x.failures) refl i;
  denominator = drop_one (λ x. x.exposure ^ x.failures) (pow-zero t) i;
}
  where
    drop_one : (g : Piece → ℕ) → g (record { failures = 0; exposure = t }) ≡ 1 → product g (ps ++ record { failures = 0; exposure = t } ∷ qs) ≡ product g (ps ++ qs)
    drop_one g one =
        product_append g ps (record { failures = 0; exposure = t } ∷ qs)
        ∙ ap (λ z. product g ps * z) (ap (λ z. z * product g qs) one ∙ omega arith)
        ∙ sym (product_append g ps qs)

-- the blocks of both sides and the trough between them have the product of the curve
blocks_product : (n f : ℕ → ℕ) (xs : List ℕ) (end j : ℕ) (lb rb : List (List Piece)) → map block_piece (left_blocks n f xs end j) ≡ map pooled lb → map block_piece (right_blocks n f xs end j) ≡ map pooled rb
    → fit_product (map pooled lb ++ pooled (trough_piece n f xs end j ∷ []) ∷ map pooled rb) ≡ curve_product (steps n f xs end j)
blocks_product n f xs end j lb rb el er =
    trough_apart (map pooled lb) (map pooled rb) (gap_exposure n f xs end j + 0)
    ∙ ap₂ (λ ls rs. fit_product (ls ++ rs)) (sym el) (sym er)
    ∙ ap fit_product (sym (map-append block_piece (left_blocks n f xs end j) (right_blocks n f xs end j)))
    ∙ sym (product_both n f xs end j)

-- a rival against the curve with its turning gap
not_better : (c : Counts) (shape : Shape) → Lawful c.watched c.failed → (r : Rival c shape) → ExpectsNoMore r
    → AtMost (product_of r) (curve_product (steps_of c shape r.turning_gap))
not_better c shape laws r few =
    let n = c.watched in
    let f = c.failed in
    let xs = counted_ages c shape in
    let end = oldest c.watched in
    let j = r.turning_gap in
    let s = sound_at c shape laws j r.allowed in
    let l = left_parts n f xs end j s in
    let h = right_parts n f xs end j s in
    subst (AtMost (product_of r)) (blocks_product n f xs end j l.parts h.parts l.sums h.sums)
    (rw (l.whole, h.whole) at (not_likelier l.parts h.parts (trough_piece n f xs end j) refl r.left r.right r.trough
    (r.each_left ∙ ap length (sym l.whole)) (r.each_right ∙ ap length (sym h.whole))
    l.solid h.solid r.not_rising r.not_falling r.denominators
    (rw (l.whole, h.whole, s.failures) few)))

-- ---- no far better rival

-- at most something that is at most c times another, at a power
combined : (c P : ℕ) (x y z : Fraction) → 0 < y.denominator → AtMost x y → AtMostTimes c P y z → AtMostTimes c P x z
combined c P x y z some h g =
    rw (mul_pow x.numerator z.denominator P, mul_pow z.numerator x.denominator P)
    (numbers (x.numerator ^ P) (x.denominator ^ P) (y.numerator ^ P) (y.denominator ^ P) (z.numerator ^ P) (z.denominator ^ P) (one-le-pow P y.denominator some)
    (rw (mul_pow x.numerator y.denominator P, mul_pow y.numerator x.denominator P) at (pow-le-pow_left h P))
    (rw (mul_pow y.numerator z.denominator P, mul_pow z.numerator y.denominator P) at g))
  where
    numbers : (xa xb ya yb za zb : ℕ) → 0 < yb → xa * yb ≤ ya * xb → ya * zb ≤ c * (za * yb) → xa * zb ≤ c * (za * xb)
    numbers xa xb ya yb za zb some h g = le_of_mul-le-mul_right {k = yb} (omega (arith, mul-le-mul_right zb h, mul-le-mul_right xb g)) some

denominator_some : (bs : List Piece) → AllByRecursion Scorable bs → 0 < (fit_product bs).denominator
denominator_some bs h = product_pos (λ x. x.exposure ^ x.failures) bs (All-weaker Scorable (λ x. 0 < x.exposure ^ x.failures) (λ x k. one-le-pow x.failures x.exposure k.1) bs h)

-- of two turning gaps, the one with the greater score has nearly as large a product
nearly : (n f : ℕ → ℕ) (xs : List ℕ) (end i j : ℕ) → Sound n f xs end i → Sound n f xs end j → score n f xs end i ≤ℤ score n f xs end j
    → AtMostTimes (2 ^ total f xs) (telling_power squarings) (fit_product (both n f xs end i)) (fit_product (both n f xs end j))
nearly n f xs end i j si sj o =
    subst (λ (d : ℕ). AtMostTimes (2 ^ d) (telling_power squarings) (fit_product (both n f xs end i)) (fit_product (both n f xs end j))) (both_failures n f xs end j sj)
    (scores_tell_products squarings (omega arith) (omega arith) (both n f xs end j) (both n f xs end i) (both_scorable n f xs end j sj) (both_scorable n f xs end i si)
    (both_failures n f xs end j sj ∙ sym (both_failures n f xs end i si))
    (subst₂ ◌≤ℤ◌ (score_both n f xs end i) (score_both n f xs end j) o))

not_far_better : (c : Counts) → Lawful c.watched c.failed → (r : Rival c UShaped) → ExpectsNoMore r
    → AtMostTimes (2 ^ counted_failures c UShaped) (telling_power squarings) (product_of r) (curve_product (steps_of c UShaped (turning c UShaped)))
not_far_better c laws r few =
    let n = c.watched in
    let f = c.failed in
    let xs = counted_ages c UShaped in
    let end = oldest c.watched in
    let i = r.turning_gap in
    let j = turning c UShaped in
    let si = sound_at c UShaped laws i r.allowed in
    let sj = own_sound c UShaped laws in
    subst (AtMostTimes (2 ^ counted_failures c UShaped) (telling_power squarings) (product_of r)) (sym (product_both n f xs end j))
    (combined (2 ^ counted_failures c UShaped) (telling_power squarings) (product_of r) (fit_product (both n f xs end i)) (fit_product (both n f xs end j))
    (denominator_some (both n f xs end i) (both_scorable n f xs end i si))
    (subst (AtMost (product_of r)) (product_both n f xs end i) (not_better c UShaped laws r few))
    (nearly n f xs end i j si sj (best_is (score_of c UShaped) (length xs) i r.allowed.0 r.allowed.1)))

-- ---- nothing is lost

last_apart : (n f : ℕ → ℕ) → Lawful n f → (t : ℕ) → upto f (t - 1) + f t ≡ upto f t
last_apart n f laws zero = omega (arith, laws.within 0, laws.starts, upto_zero f)
last_apart n f laws (suc t) = let e : suc t - 1 ≡ t = omega arith in rw e (sym (upto_suc f t))

none_lost : (c : Counts) (shape : Shape) → Lawful c.watched c.failed → upto c.failed (last_counted c shape) + aside c shape ≡ whole c.failed
none_lost c Falling laws = omega (arith, whole_failed c.watched c.failed laws)
none_lost c Rising laws = last_apart c.watched c.failed laws (oldest c.watched) ∙ whole_failed c.watched c.failed laws
none_lost c UShaped laws = last_apart c.watched c.failed laws (oldest c.watched) ∙ whole_failed c.watched c.failed laws

-- ---- all faults

-- a falling or rising curve is not U-shaped
abbrev OneWay : Shape → Type 0
OneWay Falling = Unit {0}
OneWay Rising = Unit {0}
OneWay UShaped = ⊥

pub no_curve_has_a_fault : NoCurveHasAFault
no_curve_has_a_fault c shape laws (better r same few more) =
    not-le_of_lt more (subst (λ (j : ℕ). AtMost (product_of r) (curve_product (steps_of c shape j))) same (not_better c shape laws r few))
no_curve_has_a_fault c Falling laws (far_better r u few more) = subst OneWay u tt
no_curve_has_a_fault c Rising laws (far_better r u few more) = subst OneWay u tt
no_curve_has_a_fault c UShaped laws (far_better r u few more) = not-le_of_lt more (not_far_better c laws r few)
no_curve_has_a_fault c shape laws (other_steps h) = h refl
no_curve_has_a_fault c shape laws (lost_failures h) =
    h (ap (λ (d : ℕ). d + aside c shape) (steps_failures _ _ _ _ (turning c shape) (own_sound c shape laws) ∙ ages_total c.failed (last_counted c shape)) ∙ none_lost c shape laws)
no_curve_has_a_fault c shape laws (lost_exposure h) =
    h (steps_exposure _ _ _ _ (turning c shape) (own_sound c shape laws) ∙ whole_watched c.watched c.failed laws)
