-- What is computed of hours is what is meant by them.
use Rattle.std.proofs.Common.{◌≡◌, ℕ, ◌+◌, ◌*◌, ◌/◌, ◌%◌, ◌≤◌, Bool, true, false, cond, not, ◌&&◌, ◌||◌, eqb, leb, ◌⊎◌, Some, None, Ok, Err, Option, sym, refl, ap, ◌∙◌, subst, inl, inr, div-add-mod', mul-div_cancel, arith, MatchOption, MatchResult}
use native.Mathlib.Nat.{mul-mod_left}
use lib.Ieee.{Float, nan, inf, fin, up, down}
use lib.Ieee.Fits.{down_pos}
use Rattle.std.specs.Option.{ok_or}
use Rattle.std.proofs.lemmas.Bool.{le-leb, leb-true, eq-eqb, eqb-true, and_from, and_parts, cond-true}
use Rattle.units.specs.declared.ages.Age.{Age}
use Rattle.units.specs.declared.refusals.Refusal.TheVariants.{NotQuarterHours}
use Rattle.units.specs.Hours.{IsTicks, hours_age, age_ticks, last_tick}
use Rattle.units.specs.Refusals.{refused, seen}

sign_back : (s : Bool) (m : ℕ) → (not s || eqb m 0) ≡ true → (s ≡ false) ⊎ (m ≡ 0)
sign_back false m e = inl refl
sign_back true m e = inr (eqb-true m 0 e)

sign_forth : (s : Bool) (m : ℕ) → (s ≡ false) ⊎ (m ≡ 0) → (not s || eqb m 0) ≡ true
sign_forth s m (inl e) = ap (λ (z : Bool). not z || eqb m 0) e
sign_forth false m (inr e) = refl
sign_forth true m (inr e) = eq-eqb m 0 e

whole : (q d t : ℕ) → q % d ≡ 0 → q / d ≡ t → q ≡ t * d
whole q d t z e = sym (div-add-mod' q d) ∙ ap (λ (r : ℕ). q / d * d + r) z ∙ ap (λ (r : ℕ). r * d + 0) e ∙ omega arith

-- the ticks of hours that are ticks
meant_ticks : (x : Float) (t : ℕ) → IsTicks x t → hours_age x ≡ Ok t
unfolding hours_age
meant_ticks nan t k = absurd k
meant_ticks (inf s) t k = absurd k
meant_ticks (fin s m e) t k =
    let q = m * up e * 4 in
    let d = down e in
    let z : q % d ≡ 0 = ap (λ (x : ℕ). x % d) k.0 ∙ mul-mod_left t d in
    let v : q / d ≡ t = ap (λ (x : ℕ). x / d) k.0 ∙ mul-div_cancel t (down_pos e) in
    cond-true (eqb (q % d) 0 && leb (q / d) last_tick && (not s || eqb m 0)) (Ok (q / d)) (Err (refused 2))
    (and_from _ _ (and_from _ _ (eq-eqb (q % d) 0 z) (le-leb (q / d) last_tick (subst (λ (x : ℕ). x ≤ last_tick) (sym v) k.2))) (sign_forth s m k.1))
    ∙ ap (λ (x : ℕ). Ok x) v

-- by the test of the definition
tested : (b : Bool) (v : ℕ) (R : Type 0) → (b ≡ true → R) → (R → ⊥) → cond b (Ok v) (Err (refused 2)) ≡ Err (refused 2)
tested true v R f g = absurd (g (f refl))
tested false v R f g = refl

-- refusal 2 for any others
meant_refused : (x : Float) → ((t : ℕ) → IsTicks x t → ⊥) → hours_age x ≡ Err (refused 2)
unfolding hours_age
meant_refused nan k = refl
meant_refused (inf s) k = refl
meant_refused (fin s m e) k =
    let q = m * up e * 4 in
    let d = down e in
    tested (eqb (q % d) 0 && leb (q / d) last_tick && (not s || eqb m 0)) (q / d) (IsTicks (fin s m e) (q / d))
    (λ h.
    let g = and_parts (eqb (q % d) 0 && leb (q / d) last_tick) (not s || eqb m 0) h in
    let g' = and_parts (eqb (q % d) 0) (leb (q / d) last_tick) g.0 in
    (whole q d (q / d) (eqb-true (q % d) 0 g'.0) refl, sign_back s m g.1, leb-true (q / d) last_tick g'.1))
    (k (q / d))

pub age_meant : (x : Float) (r : Option Age) → MatchOption r ((t : ℕ) → IsTicks x t → ⊥) (λ a. IsTicks x (age_ticks a)) → seen age_ticks (ok_or r NotQuarterHours) ≡ hours_age x
age_meant x (Some a) k = sym (meant_ticks x (age_ticks a) k)
age_meant x None k = sym (meant_refused x k)

pub age_exact : (x : Float) (r : Option Age) → MatchOption r ((t : ℕ) → IsTicks x t → ⊥) (λ a. IsTicks x (age_ticks a)) → MatchResult (ok_or r NotQuarterHours) (λ a. IsTicks x (age_ticks a)) (λ _. (t : ℕ) → IsTicks x t → ⊥)
age_exact x (Some a) k = k
age_exact x None k = k
