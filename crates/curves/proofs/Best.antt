-- The gap with the greatest score.
use Rattle.std.proofs.Common.{◌≡◌, ℕ, zero, suc, ◌<◌, ◌≤◌, true, false, cond, ℤ, ◌≤ℤ◌, ◌<ℤ◌, sym, refl, ap, ◌∙◌, subst, inl, inr, arith}
use lib.Signed.{lt_z, ≤ℤ_refl}
use Rattle.std.proofs.lemmas.Int.{ints}
use Rattle.std.proofs.lemmas.Bool.{cases_lt, cond_both}
use Rattle.curves.specs.Curves.{better_gap, best_gap}
use Rattle.curves.specs.Theorems.{GapIsBest}

pub best_zero : (s : ℕ → ℤ) → best_gap s 0 ≡ 1
unfolding best_gap
best_zero s = refl

pub best_suc : (s : ℕ → ℤ) (k : ℕ) → best_gap s (suc k) ≡ better_gap s (best_gap s k) (suc (suc k))
unfolding best_gap
best_suc s k = refl

-- it is one of the gaps 1 to k + 1
pub best_allowed : (s : ℕ → ℤ) (k : ℕ) → (1 ≤ best_gap s k) × (best_gap s k ≤ suc k)
best_allowed s zero = rw (best_zero s) (omega arith)
best_allowed s (suc k) =
    let ih = best_allowed s k in
    rw (best_suc s k)
    (cond_both (lt_z (s (best_gap s k)) (s (suc (suc k)))) (suc (suc k)) (best_gap s k) (λ x. (1 ≤ x) × (x ≤ suc (suc k))) (λ _. omega arith) (λ _. omega arith))

up : (a b c : ℤ) → a ≤ℤ b → lt_z b c ≡ true → a ≤ℤ c
up a b c h e = omega (arith, ints)

not_up : (b c : ℤ) → lt_z b c ≡ false → c ≤ℤ b
not_up b c e = omega (arith, ints)

-- none of them has a greater score
pub best_is : (s : ℕ → ℤ) (k j : ℕ) → 1 ≤ j → j ≤ suc k → s j ≤ℤ s (best_gap s k)
best_is s zero j p q = let e : 1 ≡ j = omega arith in rw (best_zero s) (subst (λ (i : ℕ). s i ≤ℤ s 1) e (≤ℤ_refl (s 1)))
best_is s (suc k) j p q =
    rw (best_suc s k)
    (elim (cases_lt j (suc (suc k))) [
      | inl l ↦
          let ih = best_is s k j p (omega arith) in
          cond_both (lt_z (s (best_gap s k)) (s (suc (suc k)))) (suc (suc k)) (best_gap s k) (λ x. s j ≤ℤ s x) (λ e. up _ _ _ ih e) (λ _. ih)
      | inr l ↦
          let same : suc (suc k) ≡ j = omega arith in
          subst (λ (i : ℕ). s i ≤ℤ s (better_gap s (best_gap s k) (suc (suc k)))) same
          (cond_both (lt_z (s (best_gap s k)) (s (suc (suc k)))) (suc (suc k)) (best_gap s k) (λ x. s (suc (suc k)) ≤ℤ s x) (λ _. ≤ℤ_refl _) (λ e. not_up _ _ e))
    ])

past : (a b c : ℤ) → a ≤ℤ b → lt_z b c ≡ true → a <ℤ c
past a b c h e = omega (arith, ints)

-- all before it have smaller scores
best_first : (s : ℕ → ℤ) (k j : ℕ) → 1 ≤ j → j < best_gap s k → s j <ℤ s (best_gap s k)
best_first s zero j p q = absurd (omega (arith, best_zero s))
best_first s (suc k) j p q =
    rw (best_suc s k)
    (cond_both (lt_z (s (best_gap s k)) (s (suc (suc k)))) (suc (suc k)) (best_gap s k) (λ x. j < x → s j <ℤ s x)
    (λ e l. past _ _ _ (best_is s k j p (omega arith)) e) (λ _ l. best_first s k j p l) (rw (best_suc s k) at q))

pub gap_is_best : GapIsBest
gap_is_best s k = let a = best_allowed s k in (a.0, a.1, best_is s k, best_first s k)

-- it depends on the scores of these gaps alone
pub best_same : (s z : ℕ → ℤ) (k : ℕ) → ((j : ℕ) → 1 ≤ j → j ≤ suc k → s j ≡ z j) → best_gap s k ≡ best_gap z k
best_same s z zero e = best_zero s ∙ sym (best_zero z)
best_same s z (suc k) e =
    let a = best_allowed s k in
    let same = best_same s z k (λ j p q. e j p (omega arith)) in
    best_suc s k
    ∙ (λ i. cond (lt_z (e (best_gap s k) a.0 (omega (arith, a.1)) i) (e (suc (suc k)) (omega arith) (omega arith) i)) (suc (suc k)) (best_gap s k))
    ∙ ap (λ (i : ℕ). better_gap z i (suc (suc k))) same ∙ sym (best_suc z k)
