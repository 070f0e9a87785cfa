-- The list of failure ages, and what lies up to the oldest age.
use Rattle.std.proofs.Common.{◌≡◌, ℕ, zero, suc, ◌<◌, ◌≤◌, List, [], ◌∷◌, ◌++◌, length, get_or, sym, refl, ap, ◌∙◌, subst, inl, inr, arith}
use Rattle.std.proofs.lemmas.Bool.{cases_lt}
use Rattle.units.specs.Hours.{last_tick}
use Rattle.arith.specs.Sums.{total}
use Rattle.arith.proofs.Sums.{total_append}
use Rattle.sources.specs.Ages.{oldest, ages}
use Rattle.sources.specs.Counts.{Lawful}
use Rattle.sources.specs.Tallies.{upto_zero, upto_suc, upto_flat}
use Rattle.sources.specs.Ticks.{upto, whole}
use Rattle.sources.proofs.Ages.{ages_zero, ages_none, ages_more}
use Rattle.sources.proofs.Questions.{oldest_means}
use Rattle.curves.specs.Theorems.{Listed, AgesStand}

listed_wider : (f : ℕ → ℕ) (lo hi more : ℕ) (xs : List ℕ) → hi ≤ more → Listed f lo hi xs → Listed f lo more xs
listed_wider f lo hi more [] g h = omega arith
listed_wider f lo hi more (x ∷ xs) g h = let k = h.1 in (h.0, omega arith, h.2, listed_wider f x hi more xs g h.3)

listed_push : (f : ℕ → ℕ) (lo hi y : ℕ) (xs : List ℕ) → hi < y → 0 < f y → Listed f lo hi xs → Listed f lo y (xs ++ (y ∷ []))
listed_push f lo hi y [] g p h = (omega arith, omega arith, p, omega arith)
listed_push f lo hi y (x ∷ xs) g p h = let k = h.1 in (h.0, omega arith, h.2, listed_push f x hi y xs g p h.3)

pub ages_listed : (f : ℕ → ℕ) (t : ℕ) → Listed f 0 t (ages f t)
ages_listed f zero = subst (λ l. Listed f 0 0 l) (sym (ages_zero f)) (omega arith)
ages_listed f (suc t) = go (f (suc t)) refl (ages_listed f t)
  where
    go : (k : ℕ) → f (suc t) ≡ k → Listed f 0 t (ages f t) → Listed f 0 (suc t) (ages f (suc t))
    go zero e ih = subst (λ l. Listed f 0 (suc t) l) (sym (ages_none f t e)) (listed_wider f 0 t (suc t) (ages f t) (omega arith) ih)
    go (suc k) e ih = subst (λ l. Listed f 0 (suc t) l) (sym (ages_more f t (omega arith))) (listed_push f 0 t (suc t) (ages f t) (omega arith) (omega arith) ih)

-- the failures at the listed ages are all failures
pub ages_total : (f : ℕ → ℕ) (t : ℕ) → total f (ages f t) ≡ upto f t
ages_total f zero = ap (total f) (ages_zero f) ∙ sym (upto_zero f)
ages_total f (suc t) = go (f (suc t)) refl (ages_total f t)
  where
    go : (k : ℕ) → f (suc t) ≡ k → total f (ages f t) ≡ upto f t → total f (ages f (suc t)) ≡ upto f (suc t)
    go zero e ih = ap (total f) (ages_none f t e) ∙ omega (arith, upto_suc f t)
    go (suc k) e ih = ap (total f) (ages_more f t (omega arith)) ∙ total_append f (ages f t) (suc t ∷ []) ∙ omega (arith, upto_suc f t)

pub ages_stand : AgesStand
ages_stand f t = (ages_listed f t, ages_total f t)

-- the listed ages by number
pub listed_step : (f : ℕ → ℕ) (lo hi end : ℕ) (xs : List ℕ) → Listed f lo hi xs → (i : ℕ) → i < length xs
    → (get_or (lo ∷ xs) i end < get_or xs i end) × (0 < f (get_or xs i end))
listed_step f lo hi end [] h i l = absurd (omega arith)
listed_step f lo hi end (x ∷ xs) h zero l = (h.0, h.2)
listed_step f lo hi end (x ∷ xs) h (suc i) l = listed_step f x hi end xs h.3 i (omega arith)

pub listed_last : (f : ℕ → ℕ) (lo hi end : ℕ) (xs : List ℕ) → Listed f lo hi xs → get_or (lo ∷ xs) (length xs) end ≤ hi
listed_last f lo hi end [] h = h
listed_last f lo hi end (x ∷ xs) h = listed_last f x hi end xs h.3

pub listed_some : (f : ℕ → ℕ) (lo hi : ℕ) (xs : List ℕ) → Listed f lo hi xs → 0 < length xs → lo < hi
listed_some f lo hi [] h l = absurd (omega arith)
listed_some f lo hi (x ∷ xs) h l = let a = h.0 in let b = h.1 in omega arith

-- a sum of which nothing comes after t and nothing after the last tick
whole_by : (g : ℕ → ℕ) (t : ℕ) → ((u : ℕ) → t < u → g u ≡ 0) → ((u : ℕ) → last_tick < u → g u ≡ 0) → upto g t ≡ whole g
whole_by g t past ends =
    elim (cases_lt t last_tick) [
      | inl l ↦ omega (arith, upto_zero g, upto_flat g t last_tick (omega arith) (λ u p _. past u p))
      | inr l ↦ omega (arith, upto_zero g, upto_flat g last_tick t l (λ u p _. ends u p))
    ]

-- all that is watched, and all that fails, lies up to the oldest age
pub whole_watched : (n f : ℕ → ℕ) → Lawful n f → upto n (oldest n) ≡ whole n
whole_watched n f laws = whole_by n (oldest n) (oldest_means n f laws).past laws.ends

pub whole_failed : (n f : ℕ → ℕ) → Lawful n f → upto f (oldest n) ≡ whole f
whole_failed n f laws =
    whole_by f (oldest n) (λ u l. omega (arith, laws.within u, (oldest_means n f laws).past u l)) (λ u l. omega (arith, laws.within u, laws.ends u l))
