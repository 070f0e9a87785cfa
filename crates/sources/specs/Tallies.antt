-- Lemmas on sums by ticks, on which the laws of each source rest.
use Rattle.std.specs.Prelude.{◌≡◌, ℕ, zero, suc, ◌+◌, ◌-◌, ◌*◌, ◌<◌, ◌≤◌, min, cond, ◌⊎◌, ◌==◌, ◌≢◌, refl}
use Rattle.std.proofs.Common.{subst, ◌∙◌, inl, inr, add-zero, add-suc, arith}
use Rattle.std.proofs.lemmas.Bool.{cases_lt, cases_eq, eq-eqb, ne_eqb, cond-true, cond-false}
use Rattle.units.specs.Hours.{last_tick}
use Rattle.sources.specs.Ticks.{upto}
use Rattle.sources.specs.Counts.{Lawful, most_failures, most_in_all}

-- nothing of f from a to a + k: what steps by f stays
flat_by : {X : Type 0} (F : ℕ → X) (f : ℕ → ℕ) → ((n : ℕ) → f (suc n) ≡ 0 → F (suc n) ≡ F n) → (a k : ℕ) → ((u : ℕ) → a < u → u ≤ a + k → f u ≡ 0) → F (a + k) ≡ F a
flat_by F f step a zero q = rw add-zero refl
flat_by F f step a (suc k) q =
    rw add-suc (step (a + k) (q (suc (a + k)) (omega arith) (omega arith)) ∙ flat_by F f step a k (λ u l m. q u l (omega arith)))

pub flat : {X : Type 0} (F : ℕ → X) (f : ℕ → ℕ) → ((n : ℕ) → f (suc n) ≡ 0 → F (suc n) ≡ F n) → (a b : ℕ) → a ≤ b → ((u : ℕ) → a < u → u ≤ b → f u ≡ 0) → F b ≡ F a
flat F f step a b h q =
    let e : a + (b - a) ≡ b = omega arith in
    subst (λ n. F n ≡ F a) e (flat_by F f step a (b - a) (λ u l m. q u l (omega arith)))

-- the sum

upto_none : (f : ℕ → ℕ) (n : ℕ) → f (suc n) ≡ 0 → upto f (suc n) ≡ upto f n
unfolding upto
upto_none f n e = omega arith

pub upto_suc : (f : ℕ → ℕ) (n : ℕ) → upto f (suc n) ≡ upto f n + f (suc n)
unfolding upto
upto_suc f n = refl

pub upto_zero : (f : ℕ → ℕ) → upto f 0 ≡ 0
unfolding upto
upto_zero f = refl

pub upto_flat : (f : ℕ → ℕ) (a b : ℕ) → a ≤ b → ((u : ℕ) → a < u → u ≤ b → f u ≡ 0) → upto f b ≡ upto f a
upto_flat f a b h q = flat (upto f) f (upto_none f) a b h q

upto_mono : (f : ℕ → ℕ) (a k : ℕ) → upto f a ≤ upto f (a + k)
upto_mono f a zero = rw add-zero (omega arith)
upto_mono f a (suc k) = rw add-suc (omega (arith, upto_suc f (a + k), upto_mono f a k))

pub upto_le : (f : ℕ → ℕ) (a b : ℕ) → a ≤ b → upto f a ≤ upto f b
upto_le f a b h = let e : a + (b - a) ≡ b = omega arith in subst (λ n. upto f a ≤ upto f n) e (upto_mono f a (b - a))

-- the sum of two counts
pub upto_add : (f g : ℕ → ℕ) (n : ℕ) → upto (λ t. f t + g t) n ≡ upto f n + upto g n
upto_add f g zero = omega (arith, upto_zero f, upto_zero g, upto_zero (λ t. f t + g t))
upto_add f g (suc n) = omega (arith, upto_suc f n, upto_suc g n, upto_suc (λ t. f t + g t) n, upto_add f g n)

pub upto_same : (f g : ℕ → ℕ) → ((t : ℕ) → f t ≡ g t) → (n : ℕ) → upto f n ≡ upto g n
upto_same f g e zero = omega (arith, upto_zero f, upto_zero g)
upto_same f g e (suc n) = omega (arith, upto_suc f n, upto_suc g n, e (suc n), upto_same f g e n)

-- nothing anywhere
pub upto_void : (f : ℕ → ℕ) → ((t : ℕ) → f t ≡ 0) → (n : ℕ) → upto f n ≡ 0
upto_void f e zero = upto_zero f
upto_void f e (suc n) = omega (arith, upto_suc f n, e (suc n), upto_void f e n)

-- at most 1,024 at each tick up to the last
upto_cap : (n : ℕ → ℕ) → ((t : ℕ) → n t ≤ most_failures) → ((t : ℕ) → last_tick < t → n t ≡ 0) → (m : ℕ) → upto n m ≤ min m last_tick * most_failures
upto_cap n cap ends zero = omega (arith, upto_zero n)
upto_cap n cap ends (suc m) =
    elim (cases_lt last_tick (suc m)) [
      | inl h ↦ omega (arith, upto_suc n m, ends (suc m) h, upto_cap n cap ends m)
      | inr h ↦ omega (arith, upto_suc n m, cap (suc m), upto_cap n cap ends m)
    ]

-- the law on the sum of all follows, where no tick has more than 1,024
pub limited_by : (n f : ℕ → ℕ) → ((t : ℕ) → n t ≤ most_failures) → ((t : ℕ) → last_tick < t → n t ≡ 0) → ((t : ℕ) → upto f t ≤ most_failures) → (t : ℕ) → upto f t + upto n t ≤ most_in_all
limited_by n f cap ends few t = omega (arith, few t, upto_cap n cap ends t)

-- nothing at all is lawful
pub void_laws : (n f : ℕ → ℕ) → ((t : ℕ) → n t ≡ 0) → ((t : ℕ) → f t ≡ 0) → Lawful n f
void_laws n f a b = record {
  within = λ t. omega (arith, a t, b t);
  starts = a 0;
  ends = λ t _. a t;
  few = λ t. omega (arith, upto_void f b t);
  limited = λ t. omega (arith, upto_void f b t, upto_void n a t);
}

-- the sum of the lower of two counts
pub upto_below : (f g : ℕ → ℕ) → ((t : ℕ) → f t ≤ g t) → (n : ℕ) → upto f n ≤ upto g n
upto_below f g le zero = omega (arith, upto_zero f, upto_zero g)
upto_below f g le (suc n) = omega (arith, upto_suc f n, upto_suc g n, le (suc n), upto_below f g le n)

-- a count of one by a test, as omega reads it
pub hit : (x t : ℕ) → ((x ≡ t) × (◌≡◌ {A = ℕ} (cond (x == t) 1 0) 1)) ⊎ ((x ≢ t) × (◌≡◌ {A = ℕ} (cond (x == t) 1 0) 0))
hit x t = elim (cases_eq x t) [ inl e ↦ inl (e, cond-true {A = ℕ} _ 1 0 (eq-eqb x t e)) | inr e ↦ inr (e, cond-false {A = ℕ} _ 1 0 (ne_eqb x t e)) ]

-- one age is one failure
pub hit_late : (x n : ℕ) → n < x → upto (λ t. cond (x == t) 1 0) n ≡ 0
hit_late x zero h = upto_zero (λ t. cond (x == t) 1 0)
hit_late x (suc n) h = omega (arith, upto_suc (λ t. cond (x == t) 1 0) n, hit x (suc n), hit_late x n (omega arith))

pub hit_once : (x n : ℕ) → upto (λ t. cond (x == t) 1 0) n ≤ 1
hit_once x zero = omega (arith, upto_zero (λ t. cond (x == t) 1 0))
hit_once x (suc n) = elim (cases_lt n x) [
  | inl h ↦ omega (arith, upto_suc (λ t. cond (x == t) 1 0) n, hit x (suc n), hit_late x n h)
  | inr h ↦ omega (arith, upto_suc (λ t. cond (x == t) 1 0) n, hit x (suc n), hit_once x n)
]
