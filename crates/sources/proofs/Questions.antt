-- The answers of the questions in words, and how those of two counts make that of their sum.
use Rattle.std.proofs.Common.{◌≡◌, ℕ, zero, suc, ◌+◌, ◌-◌, ◌<◌, ◌≤◌, min, max, cond, ltb, Some, None, Option, sym, refl, ap, ◌∙◌, subst, inl, inr, arith}
use Rattle.std.proofs.lemmas.Bool.{cond-true, cond-false, lt-ltb, le-ltb, cases_lt, cases_eq}
use Rattle.units.specs.Hours.{last_tick}
use Rattle.units.specs.declared.ages.Age.{Age}
use Rattle.sources.specs.Ticks.{upto, between}
use Rattle.sources.specs.Counts.{Lawful}
use Rattle.sources.specs.Ages.{latest, oldest, first_failure, next_failure}
use Rattle.sources.specs.Questions.{Next, Oldest, QuestionsStand, sooner}
use Rattle.sources.specs.Tallies.{flat, upto_le}

-- ---- the next failure age

-- the same of the k ages above x
abbrev First : (ℕ → ℕ) → ℕ → ℕ → Option Age → Type 0
First f x k None = (t : ℕ) → x < t → t ≤ x + k → f t ≡ 0
First f x k (Some a) = (x < a.0) × (0 < f a.0) × ((t : ℕ) → x < t → t < a.0 → f t ≡ 0)

first_here : (f : ℕ → ℕ) (x k : ℕ) → 0 < f (suc x) → first_failure f x (suc k) ≡ Some (record { 0 = suc x })
unfolding first_failure
first_here f x k p = cond-true (ltb 0 (f (suc x))) (Some (record { 0 = suc x })) (first_failure f (suc x) k) (lt-ltb 0 (f (suc x)) p)

first_later : (f : ℕ → ℕ) (x k : ℕ) → f (suc x) ≡ 0 → first_failure f x (suc k) ≡ first_failure f (suc x) k
unfolding first_failure
first_later f x k e = cond-false (ltb 0 (f (suc x))) (Some (record { 0 = suc x })) (first_failure f (suc x) k) (le-ltb 0 (f (suc x)) (omega arith))

first_none : (f : ℕ → ℕ) (x : ℕ) → first_failure f x 0 ≡ None
unfolding first_failure
first_none f x = refl

-- one age without failures before the rest
first_past : (f : ℕ → ℕ) (x k : ℕ) → f (suc x) ≡ 0 → (o : Option Age) → First f (suc x) k o → First f x (suc k) o
first_past f x k e None h = λ t l m. elim (cases_eq t (suc x)) [ inl s ↦ ap f s ∙ e | inr s ↦ h t (omega arith) (omega arith) ]
first_past f x k e (Some a) h = (omega (arith, h.0), h.1, λ t l m. elim (cases_eq t (suc x)) [ inl s ↦ ap f s ∙ e | inr s ↦ h.2 t (omega arith) m ])

first_means : (f : ℕ → ℕ) (x k : ℕ) → First f x k (first_failure f x k)
first_means f x zero = subst (First f x 0) (sym (first_none f x)) (λ t l m. absurd (omega arith))
first_means f x (suc k) = go (f (suc x)) refl (first_means f (suc x) k)
  where
    go : (v : ℕ) → f (suc x) ≡ v → First f (suc x) k (first_failure f (suc x) k) → First f x (suc k) (first_failure f x (suc k))
    go zero e ih = subst (First f x (suc k)) (sym (first_later f x k e)) (first_past f x k e (first_failure f (suc x) k) ih)
    go (suc v) e ih = subst (First f x (suc k)) (sym (first_here f x k (omega arith))) (omega arith, omega arith, λ t l m. absurd (omega arith))

first_next : (n f : ℕ → ℕ) → Lawful n f → (x : ℕ) (o : Option Age) → First f x (last_tick - x) o → Next f x o
first_next n f laws x None h = λ t l. elim (cases_lt last_tick t) [ inl m ↦ omega (arith, laws.within t, laws.ends t m) | inr m ↦ h t l (omega arith) ]
first_next n f laws x (Some a) h = h

pub next_means : (n f : ℕ → ℕ) → Lawful n f → (x : ℕ) → Next f x (next_failure f x)
unfolding next_failure
next_means n f laws x = first_next n f laws x (first_failure f x (last_tick - x)) (first_means f x (last_tick - x))

-- there is one answer only
next_once : (f : ℕ → ℕ) (x : ℕ) (o q : Option Age) → Next f x o → Next f x q → o ≡ q
next_once f x None None h k = refl
next_once f x None (Some b) h k = absurd (omega (arith, h b.0 k.0, k.1))
next_once f x (Some a) None h k = absurd (omega (arith, k a.0 h.0, h.1))
next_once f x (Some a) (Some b) h k = elim (cases_lt a.0 b.0) [
  | inl l ↦ absurd (omega (arith, h.1, k.2 a.0 h.0 l))
  | inr l ↦ elim (cases_lt b.0 a.0) [
    | inl m ↦ absurd (omega (arith, k.1, h.2 b.0 k.0 m))
    | inr m ↦ (let e : a.0 ≡ b.0 = omega arith in ap (λ (v : ℕ). Some (record { 0 = v })) e)
  ]
]

pub next_is : (n f : ℕ → ℕ) → Lawful n f → (x : ℕ) (o : Option Age) → Next f x o → o ≡ next_failure f x
next_is n f laws x o h = next_once f x o (next_failure f x) h (next_means n f laws x)

-- ---- the oldest age

latest_suc : (n : ℕ → ℕ) (t : ℕ) → latest n (suc t) ≡ cond (ltb 0 (n (suc t))) (suc t) (latest n t)
unfolding latest
latest_suc n t = refl

pub latest_zero : (n : ℕ → ℕ) → latest n 0 ≡ 0
unfolding latest
latest_zero n = refl

pub latest_none : (n : ℕ → ℕ) (t : ℕ) → n (suc t) ≡ 0 → latest n (suc t) ≡ latest n t
latest_none n t e = latest_suc n t ∙ cond-false _ _ _ (le-ltb 0 (n (suc t)) (omega arith))

pub latest_here : (n : ℕ → ℕ) (t : ℕ) → 0 < t → 0 < n t → latest n t ≡ t
latest_here n zero h p = omega arith
latest_here n (suc t) h p = latest_suc n t ∙ cond-true _ _ _ (lt-ltb 0 (n (suc t)) p)

pub latest_flat : (n : ℕ → ℕ) (a b : ℕ) → a ≤ b → ((u : ℕ) → a < u → u ≤ b → n u ≡ 0) → latest n b ≡ latest n a
latest_flat n a b h q = flat (latest n) n (latest_none n) a b h q

-- the age after which there is nothing, and at which there is something unless it is 0, is the latest
pub latest_is : (n : ℕ → ℕ) (t a : ℕ) → a ≤ t → Oldest n a → a ≡ latest n t
latest_is n t zero h o = sym (latest_flat n 0 t h (λ u l _. o.past u l) ∙ latest_zero n)
latest_is n t (suc a) h o = sym (latest_flat n (suc a) t h (λ u l _. o.past u l) ∙ latest_here n (suc a) (omega arith) (o.there (omega arith)))

oldest_within : (n f : ℕ → ℕ) → Lawful n f → (a : ℕ) → Oldest n a → a ≤ last_tick
oldest_within n f laws a o = elim (cases_lt last_tick a) [ inl h ↦ omega (arith, laws.ends a h, o.there (omega arith)) | inr h ↦ h ]

pub oldest_is : (n f : ℕ → ℕ) → Lawful n f → (a : ℕ) → Oldest n a → a ≡ oldest n
unfolding oldest
oldest_is n f laws a o = latest_is n last_tick a (oldest_within n f laws a o) o

-- up to any tick, the latest is such an age
latest_means : (n : ℕ → ℕ) (t : ℕ) → ((u : ℕ) → t < u → n u ≡ 0) → Oldest n (latest n t)
latest_means n zero e = subst (Oldest n) (sym (latest_zero n)) (record { past = λ u l. e u l; there = λ l. absurd (omega arith) })
latest_means n (suc t) e = go (n (suc t)) refl (latest_means n t)
  where
    go : (v : ℕ) → n (suc t) ≡ v → (((u : ℕ) → t < u → n u ≡ 0) → Oldest n (latest n t)) → Oldest n (latest n (suc t))
    go zero z ih = subst (Oldest n) (sym (latest_none n t z)) (ih (λ u l. elim (cases_eq u (suc t)) [ inl s ↦ ap n s ∙ z | inr s ↦ e u (omega arith) ]))
    go (suc v) z ih = subst (Oldest n) (sym (latest_here n (suc t) (omega arith) (omega arith))) (record { past = λ u l. e u l; there = λ l. omega arith })

pub oldest_means : (n f : ℕ → ℕ) → Lawful n f → Oldest n (oldest n)
unfolding oldest
oldest_means n f laws = latest_means n last_tick (λ u l. laws.ends u l)

pub questions_stand : QuestionsStand
questions_stand n f laws = (next_means n f laws, oldest_means n f laws)

-- of the same counts
pub next_same : (f g : ℕ → ℕ) → ((t : ℕ) → f t ≡ g t) → (x : ℕ) (o : Option Age) → Next f x o → Next g x o
next_same f g e x None h = λ t l. omega (arith, e t, h t l)
next_same f g e x (Some a) h = (h.0, omega (arith, e a.0, h.1), λ t l m. omega (arith, e t, h.2 t l m))

-- ---- the sum of two counts

module _ (f a b : ℕ → ℕ) (sum : (t : ℕ) → f t ≡ a t + b t) (x : ℕ) where
  pub next_right : Next a x None → (o : Option Age) → Next b x o → Next f x o
  next_right p None q = λ t l. omega (arith, sum t, p t l, q t l)
  next_right p (Some y) q = (q.0, omega (arith, sum y.0, q.1), λ t l k. omega (arith, sum t, p t l, q.2 t l k))

  pub next_sooner : (o q : Option Age) → Next a x o → Next b x q → Next f x (sooner o q)
  next_sooner None q p r = next_right p q r
  next_sooner (Some y) None p q = (p.0, omega (arith, sum y.0, p.1), λ t l k. omega (arith, sum t, p.2 t l k, q t l))
  next_sooner (Some y) (Some z) p q =
      let m = min y.0 z.0 in (
        omega (arith, p.0, q.0),
        elim (cases_lt y.0 z.0) [
          | inl h ↦ (let i : m ≡ y.0 = omega arith in omega (arith, sum m, ap a i, p.1))
          | inr h ↦ (let i : m ≡ z.0 = omega arith in omega (arith, sum m, ap b i, q.1))
        ],
        λ t l k. omega (arith, sum t, p.2 t l (omega arith), q.2 t l (omega arith)),
      )

pub oldest_both : (n a b : ℕ → ℕ) → ((t : ℕ) → n t ≡ a t + b t) → (x y m : ℕ) → m ≡ max x y → Oldest a x → Oldest b y → Oldest n m
oldest_both n a b sum x y m e p q = record {
  past = λ t l. omega (arith, sum t, p.past t (omega arith), q.past t (omega arith));
  there = λ l. elim (cases_lt x y) [
    | inl h ↦ (let i : m ≡ y = omega arith in omega (arith, sum m, ap b i, q.there (omega arith)))
    | inr h ↦ (let i : m ≡ x = omega arith in omega (arith, sum m, ap a i, p.there (omega arith)))
  ];
}

pub oldest_void : (n : ℕ → ℕ) → ((t : ℕ) → n t ≡ 0) → Oldest n 0
oldest_void n e = record { past = λ t _. e t; there = λ l. omega arith }

-- the difference of sums, where both rise
pub between_sum : (a b : ℕ → ℕ) (from to : ℕ) → between a from to + between b from to ≡ (upto a to + upto b to) - (upto a from + upto b from)
between_sum a b from to = elim (cases_lt from to) [
  | inl h ↦ omega (arith, upto_le a from to (omega arith), upto_le b from to (omega arith))
  | inr h ↦ omega (arith, upto_le a to from h, upto_le b to from h)
]
