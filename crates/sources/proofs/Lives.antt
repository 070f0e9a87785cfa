-- What the questions of a study answer, over its places.
use Rattle.std.proofs.Common.{◌≡◌, ℕ, zero, suc, ◌+◌, ◌-◌, ◌<◌, ◌≤◌, min, max, Bool, true, false, cond, not, ltb, leb, ◌⊎◌, List, [], ◌∷◌, map, Some, None, Option, sym, refl, ap, ◌∙◌, subst, inl, inr, arith}
use Rattle.std.proofs.lemmas.Bool.{and_from, and_left, and_right, le-leb, lt-leb, lt-ltb, le-ltb, cond-true, cond-false, cases_lt, cases_Bool, not_from_false, not_from_true}
use Rattle.std.proofs.lemmas.List.Sums.{sum_by-cons}
use Rattle.std.proofs.lemmas.Bool.Decides.{nat_tests}
use Rattle.std.specs.List.{count_by, fold, reduce, sum_by}
use Rattle.std.specs.Option.{unwrap_or, option_map, UnwrapsOrElse}
use Rattle.units.specs.Hours.{age_ticks}
use Rattle.units.specs.declared.ages.Age.{Age}
use Rattle.lives.specs.Lives.{PlainPlace, plain}
use Rattle.lives.specs.declared.types.Place.{Place}
use Rattle.sources.specs.Ticks.{upto, between}
use Rattle.sources.specs.Questions.{Next, Oldest, sooner}
use Rattle.sources.specs.Tallies.{upto_zero, upto_suc, upto_add, upto_void}
use Rattle.sources.specs.Studies.{watched_at, failed_at, failure_above, last_age_of, count, ticks_of}
use Rattle.sources.specs.StudyLaws.{Bounded}
use Rattle.sources.proofs.Questions.{between_sum, oldest_both, oldest_void, next_same, next_sooner}

-- what a chain over the places comes to, by the places as plain values

-- the places that pass a test
pub count_all : (q : PlainPlace → Bool) (ps : List Place) → count_by (λ p. q (plain p)) ps ≡ count q (map plain ps)
count_all q [] = refl
count_all q (p ∷ ps) = omega (arith, sum_by-cons (λ x. cond (q (plain x)) 1 0) p ps, count_all q ps)

-- when one life is watched

watched_on : (t : ℕ) (p : PlainPlace) → p.struck ≡ false → p.life.entry < t → t ≤ p.life.exit → watched_at t p ≡ true
watched_on t p s a b = and_from (not p.struck) _ (not_from_false p.struck s) (and_from (ltb p.life.entry t) (leb t p.life.exit) (lt-ltb p.life.entry t a) (le-leb t p.life.exit b))

watched_past : (t : ℕ) (p : PlainPlace) → p.life.exit < t → watched_at t p ≡ false
watched_past t p h = and_right (not p.struck) _ (and_right (ltb p.life.entry t) (leb t p.life.exit) (lt-leb t p.life.exit h))

watched_early : (t : ℕ) (p : PlainPlace) → t ≤ p.life.entry → watched_at t p ≡ false
watched_early t p h = and_right (not p.struck) _ (and_left (ltb p.life.entry t) (leb t p.life.exit) (le-ltb p.life.entry t h))

watched_struck : (t : ℕ) (p : PlainPlace) → p.struck ≡ true → watched_at t p ≡ false
watched_struck t p s = and_left (not p.struck) _ (not_from_true p.struck s)

no_one : (b : Bool) → b ≡ false → ◌≡◌ {A = ℕ} (cond b 1 0) 0
no_one b e = cond-false {A = ℕ} b 1 0 e

oldest_one : (p : PlainPlace) → Bounded p → Oldest (λ t. cond (watched_at t p) 1 0) (last_age_of p)
oldest_one p ok = elim (cases_Bool p.struck) [
  | inl s ↦ (let e : last_age_of p ≡ 0 = cond-true {A = ℕ} p.struck 0 p.life.exit s in record { past = λ t _. no_one _ (watched_struck t p s); there = λ l. omega (arith, e) })
  | inr s ↦ (let e : last_age_of p ≡ p.life.exit = cond-false {A = ℕ} p.struck 0 p.life.exit s in record {
    past = λ t l. no_one _ (watched_past t p (omega (arith, e)));
    there = λ l. omega (arith, cond-true {A = ℕ} _ 1 0 (watched_on (last_age_of p) p s (omega (arith, e, ok.0)) (omega (arith, e))));
  })
]

-- the exposure of one life, and of all

life_upto : (p : PlainPlace) → Bounded p → p.struck ≡ false → (m : ℕ) → upto (λ t. cond (watched_at t p) 1 0) m ≡ min m p.life.exit - min m p.life.entry
life_upto p ok s zero = omega (arith, upto_zero (λ t. cond (watched_at t p) 1 0))
life_upto p ok s (suc m) =
    let u = upto_suc (λ t. cond (watched_at t p) 1 0) m in
    let ih = life_upto p ok s m in
    elim (cases_lt p.life.entry (suc m)) [
      | inl a ↦ elim (cases_lt p.life.exit (suc m)) [
        | inl b ↦ omega (arith, u, ih, ok.0, no_one _ (watched_past (suc m) p b))
        | inr b ↦ omega (arith, u, ih, ok.0, cond-true {A = ℕ} _ 1 0 (watched_on (suc m) p s a b))
      ]
      | inr a ↦ omega (arith, u, ih, ok.0, no_one _ (watched_early (suc m) p a))
    ]

-- the ticks up to m of a life from e to x: none, some or all
abbrev Clip : ℕ → ℕ → ℕ → ℕ → Type 0
Clip e x m u = ((m ≤ e) × (u ≡ 0)) ⊎ (((e < m) × (m ≤ x) × (u + e ≡ m)) ⊎ ((x < m) × (u + e ≡ x)))

clip : (e x m u : ℕ) → e < x → u ≡ min m x - min m e → Clip e x m u
clip e x m u h p = elim (cases_lt e m) [
  | inl a ↦ elim (cases_lt x m) [ inl b ↦ inr (inr (b, omega arith)) | inr b ↦ inr (inl (a, b, omega arith)) ]
  | inr a ↦ inl (a, omega arith)
]

clipped : (e x from to u v : ℕ) → e < x → Clip e x from u → Clip e x to v → v - u ≡ min x to - max e from
clipped e x from to u v h (inl a) (inl b) = omega arith
clipped e x from to u v h (inl a) (inr (inl b)) = omega arith
clipped e x from to u v h (inl a) (inr (inr b)) = omega arith
clipped e x from to u v h (inr (inl a)) (inl b) = omega arith
clipped e x from to u v h (inr (inl a)) (inr (inl b)) = omega arith
clipped e x from to u v h (inr (inl a)) (inr (inr b)) = omega arith
clipped e x from to u v h (inr (inr a)) (inl b) = omega arith
clipped e x from to u v h (inr (inr a)) (inr (inl b)) = omega arith
clipped e x from to u v h (inr (inr a)) (inr (inr b)) = omega arith

life_between : (p : PlainPlace) → Bounded p → (from to : ℕ) → between (λ t. cond (watched_at t p) 1 0) from to ≡ ticks_of p from to
life_between p ok from to =
    let e = p.life.entry in
    let x = p.life.exit in
    elim (cases_Bool p.struck) [
      | inl s ↦ (let v = upto_void (λ t. cond (watched_at t p) 1 0) (λ t. no_one _ (watched_struck t p s)) in omega (arith, v from, v to, cond-true {A = ℕ} p.struck 0 (min x to - max e from) s))
      | inr s ↦ clipped e x from to _ _ ok.0 (clip e x from _ ok.0 (life_upto p ok s from)) (clip e x to _ ok.0 (life_upto p ok s to)) ∙ sym (cond-false {A = ℕ} p.struck 0 (min x to - max e from) s)
    ]

pub lives_between : (ps : List Place) (from to : ℕ) → sum_by (λ p. ticks_of (plain p) from to) ps ≡ between (λ t. count (watched_at t) (map plain ps)) from to
lives_between [] from to = let v = upto_void (λ t. count (watched_at t) []) (λ t. refl) in omega (arith, v from, v to)
lives_between (p ∷ ps) from to =
    let a = λ (t : ℕ). count (watched_at t) (map plain ps) in
    let b = λ (t : ℕ). cond {A = ℕ} (watched_at t (plain p)) 1 0 in
    omega (arith, upto_add a b from, upto_add a b to, between_sum a b from to, sum_by-cons (λ q. ticks_of (plain q) from to) p ps, life_between (plain p) (p.life.ok.2, p.life.ok.3) from to, lives_between ps from to)

-- the oldest age of all lives

-- the age up to which each was watched
abbrev pub last_ages : List Place → List ℕ
last_ages ps = map (λ p. last_age_of (plain p)) ps

-- beside other counts f, whose oldest age is x
oldest_from : (n f : ℕ → ℕ) (x : ℕ) (ps : List Place) → ((t : ℕ) → n t ≡ f t + count (watched_at t) (map plain ps)) → Oldest f x → Oldest n (fold max x (last_ages ps))
oldest_from n f x [] e o = record { past = λ t l. omega (arith, e t, o.past t l); there = λ l. omega (arith, e x, o.there l) }
oldest_from n f x (p ∷ ps) e o =
    let one = λ (t : ℕ). cond {A = ℕ} (watched_at t (plain p)) 1 0 in
    oldest_from n (λ t. f t + one t) (max x (last_age_of (plain p))) ps (λ t. omega (arith, e t))
    (oldest_both _ f one (λ t. refl) x (last_age_of (plain p)) _ refl o (oldest_one (plain p) (p.life.ok.2, p.life.ok.3)))

-- the highest number of a list, or 0
highest : (xs : List ℕ) → fold max 0 xs ≡ unwrap_or (reduce max xs) 0
highest [] = refl
highest (x ∷ xs) = let e : max 0 x ≡ x = omega arith in ap (λ y. fold max y xs) e

pub oldest_lives : (ps : List Place) → Oldest (λ t. count (watched_at t) (map plain ps)) (unwrap_or (reduce max (last_ages ps)) 0)
oldest_lives ps = subst (Oldest (λ t. count (watched_at t) (map plain ps))) (highest (last_ages ps)) (oldest_from _ (λ t. 0) 0 ps (λ t. omega arith) (oldest_void _ (λ t. refl)))

-- the same of an age, or of the age 0
pub age_or_zero : (o : Option Age) (a : Age) → UnwrapsOrElse o (λ r. r.0 ≡ 0) a → a.0 ≡ unwrap_or (option_map age_ticks o) 0
age_or_zero None a e = e
age_or_zero (Some x) a e = ap age_ticks e

-- the next failure of all lives

-- for each life the age above x at which it failed, if it did
abbrev pub failures_above : ℕ → List Place → List (Option Age)
failures_above x ps = map (λ p. failure_above x (plain p)) ps

-- one life as a count of failures
abbrev failure_at : Place → ℕ → ℕ
failure_at p t = cond (failed_at t (plain p)) 1 0

abbrev failures_at : List Place → ℕ → ℕ
failures_at ps t = count (failed_at t) (map plain ps)

next_one : (x : ℕ) (p : Place) → Next (failure_at p) x (failure_above x (plain p))
next_one x p = grind (arith, nat_tests)

-- beside other counts f, whose next failure is o
next_from : (n f : ℕ → ℕ) (x : ℕ) (o : Option Age) (ps : List Place) → ((t : ℕ) → n t ≡ f t + failures_at ps t) → Next f x o → Next n x (fold sooner o (failures_above x ps))
next_from n f x o [] e h = next_same f n (λ t. omega (arith, e t)) x o h
next_from n f x o (p ∷ ps) e h =
    next_from n (λ t. f t + failure_at p t) x (sooner o (failure_above x (plain p))) ps (λ t. omega (arith, e t))
    (next_sooner (λ t. f t + failure_at p t) f (failure_at p) (λ t. refl) x o _ h (next_one x p))

pub next_lives : (x : ℕ) (ps : List Place) → Next (λ t. count (failed_at t) (map plain ps)) x (fold sooner None (failures_above x ps))
next_lives x ps = next_from _ (λ t. 0) x None ps (λ t. omega arith) (λ t _. refl)
