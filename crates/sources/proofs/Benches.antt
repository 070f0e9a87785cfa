-- What the questions of a bench run answer, over its data.
use Rattle.std.proofs.Common.{◌≡◌, ℕ, zero, suc, ◌+◌, ◌-◌, ◌*◌, ◌<◌, ◌≤◌, min, Bool, true, false, cond, ◌&&◌, eqb, List, [], ◌∷◌, map, length, get_or, Some, None, Option, add-one, sym, refl, ap, ◌∙◌, subst, inl, inr, mul-le-mul_left, mul-zero, mul-suc, arith}
use native.Mathlib.Nat.{mul-sub}
use Rattle.std.specs.Bool.{MatchBool}
use Rattle.std.specs.List.{AllWithin, HoldsAt, count_by, sum_by, slice_get}
use Rattle.std.specs.Option.{MatchOption, UnwrapsOrElse}
use Rattle.std.specs.Ordering.{nat_cmp, is_le, is_lt}
use Rattle.std.proofs.lemmas.List.{length-map}
use Rattle.std.proofs.lemmas.Option.{slice_get_cases}
use Rattle.std.proofs.lemmas.List.Sums.{sum_by-cons}
use Rattle.std.proofs.lemmas.Bool.Decides.{nat_tests}
use Rattle.std.proofs.lemmas.Bool.{cases_lt}
use Rattle.units.specs.Hours.{age_ticks, last_tick}
use Rattle.units.specs.declared.ages.Age.{Age}
use Rattle.sources.specs.Ticks.{upto, between, whole}
use Rattle.sources.specs.Counts.{most_in_all}
use Rattle.sources.specs.Questions.{Next, Oldest}
use Rattle.sources.specs.Tallies.{upto_zero, upto_suc, upto_flat, upto_le, upto_add, upto_same, upto_void, hit, hit_late}
use Rattle.sources.specs.declared.run.BenchRun.{BenchRun}
use Rattle.sources.specs.Benches.{PlainBench, plain_bench, in_order, sizes_valid, number_at, number_before, valid, bench_failed, bench_watched}
use Rattle.sources.specs.BenchLaws.{under, valid_means, order_parts, order_from, at_low, at_before, watched_on, watched_late, watched_cases, failed_valid, failed_void, bench_laws}
use Rattle.sources.specs.Bounds.{last_failure}
use Rattle.sources.proofs.Ages.{final}
use Rattle.sources.proofs.Questions.{latest_is}

-- ---- the order of the ages

abbrev no_age : Age
no_age = record { 0 = 0 }

order_next : (lo hi : ℕ) (xs : List Age) → in_order lo hi (map age_ticks xs) ≡ true → (k : ℕ) (d : Age) → suc k < length xs → (get_or xs k d).0 ≤ (get_or xs (suc k) d).0
order_next lo hi [] e k d h = absurd (omega arith)
order_next lo hi (x ∷ []) e k d h = absurd (omega arith)
order_next lo hi (x ∷ y ∷ ys) e zero d h = (order_parts x.0 hi y.0 (map age_ticks ys) (order_parts lo hi x.0 (map age_ticks (y ∷ ys)) e).2).0
order_next lo hi (x ∷ y ∷ ys) e (suc k) d h = order_next x.0 hi (y ∷ ys) (order_parts lo hi x.0 (map age_ticks (y ∷ ys)) e).2 k d (omega arith)

order_each : (lo hi : ℕ) (xs : List Age) → in_order lo hi (map age_ticks xs) ≡ true → (k : ℕ) (d : Age) → k < length xs → (lo ≤ (get_or xs k d).0) × ((get_or xs k d).0 ≤ hi)
order_each lo hi [] e k d h = absurd (omega arith)
order_each lo hi (x ∷ xs) e zero d h = let p = order_parts lo hi x.0 (map age_ticks xs) e in (p.0, p.1)
order_each lo hi (x ∷ xs) e (suc k) d h =
    let p = order_parts lo hi x.0 (map age_ticks xs) e in
    let q = order_each x.0 hi xs p.2 k d (omega arith) in
    (omega (arith, p.0, q.0), q.1)

pub false_from : (b : Bool) → (b ≡ true → ⊥) → false ≡ b
false_from true h = absurd (h refl)
false_from false h = refl

-- what the code asks of the ages: whether each is up to the next, and whether each is within the limits

up_to : (a b : ℕ) → is_le (nat_cmp a b) ≡ true → a ≤ b
up_to a b e = grind (arith, nat_tests)

past : (a b : ℕ) → is_le (nat_cmp a b) ≡ false → b < a
past a b e = grind (arith, nat_tests)

pub order_broken : (lo hi : ℕ) (xs : List Age) → (k : ℕ) × (k + 1 < length xs) × ((d : Age) → is_le (nat_cmp (get_or xs k d).0 (get_or xs (k + 1) d).0) ≡ false) → false ≡ in_order lo hi (map age_ticks xs)
order_broken lo hi xs h =
    let k = h.0 in
    let b : (get_or xs (suc k) no_age).0 < (get_or xs k no_age).0 = past _ _ (rw add-one at (h.2 no_age)) in
    false_from _ (λ e. absurd (omega (arith, order_next lo hi xs e k no_age (omega (arith, h.1)), b)))

-- the two tests of the code together
pub valid_by : (units stop : ℕ) (ages : List Age) (v : Bool) → v ≡ sizes_valid units (length ages) stop → (v && in_order 1 stop (map age_ticks ages)) ≡ valid (record { units = units; ages = map age_ticks ages; stop = stop })
unfolding valid
valid_by units stop ages v e = ap (λ x. x && in_order 1 stop (map age_ticks ages)) (e ∙ ap (λ k. sizes_valid units k stop) (sym (length-map ages age_ticks)))

-- ---- the last of the ages

-- of ages that are some, whatever d is
final_any : (d d' : ℕ) (xs : List ℕ) → 0 < length xs → final d xs ≡ final d' xs
final_any d d' [] h = absurd (omega arith)
final_any d d' (x ∷ xs) h = refl

-- as the code reads it
last_at : (d : ℕ) (xs : List Age) (n : ℕ) (a : Age) → length xs ≡ suc n → Some a ≡ slice_get xs n → final d (map age_ticks xs) ≡ a.0
last_at d [] n a l e = absurd (omega arith)
last_at d (x ∷ []) zero a l e = let q : x ≡ a = cc in ap age_ticks q
last_at d (x ∷ []) (suc n) a l e = absurd (omega arith)
last_at d (x ∷ y ∷ ys) zero a l e = absurd (omega arith)
last_at d (x ∷ y ∷ ys) (suc n) a l e = last_at x.0 (y ∷ ys) n a (omega arith) e

pub last_some : (xs : List Age) (a : Age) → Some a ≡ slice_get xs (length xs - 1) → (0 < length xs) × (final 0 (map age_ticks xs) ≡ a.0)
last_some [] a e = cc
last_some (x ∷ xs) a e = (omega arith, last_at 0 (x ∷ xs) (length (x ∷ xs) - 1) a (omega arith) e)

pub last_none : (xs : List Age) → None ≡ slice_get xs (length xs - 1) → length xs ≡ 0
last_none xs e = elim (slice_get_cases xs (length xs - 1)).1 [ inl h ↦ (let k = h.2 in cc) | inr h ↦ omega (arith, h.0) ]

-- the last age of the code, or the age 0 where there is none
pub last_or_zero : (xs : List Age) (o : Option Age) (a : Age) → o ≡ slice_get xs (length xs - 1) → UnwrapsOrElse o (λ r. r.0 ≡ 0) a → final 0 (map age_ticks xs) ≡ a.0
last_or_zero [] None a e u = sym u
last_or_zero [] (Some x) a e u = cc
last_or_zero (x ∷ xs) None a e u = absurd (omega (arith, last_none (x ∷ xs) e))
last_or_zero (x ∷ xs) (Some y) a e u = (last_some (x ∷ xs) y e).1 ∙ ap age_ticks (sym u)

final_from : (lo hi : ℕ) (xs : List ℕ) → in_order lo hi xs ≡ true → lo ≤ final lo xs
final_from lo hi [] e = omega arith
final_from lo hi (x ∷ xs) e = let p = order_parts lo hi x xs e in omega (arith, p.0, final_from x hi xs p.2)

final_to : (lo hi : ℕ) (xs : List ℕ) → in_order lo hi xs ≡ true → lo ≤ hi → final lo xs ≤ hi
final_to lo hi [] e h = h
final_to lo hi (x ∷ xs) e h = let p = order_parts lo hi x xs e in final_to x hi xs p.2 p.1

-- ages that rise are in order where the first and the last are within the limits

ordered : (lo hi : ℕ) (xs : List Age) → ((d : Age) → 0 < length xs → lo ≤ (get_or xs 0 d).0) → ((k : ℕ) (d : Age) → suc k < length xs → (get_or xs k d).0 ≤ (get_or xs (suc k) d).0)
    → final lo (map age_ticks xs) ≤ hi → in_order lo hi (map age_ticks xs) ≡ true
ordered lo hi [] first next top = refl
ordered lo hi (x ∷ xs) first next top =
    let rest = ordered x.0 hi xs (λ d h. next 0 d (omega arith)) (λ k d h. next (suc k) d (omega arith)) top in
    order_from lo hi x.0 (map age_ticks xs) (first x (omega arith)) (omega (arith, final_from x.0 hi (map age_ticks xs) rest, top)) rest

first_is : (xs : List Age) (a d : Age) → Some a ≡ slice_get xs 0 → get_or xs 0 d ≡ a
first_is [] a d e = cc
first_is (x ∷ xs) a d e = cc

pub order_whole : (hi : ℕ) (xs : List Age) (a b : Age) → Some a ≡ slice_get xs 0 → Some b ≡ slice_get xs (length xs - 1) → 1 ≤ a.0 → b.0 ≤ hi
    → ((k : ℕ) (d : Age) → k + 1 < length xs → is_le (nat_cmp (get_or xs k d).0 (get_or xs (k + 1) d).0) ≡ true) → true ≡ in_order 1 hi (map age_ticks xs)
order_whole hi xs a b first last low high next =
    let l = last_some xs b last in
    let some : 0 < length (map age_ticks xs) = omega (arith, l.0, length-map xs age_ticks) in
    sym (ordered 1 hi xs (λ d h. omega (arith, low, ap age_ticks (first_is xs a d first))) (λ k d h. up_to _ _ (rw add-one at (next k d (omega arith))))
    (omega (arith, high, l.1, final_any 1 0 (map age_ticks xs) some)))

pub order_sorted : (r : Bool) (hi : ℕ) (xs : List Age) (a b : Age) → Some a ≡ slice_get xs 0 → Some b ≡ slice_get xs (length xs - 1) → 1 ≤ a.0 → b.0 ≤ hi
    → MatchBool r ((k : ℕ) (d : Age) → k + 1 < length xs → is_le (nat_cmp (get_or xs k d).0 (get_or xs (k + 1) d).0) ≡ true)
    ((k : ℕ) × (k + 1 < length xs) × ((d : Age) → is_le (nat_cmp (get_or xs k d).0 (get_or xs (k + 1) d).0) ≡ false)) → r ≡ in_order 1 hi (map age_ticks xs)
order_sorted true hi xs a b first last low high next = order_whole hi xs a b first last low high next
order_sorted false hi xs a b first last low high some = order_broken 1 hi xs some

-- and each age that is read is within the limits where they are
pub order_within : (hi : ℕ) (xs : List Age) (i : ℕ) (a : Age) → Some a ≡ slice_get xs i → in_order 1 hi (map age_ticks xs) ≡ true → (1 ≤ a.0) × (a.0 ≤ hi)
order_within hi xs i a s e = elim (slice_get_cases xs i).1 [
  | inl h ↦ (
      let p = order_each 1 hi xs e i h.0 h.1 in
      let q : a ≡ h.0 = cc in (omega (arith, p.0, ap age_ticks h.3, ap age_ticks q), omega (arith, p.1, ap age_ticks h.3, ap age_ticks q)))
  | inr h ↦ cc
]

before_final : (lo hi : ℕ) (xs : List ℕ) (t : ℕ) → in_order lo hi xs ≡ true → final lo xs < t → number_before xs t ≡ length xs
before_final lo hi [] t e h = refl
before_final lo hi (x ∷ xs) t e h =
    let p = order_parts lo hi x xs e in
    omega (arith, under x t, final_from x hi xs p.2, before_final x hi xs t p.2 h)

at_final : (d : ℕ) (xs : List ℕ) → 0 < length xs → 1 ≤ number_at xs (final d xs)
at_final d [] h = absurd (omega arith)
at_final d (x ∷ []) h = omega (arith, hit x x)
at_final d (x ∷ y ∷ ys) h = omega (arith, at_final x (y ∷ ys) (omega arith))

-- ---- the oldest age: the stop age while some unit has not failed, else the last failure age

pub oldest_stop : (b : PlainBench) → valid b ≡ true → length b.ages < b.units → Oldest (bench_watched b) b.stop
oldest_stop b e h =
    let p = valid_means b e in
    record { past = λ t l. watched_late b t l; there = λ _. omega (arith, watched_on b e b.stop p.runs (omega arith), at_before b.ages b.stop) }

pub oldest_last : (b : PlainBench) → valid b ≡ true → b.units ≤ length b.ages → Oldest (bench_watched b) (final 0 b.ages)
oldest_last b e h =
    let xs = b.ages in
    let p = valid_means b e in
    let some = p.some in
    let order = p.order in
    subst (Oldest (bench_watched b)) (final_any 1 0 xs (omega arith)) (record {
      past = λ t l. elim (watched_cases b e t) [
        | inl w ↦ omega (arith, w.2, before_final 1 b.stop xs t order l)
        | inr w ↦ w.1
      ];
      there = λ _. omega (arith, watched_on b e (final 1 xs) (final_from 1 b.stop xs order) (final_to 1 b.stop xs order p.runs), at_before xs (final 1 xs), at_final 1 xs (omega arith), p.fits);
    })

-- ---- how many failed, and the last failure age

-- an age from 1 to n is met once up to n
hit_full : (x n : ℕ) → 1 ≤ x → x ≤ n → upto (λ t. cond (eqb x t) 1 0) n ≡ 1
hit_full x zero l h = omega arith
hit_full x (suc n) l h = elim (cases_lt n x) [
  | inl m ↦ omega (arith, upto_suc (λ t. cond (eqb x t) 1 0) n, hit x (suc n), hit_late x n m)
  | inr m ↦ omega (arith, upto_suc (λ t. cond (eqb x t) 1 0) n, hit x (suc n), hit_full x n l m)
]

at_full : (lo hi : ℕ) (xs : List ℕ) (n : ℕ) → 1 ≤ lo → in_order lo hi xs ≡ true → hi ≤ n → upto (number_at xs) n ≡ length xs
at_full lo hi [] n l e h = upto_void (number_at []) (λ t. refl) n
at_full lo hi (x ∷ xs) n l e h =
    let p = order_parts lo hi x xs e in
    let from = p.0 in
    let to = p.1 in
    omega (arith, upto_add (number_at xs) (λ t. cond (eqb x t) 1 0) n, hit_full x n (omega arith) (omega arith), at_full x hi xs n (omega arith) p.2 h)

pub failures_are : (b : PlainBench) → valid b ≡ true → whole (bench_failed b) ≡ length b.ages
failures_are b e =
    let p = valid_means b e in
    omega (arith, upto_zero (bench_failed b), upto_same (bench_failed b) (number_at b.ages) (failed_valid b e) last_tick, at_full 1 b.stop b.ages last_tick (omega arith) p.order p.limit)

pub failures_void : (b : PlainBench) → valid b ≡ false → whole (bench_failed b) ≡ 0
failures_void b e = let v = upto_void (bench_failed b) (failed_void b e) in omega (arith, v 0, v last_tick)

pub last_valid : (b : PlainBench) → valid b ≡ true → 0 < length b.ages → last_failure (bench_failed b) ≡ final 0 b.ages
unfolding last_failure
last_valid b e h =
    let xs = b.ages in
    let p = valid_means b e in
    let limit = p.limit in
    let high = final_to 1 b.stop xs p.order p.runs in
    sym (latest_is (bench_failed b) last_tick (final 1 xs) (omega arith) (record {
      past = λ t l. omega (arith, failed_valid b e t, at_before xs t, before_final 1 b.stop xs t p.order l);
      there = λ _. omega (arith, failed_valid b e (final 1 xs), at_final 1 xs (omega arith));
    })) ∙ final_any 1 0 xs h

-- ---- the next failure

order_self : (lo hi x : ℕ) (xs : List ℕ) → in_order lo hi (x ∷ xs) ≡ true → in_order x hi (x ∷ xs) ≡ true
order_self lo hi x xs e = let p = order_parts lo hi x xs e in order_from x hi x xs (omega arith) p.1 p.2

none_at : (x t : ℕ) (xs : List Age) → AllWithin (λ a. a.0 ≤ x) xs 0 (length xs) → x < t → number_at (map age_ticks xs) t ≡ 0
none_at x t [] low h = refl
none_at x t (y ∷ ys) low h = omega (arith, hit y.0 t, low 0 y (omega arith) (omega arith), none_at x t ys (λ k d _ l. low (suc k) d (omega arith) (omega arith)) h)

first_at : (lo hi x : ℕ) (xs : List Age) (i : ℕ) (a : Age) → in_order lo hi (map age_ticks xs) ≡ true → x < a.0 → i < length xs → HoldsAt (λ y. y ≡ a) xs i → AllWithin (λ y. y.0 ≤ x) xs 0 i
    → Next (number_at (map age_ticks xs)) x (Some a)
first_at lo hi x [] i a e h l is low = absurd (omega arith)
first_at lo hi x (y ∷ ys) zero a e h l is low =
    let same : y.0 ≡ a.0 = ap age_ticks (is a) in (
      h,
      omega (arith, hit y.0 a.0),
      λ t m n. at_low y.0 hi (y.0 ∷ map age_ticks ys) t (order_self lo hi y.0 (map age_ticks ys) e) (omega arith),
    )
first_at lo hi x (y ∷ ys) (suc i) a e h l is low =
    let before : y.0 ≤ x = low 0 a (omega arith) (omega arith) in
    let q = first_at y.0 hi x ys i a (order_parts lo hi y.0 (map age_ticks ys) e).2 h (omega arith) is (λ k d _ m. low (suc k) d (omega arith) (omega arith)) in
    (h, omega (arith, q.1), λ t m n. omega (arith, hit y.0 t, q.2 t m n))

pub next_found : (lo hi x : ℕ) (xs : List Age) (r : Option Age) → in_order lo hi (map age_ticks xs) ≡ true
    → MatchOption r (AllWithin (λ a. a.0 ≤ x) xs 0 (length xs)) (λ a. (x < a.0) × (i : ℕ) × (i < length xs) × HoldsAt (λ y. y ≡ a) xs i × AllWithin (λ y. y.0 ≤ x) xs 0 i)
    → Next (number_at (map age_ticks xs)) x r
next_found lo hi x xs None e low = λ t l. none_at x t xs low l
next_found lo hi x xs (Some a) e h = first_at lo hi x xs h.1 a e h.0 h.2 h.3 h.4

-- ---- how many failed at an age

pub number_by : (xs : List Age) (t : ℕ) → count_by (λ a. eqb a.0 t) xs ≡ number_at (map age_ticks xs) t
number_by [] t = refl
number_by (x ∷ xs) t = omega (arith, sum_by-cons (λ a. cond (eqb a.0 t) 1 0) x xs, number_by xs t)

-- ---- the exposure

-- the lower of two ages, as the code takes it
pub age_min : (a b r : Age) → r ≡ cond (is_lt (nat_cmp b.0 a.0)) b a → r.0 ≡ min a.0 b.0
age_min a b r e = grind (arith, nat_tests, e)

-- what the failed units ran up to m
abbrev ran : List ℕ → ℕ → ℕ
ran [] m = 0
ran (x ∷ xs) m = ran xs m + min x m

-- and from low to high
abbrev pub ran_between : List ℕ → ℕ → ℕ → ℕ
ran_between [] low high = 0
ran_between (x ∷ xs) low high = ran_between xs low high + (min x high - min x low)

pub ran_sum : (xs : List Age) (low high : ℕ) → sum_by (λ a. min a.0 high - min a.0 low) xs ≡ ran_between (map age_ticks xs) low high
ran_sum [] low high = refl
ran_sum (x ∷ xs) low high = omega (arith, sum_by-cons (λ a. min a.0 high - min a.0 low) x xs, ran_sum xs low high)

ran_parts : (xs : List ℕ) (low high : ℕ) → low ≤ high → ran_between xs low high + ran xs low ≡ ran xs high
ran_parts [] low high h = refl
ran_parts (x ∷ xs) low high h = omega (arith, ran_parts xs low high h)

ran_zero : (xs : List ℕ) → ran xs 0 ≡ 0
ran_zero [] = refl
ran_zero (x ∷ xs) = omega (arith, ran_zero xs)

ran_suc : (xs : List ℕ) (m : ℕ) → ran xs (suc m) + number_before xs (suc m) ≡ ran xs m + length xs
ran_suc [] m = refl
ran_suc (x ∷ xs) m = omega (arith, under x (suc m), ran_suc xs m)

module _ (b : PlainBench) (e : valid b ≡ true) (k : ℕ) (unfailed : k ≡ b.units - length b.ages) where
  bench_upto : (m : ℕ) → m ≤ b.stop → upto (bench_watched b) m ≡ k * m + ran b.ages m
  bench_upto zero h = omega (arith, upto_zero (bench_watched b), mul-zero k, ran_zero b.ages)
  bench_upto (suc m) h =
      let xs = b.ages in
      omega (arith, upto_suc (bench_watched b) m, watched_on b e (suc m) (omega arith) h, ran_suc xs m, mul-suc k m, at_before xs (suc m), (valid_means b e).fits, bench_upto m (omega arith))

  pub bench_between : (from to high low : ℕ) → high ≡ min to b.stop → low ≡ min from high → k * (high - low) + ran_between b.ages low high ≡ between (bench_watched b) from to
  bench_between from to high low eh el =
      let xs = b.ages in
      let w = bench_watched b in
      let top : upto w to ≡ upto w high = upto_flat w high to (omega arith) (λ t l m. watched_late b t (omega arith)) in
      let p = bench_upto high (omega arith) in
      let q = bench_upto low (omega arith) in
      let d = mul-sub k high low in
      let o = mul-le-mul_left {m = low} {n = high} k (omega arith) in
      let r = ran_parts xs low high (omega arith) in
      elim (cases_lt high from) [
        | inl h ↦ (let same : low ≡ high = omega arith in omega (arith, top, p, d, r, ap (λ n. k * n) same, ap (ran xs) same, upto_le w high from (omega arith)))
        | inr h ↦ (let same : low ≡ from = omega arith in omega (arith, top, p, q, d, o, r, ap (upto w) same))
      ]

-- as the code computes it: what the units ran that did not fail, and what those ran that failed
module _ (b : BenchRun) (ages : List Age) (same : ages ≡ b.ages.now) (e : valid (plain_bench b) ≡ true)
    (from to low high : Age) (eh : high ≡ cond (is_lt (nat_cmp b.stop.0 to.0)) b.stop to) (el : low ≡ cond (is_lt (nat_cmp high.0 from.0)) high from) where
  abbrev pub ran_in_all : ℕ
  ran_in_all = (b.units - length ages) * (high.0 - low.0) + sum_by (λ a. min a.0 high.0 - min a.0 low.0) ages

  pub exposure_is : ran_in_all ≡ between (bench_watched (plain_bench b)) from.0 to.0
  exposure_is =
      rw (same, ran_sum b.ages.now low.0 high.0)
      (bench_between (plain_bench b) e _ (ap (λ n. b.units - n) (sym (length-map b.ages.now age_ticks))) from.0 to.0 high.0 low.0 (age_min to b.stop high eh) (age_min from high low el))

  pub exposure_most : ran_in_all ≤ most_in_all
  exposure_most = omega (arith, exposure_is, (bench_laws (plain_bench b)).limited to.0)
