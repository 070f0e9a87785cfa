-- What a bound is.
use Rattle.std.proofs.Common.{◌≡◌, ℕ, suc, ◌+◌, ◌-◌, ◌<◌, Bool, true, false, refl, cond, not, eqb, ltb, List, map, length, Some, Ok, Err, sym, ap₂, ap, ◌∙◌, inl, inr, mul-le-mul_right, mod-lt, suc-mul, div-add-mod', arith}
use Rattle.std.proofs.lemmas.Bool.{cases_lt, eq-eqb, ne_eqb, cond-true, cond-false}
use Rattle.std.proofs.lemmas.List.{length-map}
use Rattle.std.specs.List.{slice_get}
use Rattle.units.specs.Hours.{last_tick, age_ticks}
use Rattle.units.specs.declared.ages.Age.{Age}
use Rattle.units.specs.Refusals.{Refused, refused, told}
use Rattle.units.specs.declared.refusals.Refusal.{Refusal}
use Rattle.sources.specs.Counts.{Lawful}
use Rattle.sources.specs.Ticks.{whole}
use Rattle.sources.specs.Tallies.{upto_zero, upto_below}
use Rattle.sources.specs.declared.run.BenchRun.{BenchRun}
use Rattle.sources.specs.Benches.{plain_bench, valid, bench_failed, bench_watched}
use Rattle.sources.specs.BenchLaws.{bench_laws}
use Rattle.sources.specs.Bounds.{LeastNotBelow, BoundMeans, percentile_answer, rounded_up, bound_numerator, bound_denominator, percentile, bound_by, bound_answer, last_failure, most_bound_failures}
use Rattle.sources.proofs.Ages.{final}
use Rattle.sources.proofs.Benches.{failures_are, failures_void, last_some, last_valid}
use Rattle.sources.specs.declared.bound.Confidence.{Confidence}

-- where units failed, units were watched
pub watched_some : (n f : ℕ → ℕ) → Lawful n f → 0 < whole f → 0 < whole n
watched_some n f laws h = omega (arith, upto_below f n laws.within last_tick, upto_zero f, upto_zero n)

pub rounded_least : (a b : ℕ) → 0 < b → LeastNotBelow a b (rounded_up a b)
rounded_least a b h =
    let q = rounded_up a b in
    let e = div-add-mod' (a + (b - 1)) b in
    let r = mod-lt (a + (b - 1)) h in
    record {
      not_below = omega arith;
      least = λ p g. elim (cases_lt p q) [
        | inl l ↦ omega (arith, mul-le-mul_right {m = suc p} {n = q} b (omega arith), e, suc-mul p b)
        | inr l ↦ l
      ];
    }

-- what the answer of the percentile says, by its one test

many : (v : Bool) (r : Refused) (m n : ℕ) → Err r ≡ cond v (Err (refused 15)) (Ok m) → Err r ≡ cond v (Err (refused 15)) (Ok n)
many true r m n e = e
many false r m n e = cc

few : (v : Bool) (k n : ℕ) → Ok k ≡ cond v (Err (refused 15)) (Ok n) → (v ≡ false) × (k ≡ n)
few true k n e = cc
few false k n e = (refl, cc)

-- ---- the bound of a bench run, by its data

pub bound_void : (c : Confidence) (b : BenchRun) → valid (plain_bench b) ≡ false → bound_answer c (plain_bench b) ≡ Err (refused 12)
bound_void c b e = cond-true (eqb (whole (bench_failed (plain_bench b))) 0) _ _ (eq-eqb _ 0 (failures_void (plain_bench b) e))

module _ (c : Confidence) (b : BenchRun) (ages : List Age) (e : valid (plain_bench b) ≡ true) (same : ages ≡ b.ages.now) where
  failures_all : whole (bench_failed (plain_bench b)) ≡ length ages
  failures_all = failures_are (plain_bench b) e ∙ length-map b.ages.now age_ticks ∙ ap length (sym same)

  pub bound_none : length ages ≡ 0 → bound_answer c (plain_bench b) ≡ Err (refused 12)
  bound_none h = cond-true (eqb (whole (bench_failed (plain_bench b))) 0) _ _ (eq-eqb _ 0 (failures_all ∙ h))

  module _ (last : Age) (at : Some last ≡ slice_get ages (length ages - 1)) where
    some : 0 < length ages
    some = (last_some ages last at).0

    last_all : last_failure (bench_failed (plain_bench b)) ≡ last.0
    last_all =
        last_valid (plain_bench b) e (omega (arith, some, ap length same, length-map b.ages.now age_ticks))
        ∙ ap (λ xs. final 0 (map age_ticks xs)) (sym same) ∙ (last_some ages last at).1

    pub watched_all : 0 < whole (bench_watched (plain_bench b))
    watched_all = watched_some (bench_watched (plain_bench b)) (bench_failed (plain_bench b)) (bench_laws (plain_bench b)) (omega (arith, failures_all, some))

    bound_of : bound_answer c (plain_bench b) ≡ bound_by c (length ages) last.0 b.stop.0 (whole (bench_watched (plain_bench b)))
    bound_of = ap₂ (λ k l. bound_by c k l b.stop.0 (whole (bench_watched (plain_bench b)))) failures_all last_all

    past_none : {X : Type 0} (x y : X) → cond (eqb (length ages) 0) x y ≡ y
    past_none x y = cond-false (eqb (length ages) 0) x y (ne_eqb (length ages) 0 (λ h. absurd (omega (arith, h, some))))

    -- a failure before the stop
    pub bound_elsewhere : true ≡ not (eqb last.0 b.stop.0) → bound_answer c (plain_bench b) ≡ Err (refused 14)
    bound_elsewhere h = bound_of ∙ past_none _ _ ∙ cond-true (not (eqb last.0 b.stop.0)) _ _ (sym h)

    -- past that, what the percentile answers decides
    module _ (h : false ≡ not (eqb last.0 b.stop.0)) where
      decided : bound_answer c (plain_bench b) ≡ cond (ltb most_bound_failures (length ages)) (Err (refused 15)) (Ok (rounded_up (bound_numerator (percentile c (length ages))) (bound_denominator (whole (bench_watched (plain_bench b))))))
      decided = bound_of ∙ past_none _ _ ∙ cond-false (not (eqb last.0 b.stop.0)) _ _ (sym h)

      pub bound_refused : (r : Refusal) → Err (told r) ≡ percentile_answer c (length ages) → Err (told r) ≡ bound_answer c (plain_bench b)
      bound_refused r p = many (ltb most_bound_failures (length ages)) (told r) _ _ p ∙ sym decided

      pub bound_is : (k q t : ℕ) → Ok k ≡ percentile_answer c (length ages) → t ≡ whole (bench_watched (plain_bench b)) → q ≡ rounded_up (bound_numerator k) (bound_denominator t) → Ok q ≡ bound_answer c (plain_bench b)
      bound_is k q t p w e =
          let f = few (ltb most_bound_failures (length ages)) k _ p in
          sym (decided ∙ cond-false (ltb most_bound_failures (length ages)) _ _ f.0 ∙ ap Ok (ap₂ (λ n m. rounded_up (bound_numerator n) (bound_denominator m)) (sym f.1) (sym w) ∙ sym e))

    -- it is the least whole number not below the quotient
    pub bound_least : (k q t : ℕ) → Ok k ≡ percentile_answer c (length ages) → t ≡ whole (bench_watched (plain_bench b)) → q ≡ rounded_up (bound_numerator k) (bound_denominator t) → BoundMeans c (plain_bench b) q
    bound_least k q t p w e =
        let f = few (ltb most_bound_failures (length ages)) k _ p in
        rw (failures_all, e, f.1, w) (rounded_least (bound_numerator (percentile c (length ages))) (bound_denominator (whole (bench_watched (plain_bench b)))) (omega (arith, watched_all)))
