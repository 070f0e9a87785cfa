-- What a batch answers is what the questions ask.
use Rattle.std.proofs.Common.{◌≡◌, ℕ, zero, suc, ◌-◌, ◌*◌, ◌<◌, ◌≤◌, min, Some, None, Option, inl, inr, ap, mul-zero, mul-suc, subst, sym, refl, is_lt, nat_cmp, arith}
use Rattle.std.proofs.lemmas.Bool.Decides.{nat_tests}
use Rattle.std.specs.Bool.{then_some}
use native.Mathlib.Nat.{mul-sub}
use Rattle.std.proofs.lemmas.Bool.{cases_lt}
use Rattle.units.specs.declared.ages.Age.{Age}
use Rattle.sources.specs.Ticks.{upto, between}
use Rattle.sources.specs.Questions.{Next, Oldest}
use Rattle.sources.specs.Tallies.{upto_suc, upto_zero, upto_flat, upto_le}
use Rattle.feed.specs.Batches.{PlainBatch, plain_batch, batch_watched, batch_failed}
use Rattle.feed.specs.BatchLaws.{watched_on, watched_late, failed_here, failed_else, batch_bounds}
use Rattle.feed.specs.declared.batch.Batch.{Batch}

-- the age is the next one with failures below it, and there is none from it on

next_there : (b : Batch) (x : ℕ) → x < b.age.0 → Next (batch_failed (plain_batch b)) x (Some b.age)
next_there b x h =
    let p = plain_batch b in
    (h, omega (arith, failed_here p p.age refl, (batch_bounds b).some), λ t l m. failed_else p t (λ s. absurd (omega (arith, s))))

next_none : (b : Batch) (x : ℕ) → b.age.0 ≤ x → Next (batch_failed (plain_batch b)) x None
next_none b x h = λ t l. failed_else (plain_batch b) t (λ s. absurd (omega (arith, s)))

pub next_answer : (b : Batch) (x : ℕ) (o : Option Age) → o ≡ then_some (is_lt (nat_cmp x b.age.0)) b.age → Next (batch_failed (plain_batch b)) x o
next_answer b x o e = elim (cases_lt x b.age.0) [
  | inl h ↦ (let is : o ≡ Some b.age = grind (arith, nat_tests, e) in subst (Next (batch_failed (plain_batch b)) x) (sym is) (next_there b x h))
  | inr h ↦ (let is : o ≡ None = grind (arith, nat_tests, e) in subst (Next (batch_failed (plain_batch b)) x) (sym is) (next_none b x h))
]

pub oldest_there : (b : PlainBatch) → 1 ≤ b.units → 1 ≤ b.age → Oldest (batch_watched b) b.age
oldest_there b some runs = record { past = λ t l. watched_late b t l; there = λ l. omega (arith, watched_on b b.age runs (omega arith)) }

-- up to an age the units ran so many ticks each
batch_upto : (b : PlainBatch) (m : ℕ) → m ≤ b.age → upto (batch_watched b) m ≡ b.units * m
batch_upto b zero h = omega (arith, upto_zero (batch_watched b), mul-zero b.units)
batch_upto b (suc m) h = omega (arith, upto_suc (batch_watched b) m, watched_on b (suc m) (omega arith) h, mul-suc b.units m, batch_upto b m (omega arith))

pub batch_between : (b : PlainBatch) (from to high low : ℕ) → high ≡ min to b.age → low ≡ min from high → b.units * (high - low) ≡ between (batch_watched b) from to
batch_between b from to high low eh el =
    let w = batch_watched b in
    let top : upto w to ≡ upto w high = upto_flat w high to (omega arith) (λ t l m. watched_late b t (omega arith)) in
    let p = batch_upto b high (omega arith) in
    let q = batch_upto b low (omega arith) in
    let d = mul-sub b.units high low in
    elim (cases_lt high from) [
      | inl h ↦ (let same : low ≡ high = omega arith in omega (arith, top, p, d, ap (λ n. b.units * n) same, upto_le w high from (omega arith)))
      | inr h ↦ (let same : low ≡ from = omega arith in omega (arith, top, p, q, d, ap (upto w) same))
    ]
