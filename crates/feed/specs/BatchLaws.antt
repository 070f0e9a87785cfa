-- The counts of a batch are lawful.
use Rattle.std.specs.Prelude.{◌≡◌, ℕ, zero, suc, ◌<◌, ◌≤◌, true, ◌&&◌, ◌≢◌, ◌==◌, nat_le}
use Rattle.std.proofs.Common.{inl, inr, ◌∙◌, arith}
use Rattle.std.proofs.lemmas.Bool.{and_parts, and_from, and_left, and_right, leb-true, le-leb, lt-leb, cases_lt, cases_eq, eq-eqb, ne_eqb, cond-true, cond-false}
use Rattle.units.specs.Hours.{last_tick}
use Rattle.sources.specs.Ticks.{upto}
use Rattle.sources.specs.Counts.{Lawful, most_failures}
use Rattle.sources.specs.Tallies.{upto_suc, upto_zero, upto_flat, limited_by}
use Rattle.feed.specs.BatchRules.{bounded, most_units}
use Rattle.feed.specs.Batches.{PlainBatch, plain_batch, batch_watched, batch_failed}
use Rattle.feed.specs.declared.batch.Batch.{Batch}

-- what the bounds are
pub record Bounds (units age : ℕ) : Type 0 where
  pub some : 1 ≤ units
  pub few : units ≤ most_units
  pub runs : 1 ≤ age
  pub limit : age ≤ last_tick

pub bounds_mean : (u a : ℕ) → bounded u a ≡ true → Bounds u a
bounds_mean u a e =
    let p = and_parts (nat_le 1 u && nat_le u most_units) (nat_le 1 a && nat_le a last_tick) e in
    let q = and_parts (nat_le 1 u) (nat_le u most_units) p.0 in
    let r = and_parts (nat_le 1 a) (nat_le a last_tick) p.1 in
    record { some = leb-true 1 u q.0; few = leb-true u most_units q.1; runs = leb-true 1 a r.0; limit = leb-true a last_tick r.1 }

-- what the counts are, at each tick

pub watched_on : (b : PlainBatch) (t : ℕ) → 1 ≤ t → t ≤ b.age → batch_watched b t ≡ b.units
unfolding batch_watched
watched_on b t l m = cond-true _ b.units 0 (and_from (nat_le 1 t) (nat_le t b.age) (le-leb 1 t l) (le-leb t b.age m))

pub watched_late : (b : PlainBatch) (t : ℕ) → b.age < t → batch_watched b t ≡ 0
unfolding batch_watched
watched_late b t h = cond-false _ b.units 0 (and_right (nat_le 1 t) (nat_le t b.age) (lt-leb t b.age h))

watched_first : (b : PlainBatch) → batch_watched b 0 ≡ 0
unfolding batch_watched
watched_first b = cond-false _ b.units 0 (and_left (nat_le 1 0) (nat_le 0 b.age) (lt-leb 1 0 (omega arith)))

pub failed_here : (b : PlainBatch) (t : ℕ) → t ≡ b.age → batch_failed b t ≡ b.units
unfolding batch_failed
failed_here b t e = cond-true (t == b.age) b.units 0 (eq-eqb t b.age e)

pub failed_else : (b : PlainBatch) (t : ℕ) → t ≢ b.age → batch_failed b t ≡ 0
unfolding batch_failed
failed_else b t n = cond-false (t == b.age) b.units 0 (ne_eqb t b.age n)

-- no tick has more than the units
watched_most : (b : PlainBatch) (t : ℕ) → batch_watched b t ≤ b.units
watched_most b zero = omega (arith, watched_first b)
watched_most b (suc t) = elim (cases_lt b.age (suc t)) [
  | inl h ↦ omega (arith, watched_late b (suc t) h)
  | inr h ↦ omega (arith, watched_on b (suc t) (omega arith) h)
]

-- nothing fails before the age, and all units fail once
failed_before : (b : PlainBatch) (n : ℕ) → n < b.age → upto (batch_failed b) n ≡ 0
failed_before b n h = upto_flat (batch_failed b) 0 n (omega arith) (λ u l m. failed_else b u (λ e. absurd (omega (arith, e)))) ∙ upto_zero (batch_failed b)

failed_once : (b : PlainBatch) (n : ℕ) → upto (batch_failed b) n ≤ b.units
failed_once b zero = omega (arith, upto_zero (batch_failed b))
failed_once b (suc n) = elim (cases_eq (suc n) b.age) [
  | inl e ↦ omega (arith, upto_suc (batch_failed b) n, failed_here b (suc n) e, failed_before b n (omega (arith, e)))
  | inr d ↦ omega (arith, upto_suc (batch_failed b) n, failed_else b (suc n) d, failed_once b n)
]

bounded_laws : (b : PlainBatch) → Bounds b.units b.age → Lawful (batch_watched b) (batch_failed b)
bounded_laws b p =
    let ends : (t : ℕ) → last_tick < t → batch_watched b t ≡ 0 = λ t h. watched_late b t (omega (arith, p.limit)) in
    let few : (t : ℕ) → upto (batch_failed b) t ≤ most_failures = λ t. omega (arith, failed_once b t, p.few) in
    record {
      within = λ t. elim (cases_eq t b.age) [
        | inl e ↦ omega (arith, failed_here b t e, watched_on b t (omega (arith, e, p.runs)) (omega (arith, e)))
        | inr d ↦ omega (arith, failed_else b t d)
      ];
      starts = watched_first b;
      ends = ends;
      few = few;
      limited = limited_by (batch_watched b) (batch_failed b) (λ t. omega (arith, watched_most b t, p.few)) ends few;
    }

-- a batch carries its bounds
pub batch_bounds : (b : Batch) → Bounds b.units b.age.0
batch_bounds b = bounds_mean b.units b.age.0 b.within

pub batch_laws : (b : Batch) → Lawful (batch_watched (plain_batch b)) (batch_failed (plain_batch b))
batch_laws b = bounded_laws (plain_batch b) (batch_bounds b)
