-- The counts of a bench run are lawful.
use Rattle.std.specs.Prelude.{◌≡◌, ℕ, zero, suc, ◌+◌, ◌-◌, ◌<◌, ◌≤◌, Bool, true, false, cond, ◌&&◌, ◌⊎◌, List, [], ◌∷◌, length, ◌==◌, nat_le, nat_lt, refl}
use Rattle.std.proofs.Common.{inl, inr, arith}
use Rattle.std.proofs.lemmas.Bool.{and_parts, and_from, and_left, and_right, leb-true, le-leb, lt-leb, lt-ltb, le-ltb, cases_lt, cond-true, cond-false}
use Rattle.units.specs.Hours.{last_tick}
use Rattle.sources.specs.Ticks.{upto}
use Rattle.sources.specs.Counts.{Lawful, most_failures}
use Rattle.sources.specs.Tallies.{upto_add, upto_void, limited_by, void_laws, upto_same, hit, hit_once}
use Rattle.sources.specs.Benches.{PlainBench, most_units, in_order, number_at, number_before, sizes_valid, valid, bench_failed, bench_watched}

-- a count of one by a test, as omega reads it
pub under : (x t : ℕ) → ((x < t) × (◌≡◌ {A = ℕ} (cond (nat_lt x t) 1 0) 1)) ⊎ ((t ≤ x) × (◌≡◌ {A = ℕ} (cond (nat_lt x t) 1 0) 0))
under x t = elim (cases_lt x t) [ inl e ↦ inl (e, cond-true {A = ℕ} _ 1 0 (lt-ltb x t e)) | inr e ↦ inr (e, cond-false {A = ℕ} _ 1 0 (le-ltb x t e)) ]

-- what the data of a valid bench are
pub record Valid (b : PlainBench) : Type 0 where
  pub some : 1 ≤ b.units
  pub few : b.units ≤ most_units
  pub runs : 1 ≤ b.stop
  pub limit : b.stop ≤ last_tick
  pub fits : length b.ages ≤ b.units
  pub order : in_order 1 b.stop b.ages ≡ true

pub valid_means : (b : PlainBench) → valid b ≡ true → Valid b
unfolding valid
valid_means b e =
    let u = b.units in
    let s = b.stop in
    let k = length b.ages in
    let p = and_parts (sizes_valid u k s) (in_order 1 s b.ages) e in
    let q = and_parts (nat_le 1 u && nat_le u most_units) ((nat_le 1 s && nat_le s last_tick) && nat_le k u) p.0 in
    let r = and_parts (nat_le 1 u) (nat_le u most_units) q.0 in
    let v = and_parts (nat_le 1 s && nat_le s last_tick) (nat_le k u) q.1 in
    let w = and_parts (nat_le 1 s) (nat_le s last_tick) v.0 in
    record { some = leb-true 1 u r.0; few = leb-true u most_units r.1; runs = leb-true 1 s w.0; limit = leb-true s last_tick w.1; fits = leb-true k u v.1; order = p.1 }

pub order_parts : (lo hi x : ℕ) (xs : List ℕ) → in_order lo hi (x ∷ xs) ≡ true → (lo ≤ x) × (x ≤ hi) × (in_order x hi xs ≡ true)
order_parts lo hi x xs e =
    let p = and_parts (nat_le lo x && nat_le x hi) (in_order x hi xs) e in
    let q = and_parts (nat_le lo x) (nat_le x hi) p.0 in
    (leb-true lo x q.0, leb-true x hi q.1, p.1)

pub order_from : (lo hi x : ℕ) (xs : List ℕ) → lo ≤ x → x ≤ hi → in_order x hi xs ≡ true → in_order lo hi (x ∷ xs) ≡ true
order_from lo hi x xs a b e = and_from (nat_le lo x && nat_le x hi) (in_order x hi xs) (and_from (nat_le lo x) (nat_le x hi) (le-leb lo x a) (le-leb x hi b)) e

pub at_low : (lo hi : ℕ) (xs : List ℕ) (t : ℕ) → in_order lo hi xs ≡ true → t < lo → number_at xs t ≡ 0
at_low lo hi [] t e h = refl
at_low lo hi (x ∷ xs) t e h =
    let p = order_parts lo hi x xs e in
    omega (arith, p, hit x t, at_low x hi xs t p.2 (omega (arith, p.0)))

at_high : (lo hi : ℕ) (xs : List ℕ) (t : ℕ) → in_order lo hi xs ≡ true → hi < t → number_at xs t ≡ 0
at_high lo hi [] t e h = refl
at_high lo hi (x ∷ xs) t e h =
    let p = order_parts lo hi x xs e in
    omega (arith, p.0, p.1, hit x t, at_high x hi xs t p.2 h)

pub at_before : (xs : List ℕ) (t : ℕ) → number_at xs t + number_before xs t ≤ length xs
at_before [] t = omega arith
at_before (x ∷ xs) t = omega (arith, hit x t, under x t, at_before xs t)

at_all : (xs : List ℕ) (n : ℕ) → upto (number_at xs) n ≤ length xs
at_all [] n = omega (arith, upto_void (number_at []) (λ t. refl) n)
at_all (x ∷ xs) n = omega (arith, upto_add (number_at xs) (λ t. cond (x == t) 1 0) n, hit_once x n, at_all xs n)

-- what the counts are, of a valid bench and of a void one

pub failed_valid : (b : PlainBench) → valid b ≡ true → (t : ℕ) → bench_failed b t ≡ number_at b.ages t
unfolding bench_failed
failed_valid b e t = cond-true (valid b) (number_at b.ages t) 0 e

pub failed_void : (b : PlainBench) → valid b ≡ false → (t : ℕ) → bench_failed b t ≡ 0
unfolding bench_failed
failed_void b e t = cond-false (valid b) (number_at b.ages t) 0 e

pub watched_void : (b : PlainBench) → valid b ≡ false → (t : ℕ) → bench_watched b t ≡ 0
unfolding bench_watched
watched_void b e t = cond-false _ (b.units - number_before b.ages t) 0 (and_left (valid b) _ e)

pub watched_on : (b : PlainBench) → valid b ≡ true → (t : ℕ) → 1 ≤ t → t ≤ b.stop → bench_watched b t ≡ b.units - number_before b.ages t
unfolding bench_watched
watched_on b e t l m = cond-true _ (b.units - number_before b.ages t) 0 (and_from (valid b) _ e (and_from (nat_le 1 t) (nat_le t b.stop) (le-leb 1 t l) (le-leb t b.stop m)))

pub watched_late : (b : PlainBench) (t : ℕ) → b.stop < t → bench_watched b t ≡ 0
unfolding bench_watched
watched_late b t h = cond-false _ (b.units - number_before b.ages t) 0 (and_right (valid b) _ (and_right (nat_le 1 t) (nat_le t b.stop) (lt-leb t b.stop h)))

watched_first : (b : PlainBench) → bench_watched b 0 ≡ 0
unfolding bench_watched
watched_first b = cond-false _ (b.units - number_before b.ages 0) 0 (and_right (valid b) _ (and_left (nat_le 1 0) (nat_le 0 b.stop) (lt-leb 1 0 (omega arith))))

-- each tick either is past the ends or has its value
pub watched_cases : (b : PlainBench) → valid b ≡ true → (t : ℕ) → ((1 ≤ t) × (t ≤ b.stop) × (bench_watched b t ≡ b.units - number_before b.ages t)) ⊎ (((t < 1) ⊎ (b.stop < t)) × (bench_watched b t ≡ 0))
watched_cases b e zero = inr (inl (omega arith), watched_first b)
watched_cases b e (suc t) = elim (cases_lt b.stop (suc t)) [
  | inl h ↦ inr (inr h, watched_late b (suc t) h)
  | inr h ↦ (let l : 1 ≤ suc t = omega arith in inl (l, h, watched_on b e (suc t) l h))
]

valid_laws : (b : PlainBench) → valid b ≡ true → Lawful (bench_watched b) (bench_failed b)
valid_laws b e =
    let p = valid_means b e in
    let xs = b.ages in
    let s = b.stop in
    let ends : (t : ℕ) → last_tick < t → bench_watched b t ≡ 0 = λ t h. watched_late b t (omega (arith, p.limit)) in
    let few : (t : ℕ) → upto (bench_failed b) t ≤ most_failures = λ t. omega (arith, upto_same (bench_failed b) (number_at xs) (failed_valid b e) t, at_all xs t, p.fits, p.few) in
    record {
      within = λ t. elim (watched_cases b e t) [
        | inl h ↦ omega (arith, h, failed_valid b e t, at_before xs t, p.fits)
        | inr h ↦ elim h.0 [
          | inl l ↦ omega (arith, failed_valid b e t, at_low 1 s xs t p.order l)
          | inr l ↦ omega (arith, failed_valid b e t, at_high 1 s xs t p.order l)
        ]
      ];
      starts = watched_first b;
      ends = ends;
      few = few;
      limited = limited_by (bench_watched b) (bench_failed b) (λ t. elim (watched_cases b e t) [ inl h ↦ omega (arith, h, p.few) | inr h ↦ omega (arith, h.1) ]) ends few;
    }

pub bench_laws : (b : PlainBench) → Lawful (bench_watched b) (bench_failed b)
bench_laws b = go (valid b) refl
  where
    go : (v : Bool) → valid b ≡ v → Lawful (bench_watched b) (bench_failed b)
    go true e = valid_laws b e
    go false e = void_laws _ _ (watched_void b e) (failed_void b e)
