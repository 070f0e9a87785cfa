-- The counts of a sealed study are lawful.
use Rattle.std.specs.Prelude.{◌≡◌, ℕ, ◌<◌, ◌≤◌, Bool, true, false, cond, not, ◌&&◌, ◌⊎◌, List, [], ◌∷◌, map, length, take, ◌==◌, nat_le, nat_lt, refl}
use Rattle.std.proofs.Common.{inl, inr, arith, length-take}
use Rattle.std.specs.List.{AllByRecursion}
use Rattle.std.proofs.lemmas.List.{length-map}
use Rattle.std.proofs.lemmas.Bool.{and_parts, and_from, and_left, and_right, eqb-true, le-leb, lt-leb, lt-ltb, le-ltb, cond-true, cond-false}
use Rattle.units.specs.Hours.{last_tick}
use Rattle.lives.specs.Lives.{PlainPlace, plain}
use Rattle.lives.specs.Studies.{sealed}
use Rattle.lives.specs.declared.types.Place.{Place}
use Rattle.lives.specs.declared.studies.SealedStudy.{SealedStudy}
use Rattle.sources.specs.Ticks.{upto}
use Rattle.sources.specs.Counts.{Lawful, most_failures}
use Rattle.sources.specs.Tallies.{upto_add, upto_void, upto_below, limited_by, hit_once}
use Rattle.sources.specs.Studies.{watched_at, failed_at, is_failed, count, study_watched, study_failed}

-- a place has the bounds of a life
abbrev pub Bounded : PlainPlace → Type 0
Bounded p = (p.life.entry < p.life.exit) × (p.life.exit ≤ last_tick)

-- a test and its count of one
pub tested : (b : Bool) → ((b ≡ true) × (◌≡◌ {A = ℕ} (cond b 1 0) 1)) ⊎ ((b ≡ false) × (◌≡◌ {A = ℕ} (cond b 1 0) 0))
tested true = inl (refl, refl)
tested false = inr (refl, refl)

-- a life that failed at t was watched at t
failed_watched : (t : ℕ) (p : PlainPlace) → Bounded p → failed_at t p ≡ true → watched_at t p ≡ true
failed_watched t p ok e =
    let a = and_parts (not p.struck) (is_failed p.life.status && p.life.exit == t) e in
    let b = and_parts (is_failed p.life.status) (p.life.exit == t) a.1 in
    let x = eqb-true p.life.exit t b.1 in
    and_from (not p.struck) _ a.0 (and_from (nat_lt p.life.entry t) (nat_le t p.life.exit) (lt-ltb p.life.entry t (omega (arith, x, ok.0))) (le-leb t p.life.exit (omega (arith, x))))

count_within : (t : ℕ) (ps : List PlainPlace) → AllByRecursion Bounded ps → count (failed_at t) ps ≤ count (watched_at t) ps
count_within t [] ok = omega arith
count_within t (p ∷ ps) ok = elim (tested (failed_at t p)) [
  | inl a ↦ omega (arith, a.1, cond-true {A = ℕ} (watched_at t p) 1 0 (failed_watched t p ok.0 a.0), count_within t ps ok.1)
  | inr a ↦ omega (arith, a.1, count_within t ps ok.1)
]

count_none : (q : PlainPlace → Bool) → ((p : PlainPlace) → Bounded p → q p ≡ false) → (ps : List PlainPlace) → AllByRecursion Bounded ps → count q ps ≡ 0
count_none q e [] ok = refl
count_none q e (p ∷ ps) ok = omega (arith, cond-false {A = ℕ} (q p) 1 0 (e p ok.0), count_none q e ps ok.1)

pub count_most : (q : PlainPlace → Bool) (ps : List PlainPlace) → count q ps ≤ length ps
count_most q [] = omega arith
count_most q (p ∷ ps) = omega (arith, tested (q p), count_most q ps)

-- one life is one failure at most
fails_once : (p : PlainPlace) (n : ℕ) → upto (λ t. cond (failed_at t p) 1 0) n ≤ 1
fails_once p n =
    let le : (t : ℕ) → cond (failed_at t p) 1 0 ≤ cond (p.life.exit == t) 1 0 = λ t. elim (tested (failed_at t p)) [
      | inl a ↦ (let b = and_parts (not p.struck) (is_failed p.life.status && p.life.exit == t) a.0 in
          omega (arith, a.1, cond-true {A = ℕ} (p.life.exit == t) 1 0 (and_parts (is_failed p.life.status) (p.life.exit == t) b.1).1))
      | inr a ↦ omega (arith, a.1)
    ] in
    omega (arith, upto_below (λ t. cond (failed_at t p) 1 0) (λ t. cond (p.life.exit == t) 1 0) le n, hit_once p.life.exit n)

count_all : (ps : List PlainPlace) (n : ℕ) → upto (λ t. count (failed_at t) ps) n ≤ length ps
count_all [] n = omega (arith, upto_void (λ t. count (failed_at t) []) (λ t. refl) n)
count_all (p ∷ ps) n = omega (arith, upto_add (λ t. count (failed_at t) ps) (λ t. cond (failed_at t p) 1 0) n, fails_once p n, count_all ps n)

pub study_laws : (ps : List PlainPlace) → AllByRecursion Bounded ps → length ps ≤ most_failures → Lawful (study_watched ps) (study_failed ps)
unfolding study_watched study_failed
study_laws ps ok short =
    let ends : (t : ℕ) → last_tick < t → count (watched_at t) ps ≡ 0 = λ t h. count_none (watched_at t) (λ p b. and_right (not p.struck) _ (and_right (nat_lt p.life.entry t) (nat_le t p.life.exit) (lt-leb t p.life.exit (omega (arith, b.1))))) ps ok in
    let few : (t : ℕ) → upto (λ u. count (failed_at u) ps) t ≤ most_failures = λ t. omega (arith, count_all ps t, short) in
    record {
      within = λ t. count_within t ps ok;
      starts = count_none (watched_at 0) (λ p b. and_right (not p.struck) _ (and_left (nat_lt p.life.entry 0) (nat_le 0 p.life.exit) (le-ltb p.life.entry 0 (omega arith)))) ps ok;
      ends = ends;
      few = few;
      limited = limited_by (λ t. count (watched_at t) ps) (λ u. count (failed_at u) ps) (λ t. omega (arith, count_most (watched_at t) ps, short)) ends few;
    }

-- every life carries its bounds
pub places_bounded : (ps : List Place) → AllByRecursion Bounded (map plain ps)
places_bounded [] = tt
places_bounded (p ∷ ps) = ((p.life.ok.2, p.life.ok.3), places_bounded ps)

-- a study has few places
pub sealed_short : (s : SealedStudy) → length (sealed s).places ≤ most_failures
sealed_short s = omega (arith, length-map (take s.used s.memory.now) plain, length-take s.used s.memory.now, s.ok.0)

pub sealed_laws : (s : SealedStudy) → Lawful (study_watched (sealed s).places) (study_failed (sealed s).places)
sealed_laws s = study_laws (sealed s).places (places_bounded (take s.used s.memory.now)) (sealed_short s)
