-- The counts of a study, by the plain list of its places.
use Rattle.std.specs.Prelude.{ℕ, ◌+◌, ◌-◌, min, max, Bool, true, false, cond, not, ◌&&◌, List, [], ◌∷◌, Some, None, Option, ◌==◌, nat_le, nat_lt}
use Rattle.units.specs.declared.ages.Age.{Age}
use Rattle.lives.specs.Lives.{PlainPlace}
use Rattle.lives.specs.declared.types.Status.{Status}
use Rattle.lives.specs.declared.types.Status.TheVariants.{Failed, Withdrawn, Running}
use Rattle.sources.specs.Counts.{Counts}

abbrev pub is_failed : Status → Bool
is_failed Failed = true
is_failed Withdrawn = false
is_failed Running = false

-- a life that is not struck is watched from t - 1 to t: entry < t ≤ exit
abbrev pub watched_at : ℕ → PlainPlace → Bool
watched_at t p = not p.struck && (nat_lt p.life.entry t && nat_le t p.life.exit)

-- a life that is not struck failed at t: a failed life failed at its exit age
abbrev pub failed_at : ℕ → PlainPlace → Bool
failed_at t p = not p.struck && (is_failed p.life.status && p.life.exit == t)

-- a life that is not struck has failed
abbrev pub has_failed : PlainPlace → Bool
has_failed p = not p.struck && is_failed p.life.status

-- the age at which a life failed, where it did, is not struck, and is above x
abbrev pub failure_above : ℕ → PlainPlace → Option Age
failure_above x p = cond (has_failed p && nat_lt x p.life.exit) (Some (record { 0 = p.life.exit })) None

-- how many of the places pass a test
abbrev pub count : (PlainPlace → Bool) → List PlainPlace → ℕ
count q [] = 0
count q (p ∷ ps) = count q ps + cond (q p) 1 0

unfoldable pub study_watched : List PlainPlace → ℕ → ℕ
study_watched ps t = count (watched_at t) ps

unfoldable pub study_failed : List PlainPlace → ℕ → ℕ
study_failed ps t = count (failed_at t) ps

-- what a study means as a source
abbrev pub study_counts : List PlainPlace → Counts
study_counts ps = record { watched = study_watched ps; failed = study_failed ps }

-- the ticks after one age and up to another at which a life is watched
abbrev pub ticks_of : PlainPlace → ℕ → ℕ → ℕ
ticks_of p from to = cond p.struck 0 (min p.life.exit to - max p.life.entry from)

-- the last age at which a life is watched, or 0 where it is struck
abbrev pub last_age_of : PlainPlace → ℕ
last_age_of p = cond p.struck 0 p.life.exit
