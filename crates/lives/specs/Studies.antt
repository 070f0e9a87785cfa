-- A study as a plain list of places, and what the calls answer and leave.
use Rattle.std.specs.Prelude.{ℕ, zero, suc, ◌+◌, min, Bool, false, cond, not, List, [], ◌∷◌, ◌++◌, map, length, take, drop, Ok, Err, Result, nat_lt}
use Rattle.units.specs.Refusals.{Refused, refused}
use Rattle.lives.specs.declared.types.Place.{Place}
use Rattle.lives.specs.declared.studies.OpenStudy.{OpenStudy}
use Rattle.lives.specs.declared.studies.SealedStudy.{SealedStudy}
use Rattle.lives.specs.Lives.{PlainLife, PlainPlace, plain, unstruck, strike_out}

-- a study: its places in order, and what the rest of its life memory holds
pub record Held : Type 0 where
  pub places : List PlainPlace
  pub spare : List PlainPlace

-- the first places of memory m are used, n of them
abbrev pub held_in : List Place → ℕ → Held
held_in m n = record { places = map plain (take n m); spare = map plain (drop n m) }

abbrev pub held : OpenStudy → Held
held s = held_in s.memory.now s.used

abbrev pub sealed : SealedStudy → Held
sealed s = held_in s.memory.now s.used

-- a study is empty at its opening
abbrev pub opened : List PlainPlace → Held
opened m = record { places = []; spare = m }

-- a study uses at most this many places
abbrev pub most_places : ℕ
most_places = 1024

-- how many places a study can use, of the memory that it has
abbrev pub room : Held → ℕ
room h = min most_places (length h.places + length h.spare)

-- ---- entering a life that was judged

abbrev pub has_place : Held → Bool
has_place h = nat_lt (length h.places) (room h)

-- the place of the life, counted from 0; 9 where no place is left
abbrev pub enter_answer : Held → Result PlainLife Refused → Result ℕ Refused
enter_answer h (Ok l) = cond (has_place h) (Ok (length h.places)) (Err (refused 9))
enter_answer h (Err e) = Err e

-- the life stands at the end of the places, or nothing changed
abbrev pub enter_after : Held → Result PlainLife Refused → Held
enter_after h (Ok l) = cond (has_place h) (record { places = h.places ++ unstruck l ∷ []; spare = drop 1 h.spare }) h
enter_after h (Err e) = h

-- ---- striking

-- whether place i is used and not struck
abbrev pub unstruck_at : List PlainPlace → ℕ → Bool
unstruck_at [] i = false
unstruck_at (p ∷ ps) zero = not p.struck
unstruck_at (p ∷ ps) (suc i) = unstruck_at ps i

-- the places with place i struck
abbrev pub struck_at : List PlainPlace → ℕ → List PlainPlace
struck_at [] i = []
struck_at (p ∷ ps) zero = strike_out p ∷ ps
struck_at (p ∷ ps) (suc i) = p ∷ struck_at ps i

-- 10 where the place is unused or is struck
abbrev pub strike_answer : Held → ℕ → Result (Unit {0}) Refused
strike_answer h i = cond (unstruck_at h.places i) (Ok tt) (Err (refused 10))

abbrev pub strike_after : Held → ℕ → Held
strike_after h i = cond (unstruck_at h.places i) (record { places = struck_at h.places i; spare = h.spare }) h
