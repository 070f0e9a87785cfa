-- The places of a study in its memory, after an entry and after a striking.
use Rattle.std.proofs.Common.{◌≡◌, ℕ, zero, suc, ◌<◌, ◌≤◌, min, Bool, true, false, not, List, [], ◌∷◌, map, length, get_or, take, drop, set, sym, refl, ap, ◌∙◌, le_of_suc-le-suc, not-suc-le-zero, arith}
use Rattle.std.proofs.lemmas.Grind.{common_steps}
use Rattle.std.proofs.lemmas.List.{length-map, length-take-le, drop-set-lt}
use Rattle.lives.specs.declared.studies.OpenStudy.{OpenStudy}
use Rattle.lives.specs.declared.types.Place.{Place}
use Rattle.lives.specs.Lives.{PlainPlace, plain}
use Rattle.lives.specs.Studies.{Held, held, held_in, room, most_places, unstruck_at, struck_at}

-- how many places memory gives room for
abbrev pub room_in : List Place → ℕ
room_in m = min most_places (length m)

abbrev pub struck_place : Place → Place
struck_place p = record { life = p.life; struck = true }

pub same_held : {ps qs ms ns : List PlainPlace} → ps ≡ qs → ms ≡ ns → ◌≡◌ {A = Held} (record { places = ps; spare = ms }) (record { places = qs; spare = ns })
same_held e f = λ i. record { places = e i; spare = f i }

pub length_used : (m : List Place) (n : ℕ) → n ≤ length m → length (map plain (take n m)) ≡ n
length_used m n h = length-map (take n m) plain ∙ length-take-le n m h

pub room_is : (m : List Place) (n : ℕ) → n ≤ length m → room (held_in m n) ≡ room_in m
room_is m n h = grind (arith, common_steps)

-- ---- a striking

pub unstruck_in : (m : List Place) (k i : ℕ) (d : Place) → i < k → i < length m → unstruck_at (map plain (take k m)) i ≡ not (get_or m i d).struck
unstruck_in [] k i d h b = absurd (not-suc-le-zero b)
unstruck_in (y ∷ m) zero i d h b = absurd (not-suc-le-zero h)
unstruck_in (y ∷ m) (suc k) zero d h b = refl
unstruck_in (y ∷ m) (suc k) (suc i) d h b = unstruck_in m k i d (le_of_suc-le-suc h) (le_of_suc-le-suc b)

-- whether a place in use is struck
pub struck_is : (s : OpenStudy) (i : ℕ) (d : Place) → i < s.used → (get_or s.memory.now i d).struck ≡ not (unstruck_at (held s).places i)
struck_is s i d h = twice _ ∙ ap not (sym (unstruck_in s.memory.now s.used i d h (omega (arith, s.ok.1))))
  where
    twice : (b : Bool) → b ≡ not (not b)
    twice true = refl
    twice false = refl

pub unstruck_past : (ps : List PlainPlace) (i : ℕ) → length ps ≤ i → unstruck_at ps i ≡ false
unstruck_past [] i h = refl
unstruck_past (p ∷ ps) zero h = absurd (not-suc-le-zero h)
unstruck_past (p ∷ ps) (suc i) h = unstruck_past ps i (le_of_suc-le-suc h)

struck_take : (m : List Place) (k i : ℕ) (d : Place) → i < k → struck_at (map plain (take k m)) i ≡ map plain (take k (set m i (struck_place (get_or m i d))))
struck_take m zero i d h = absurd (not-suc-le-zero h)
struck_take [] (suc k) i d h = refl
struck_take (y ∷ m) (suc k) zero d h = refl
struck_take (y ∷ m) (suc k) (suc i) d h = ap (λ ps. plain y ∷ ps) (struck_take m k i d (le_of_suc-le-suc h))

pub held_struck : (m : List Place) (n i : ℕ) (d : Place) → i < n →
    held_in (set m i (struck_place (get_or m i d))) n ≡ record { places = struck_at (map plain (take n m)) i; spare = map plain (drop n m) }
held_struck m n i d h = same_held (sym (struck_take m n i d h)) (ap (map plain) (drop-set-lt n m i (struck_place (get_or m i d)) h))
