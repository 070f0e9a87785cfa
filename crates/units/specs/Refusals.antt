-- What a refusal says: its number in the rules, and for 6, 7 and 8 also a layer and the place of a word (for 6: the number of words).
use Rattle.std.specs.Prelude.{ℕ, Some, None, Ok, Err, Option, Result}
use Rattle.units.specs.declared.refusals.Layer.{Layer}
use Rattle.units.specs.declared.refusals.WordPlace.{WordPlace}
use Rattle.units.specs.declared.refusals.Refusal.{Refusal}
use Rattle.units.specs.declared.refusals.Refusal.TheVariants.{UnknownStatus, NotQuarterHours, BadAges, BadSerial, StudyInUse, BadLength, BadWord, BadCheck, NoPlaceLeft, NothingToStrike, BadBench, NothingThere, MemoryTooShort, NotStoppedAtFailure, TooManyFailures, BadNote, TooMuchToPool}

-- a refusal by its number alone, or by its number, the layer and the word place
pub data Refused : Type 0 where
  refused : ℕ → Refused
  refused_at : ℕ → Layer → ℕ → Refused

abbrev pub number_of : Refused → ℕ
number_of (refused n) = n
number_of (refused_at n l p) = n

abbrev pub place_of : Refused → Option WordPlace
place_of (refused n) = None
place_of (refused_at n l p) = Some (record { layer = l; place = p })

-- each case of the enum, by its number and its values
abbrev pub told : Refusal → Refused
told UnknownStatus = refused 1
told NotQuarterHours = refused 2
told BadAges = refused 3
told BadSerial = refused 4
told StudyInUse = refused 5
told (BadLength w) = refused_at 6 w.layer w.place
told (BadWord w) = refused_at 7 w.layer w.place
told (BadCheck w) = refused_at 8 w.layer w.place
told NoPlaceLeft = refused 9
told NothingToStrike = refused 10
told BadBench = refused 11
told NothingThere = refused 12
told MemoryTooShort = refused 13
told NotStoppedAtFailure = refused 14
told TooManyFailures = refused 15
told BadNote = refused 16
told TooMuchToPool = refused 17

-- an answer with its value seen by f and its refusal told
abbrev pub seen : {A B : Type 0} → (A → B) → Result A Refusal → Result B Refused
seen f (Ok x) = Ok (f x)
seen f (Err e) = Err (told e)

-- an answer with its value as it is
abbrev pub answer : {A : Type 0} → Result A Refusal → Result A Refused
answer r = seen (λ x. x) r
