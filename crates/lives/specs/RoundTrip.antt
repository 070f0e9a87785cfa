-- An archive and the places that it says are one to one.
use Rattle.std.specs.Prelude.{◌≡◌, ℕ, ◌≤◌, Bool, cond, ◌&&◌, List, ◌++◌, map, length, drop, Ok, Err, Result, ◌==◌, nat_le}
use Rattle.units.specs.Refusals.{Refused, refused}
use Rattle.lives.specs.declared.types.Place.{Place}
use Rattle.lives.specs.Archive.{archive_of, archive_length}
use Rattle.lives.specs.Decode.{decode}
use Rattle.lives.specs.Lives.{PlainPlace, plain}
use Rattle.lives.specs.Studies.{Held, room, most_places}

-- decoding what is written gives the places written, marks included
abbrev pub ReadsBack : Type 0
ReadsBack = (ps : List Place) → length ps ≤ most_places → decode (archive_of (map plain ps)) ≡ Ok (map plain ps)

-- words that decode to some places are exactly the words written for them
abbrev pub OnlyWritten : Type 0
OnlyWritten = (ws : List ℕ) (ps : List PlainPlace) → decode ws ≡ Ok ps → ws ≡ archive_of ps

-- ---- taking over the places of a sealed study

-- the study is empty and has room, and the words hold the archive
abbrev pub can_take_over : Held → List PlainPlace → List ℕ → Bool
can_take_over h ps ws = length h.places == 0 && nat_le (length ps) (room h) && nat_le (archive_length ps) (length ws)

-- the number of places; 5, 9, 13
abbrev pub take_over_answer : Held → List PlainPlace → List ℕ → Result ℕ Refused
take_over_answer h ps ws =
    cond (length h.places == 0)
    (cond (nat_le (length ps) (room h)) (cond (nat_le (archive_length ps) (length ws)) (Ok (length ps)) (Err (refused 13))) (Err (refused 9)))
    (Err (refused 5))

-- the same places, and the memory past them stays; or nothing changed
abbrev pub take_over_after : Held → List PlainPlace → List ℕ → Held
take_over_after h ps ws = cond (can_take_over h ps ws) (record { places = ps; spare = drop (length ps) h.spare }) h

-- the words hold the archive, or nothing changed
abbrev pub take_over_words : Held → List PlainPlace → List ℕ → List ℕ
take_over_words h ps ws = cond (can_take_over h ps ws) (archive_of ps ++ drop (archive_length ps) ws) ws
