-- Calls on a study, and the plain list of lives with marks that the study is compared with.
-- The list is empty at the opening. It is told only the length of the life memory, the same throughout, and what each call was given.
-- A call that the refusal numbers refuse, with the list for the study's places and that length for its memory, changes nothing.
-- Else an entry or a row adds its life at the end, unmarked; a striking marks the life at its place; a load adds its lives with their marks.
use Rattle.std.specs.Prelude.{ℕ, ◌+◌, min, Bool, cond, ◌&&◌, List, [], ◌∷◌, ◌++◌, length, Some, None, Ok, Err, fold, Option, Result, ◌==◌, nat_le, nat_lt}
use Rattle.units.specs.Refusals.{Refused, refused}
use Rattle.pooling.specs.Pooling.{unless_refused}
use Rattle.lives.specs.declared.types.UncheckedLife.{UncheckedLife}
use Rattle.lives.specs.Lives.{PlainLife, PlainPlace, judge, unstruck}
use Rattle.lives.specs.Sheets.{PlainRow, plain_row, row_life}
use Rattle.lives.specs.Decode.{decode}
use Rattle.lives.specs.Studies.{most_places, unstruck_at, struck_at}
use Rattle.sources.specs.Counts.{Counts}
use Rattle.sources.specs.Studies.{is_failed}
use Rattle.history.specs.declared.calls.Call.{Call}
use Rattle.history.specs.declared.calls.Call.TheVariants.{Enter, Row, Strike, Load}

-- a call, with what it was given
pub data PlainCall : Type 0 where
  enter : UncheckedLife → PlainCall
  row : PlainRow → PlainCall
  strike : ℕ → PlainCall
  load : List ℕ → PlainCall

abbrev pub plain_call : Call → PlainCall
plain_call (Enter u) = enter u
plain_call (Row r) = row (plain_row r)
plain_call (Strike i) = strike i
plain_call (Load ws) = load ws.now

-- ---- the plain list

-- a life that was judged, unmarked, as a list to add
abbrev pub one_life : Result PlainLife Refused → Result (List PlainPlace) Refused
one_life (Ok l) = Ok (unstruck l ∷ [])
one_life (Err e) = Err e

-- lives to add are refused by what is wrong with them, else by 9 where they would use more places than memory has, or more than 1,024
abbrev pub adding_refusal : ℕ → List PlainPlace → Result (List PlainPlace) Refused → Option Refused
adding_refusal n ps (Err e) = Some e
adding_refusal n ps (Ok qs) = cond (nat_le (length ps + length qs) (min most_places n)) None (Some (refused 9))

-- the list with lives added at its end
abbrev pub added : List PlainPlace → Result (List PlainPlace) Refused → List PlainPlace
added ps (Ok qs) = ps ++ qs
added ps (Err e) = ps

-- What refuses a call, with memory of n places: an entry 1, 3, 4, then 9; a row 1, 2, 3, 4, then 9;
-- a striking 10, where no unmarked life stands at the place; a load 5, where the list is not empty, then 6, 7, 8, then 9.
abbrev pub refusal : ℕ → List PlainPlace → PlainCall → Option Refused
refusal n ps (enter u) = adding_refusal n ps (one_life (judge u))
refusal n ps (row r) = adding_refusal n ps (one_life (row_life r))
refusal n ps (strike i) = cond (unstruck_at ps i) None (Some (refused 10))
refusal n ps (load ws) = cond (length ps == 0) (adding_refusal n ps (decode ws)) (Some (refused 5))

-- the list after a call that nothing refuses
abbrev pub accepted : List PlainPlace → PlainCall → List PlainPlace
accepted ps (enter u) = added ps (one_life (judge u))
accepted ps (row r) = added ps (one_life (row_life r))
accepted ps (strike i) = struck_at ps i
accepted ps (load ws) = added ps (decode ws)

-- what such a call answers: the place of the life entered or struck, or the number of lives loaded
abbrev pub call_value : List PlainPlace → PlainCall → ℕ
call_value ps (enter u) = length ps
call_value ps (row r) = length ps
call_value ps (strike i) = i
call_value ps (load ws) = length (added ps (decode ws))

-- the list after a call: a refused one changes nothing
abbrev pub listed_after : ℕ → List PlainPlace → PlainCall → List PlainPlace
listed_after n ps c = unless_refused (refusal n ps c) ps (accepted ps c)

-- the list after calls, the last one last
unfoldable pub listed : ℕ → List PlainCall → List PlainPlace
listed n cs = fold (listed_after n) [] cs

-- ---- the lives of the list

-- the lives without a mark: those accepted and not struck
abbrev pub unmarked : List PlainPlace → List PlainLife
unmarked [] = []
unmarked (p ∷ ps) = cond p.struck (unmarked ps) (p.life ∷ unmarked ps)

-- how many lives pass a test
abbrev pub how_many : (PlainLife → Bool) → List PlainLife → ℕ
how_many q [] = 0
how_many q (l ∷ ls) = how_many q ls + cond (q l) 1 0

-- the counts of lives: at tick t those with entry < t ≤ exit are watched, and the failed ones with exit t fail
unfoldable pub life_counts : List PlainLife → Counts
life_counts ls = record {
  watched = λ t. how_many (λ l. nat_lt l.entry t && nat_le t l.exit) ls;
  failed = λ t. how_many (λ l. is_failed l.status && l.exit == t) ls;
}
