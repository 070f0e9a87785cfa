-- What a row of a sheet says.
use Rattle.std.specs.Prelude.{ℕ, cond, List, Ok, Err, codes, Result, Float}
use Rattle.std.specs.Str.{bytes_eq}
use Rattle.units.specs.Hours.{hours_age}
use Rattle.units.specs.Refusals.{Refused, refused}
use Rattle.lives.specs.declared.types.Status.{Status}
use Rattle.lives.specs.declared.types.Status.TheVariants.{Failed, Withdrawn, Running}
use Rattle.lives.specs.declared.sheets.SheetRow.{SheetRow}
use Rattle.lives.specs.Lives.{PlainLife, judge, status_code}

-- the hours are binary64 numbers, the status is the bytes of a word
pub record PlainRow : Type 0 where
  pub serial : ℕ
  pub from : Float
  pub to : Float
  pub status : List ℕ

abbrev pub plain_row : SheetRow → PlainRow
plain_row r = record { serial = r.serial; from = r.from_hours; to = r.to_hours; status = r.status.now }

-- one of three words, to the letter; any other is refused by 1
abbrev pub status_word : List ℕ → Result Status Refused
status_word w =
    cond (bytes_eq w (codes "FAILED")) (Ok Failed)
    (cond (bytes_eq w (codes "WITHDRAWN")) (Ok Withdrawn)
    (cond (bytes_eq w (codes "RUNNING")) (Ok Running) (Err (refused 1))))

-- the parts in the order of checking: the status word, the hours, and then as for any life
abbrev pub life_by : ℕ → Result Status Refused → Result ℕ Refused → Result ℕ Refused → Result PlainLife Refused
life_by serial (Err e) from to = Err e
life_by serial (Ok s) (Err e) to = Err e
life_by serial (Ok s) (Ok a) (Err e) = Err e
life_by serial (Ok s) (Ok a) (Ok b) = judge (record { serial = serial; entry = a; exit = b; status = status_code s })

-- the life that a row says, or the first reason that it says none: 1, 2, 3, 4
abbrev pub row_life : PlainRow → Result PlainLife Refused
row_life r = life_by r.serial (status_word r.status) (hours_age r.from) (hours_age r.to)
