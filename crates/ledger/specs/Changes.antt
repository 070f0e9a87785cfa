-- What a change does to the open study, and what is answered: each is one call of a succession (history/specs).
use Rattle.std.specs.Prelude.{ℕ, Ok, Err, vec_items, Result}
use Rattle.units.specs.Refusals as refusals
use Rattle.units.specs.declared.refusals.Refusal.{Refusal}
use Rattle.lives.specs.Sheets.{plain_row}
use Rattle.lives.specs.Studies.{Held}
use Rattle.history.specs.Calls.{PlainCall, enter, row, strike, load}
use Rattle.history.specs.Runs.{call_answer, call_after}
use Rattle.ledger.specs.declared.answers.Answer.{Answer}
use Rattle.ledger.specs.declared.answers.Answer.TheVariants.{Open, Place, Struck, Loaded, Sealed, Room, Noted, Growth, Blocks, Bench, Bound, Curve}
use Rattle.ledger.specs.declared.commands.Change.{Change}
use Rattle.ledger.specs.declared.commands.Change.TheVariants.{Row, Enter, Strike, Load}

-- the call that a change is
abbrev pub call_of : Change → PlainCall
call_of (Row r) = row (plain_row r)
call_of (Enter life) = enter life
call_of (Strike place) = strike place
call_of (Load words) = load (vec_items words)

-- the study after a change
abbrev pub change_after : Held → Change → Held
change_after h change = call_after h (call_of change)

-- an answer by what it says: a number, or a refusal
pub data Said : Type 0 where
  placed : ℕ → Said
  struck : ℕ → Said
  loaded : ℕ → Said
  refusal : refusals.Refused → Said
  another : Said

abbrev pub said : Answer → Said
said (Open n) = another
said (Place n) = placed n
said (Struck n) = struck n
said (Loaded n) = loaded n
said (Sealed n) = another
said (Room r n) = another
said (Noted n) = another
said (Growth n s) = another
said (Blocks n) = another
said Bench = another
said (Bound n) = another
said (Curve f) = another

-- what is said of a change that is answered or refused
abbrev pub outcome : Result Answer Refusal → Said
outcome (Ok a) = said a
outcome (Err e) = refusal (refusals.told e)

-- what is said of a call's answer
abbrev pub say : {X : Type 0} → (X → Said) → Result X refusals.Refused → Said
say f (Ok x) = f x
say f (Err e) = refusal e

-- what the number that a change answers tells
abbrev pub said_as : Change → ℕ → Said
said_as (Row r) = placed
said_as (Enter life) = placed
said_as (Strike place) = struck
said_as (Load words) = loaded

-- what is said of a change
abbrev pub change_answer : Held → Change → Said
change_answer h change = say (said_as change) (call_answer h (call_of change))
