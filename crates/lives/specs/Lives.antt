-- Lives and places as plain values: a `Life` also carries the proof of its bounds.
use Rattle.std.specs.Prelude.{ℕ, Bool, true, false, cond, ◌&&◌, Ok, Err, Result, ◌==◌, nat_le, nat_lt}
use Rattle.units.specs.declared.ages.Age.{Age}
use Rattle.units.specs.Hours.{last_tick}
use Rattle.units.specs.Refusals.{Refused, refused}
use Rattle.lives.specs.declared.types.Life.{Life}
use Rattle.lives.specs.declared.types.Place.{Place}
use Rattle.lives.specs.declared.types.Status.{Status}
use Rattle.lives.specs.declared.types.Status.TheVariants.{Failed, Withdrawn, Running}
use Rattle.lives.specs.declared.types.UncheckedLife.{UncheckedLife}

-- the ages are in ticks
pub record PlainLife : Type 0 where
  pub serial : ℕ
  pub entry : ℕ
  pub exit : ℕ
  pub status : Status

pub record PlainPlace : Type 0 where
  pub life : PlainLife
  pub struck : Bool

abbrev pub age_of : ℕ → Age
age_of t = record { 0 = t }

abbrev pub plain_life : Life → PlainLife
plain_life l = record { serial = l.serial; entry = l.entry.0; exit = l.exit.0; status = l.status }

abbrev pub plain : Place → PlainPlace
plain p = record { life = plain_life p.life; struck = p.struck }

-- the highest serial
abbrev pub last_serial : ℕ
last_serial = 268435455

-- a status as a number: failed 0, withdrawn 1, running 2
abbrev pub status_code : Status → ℕ
status_code Failed = 0
status_code Withdrawn = 1
status_code Running = 2

-- the status that a number says, where it is 0, 1 or 2
abbrev pub status_of : ℕ → Status
status_of n = cond (n == 0) Failed (cond (n == 1) Withdrawn Running)

-- the status that a number says, or refusal 1
abbrev pub status_coded : ℕ → Result Status Refused
status_coded n = cond (nat_le n 2) (Ok (status_of n)) (Err (refused 1))

-- the status is one of the three
abbrev pub status_ok : UncheckedLife → Bool
status_ok u = nat_le u.status 2

-- the entry age is below the exit age, and the exit age is not too high
abbrev pub ages_ok : UncheckedLife → Bool
ages_ok u = nat_lt u.entry u.exit && nat_le u.exit last_tick

-- the serial is not 0 and not too high
abbrev pub serial_ok : UncheckedLife → Bool
serial_ok u = nat_le 1 u.serial && nat_le u.serial last_serial

abbrev pub life_of : UncheckedLife → PlainLife
life_of u = record { serial = u.serial; entry = u.entry; exit = u.exit; status = status_of u.status }

-- the life that four numbers are, or the first reason that they are none: 1, 3, 4
abbrev pub judge : UncheckedLife → Result PlainLife Refused
judge u =
    cond (status_ok u)
    (cond (ages_ok u) (cond (serial_ok u) (Ok (life_of u)) (Err (refused 4))) (Err (refused 3)))
    (Err (refused 1))

-- the place that an accepted life takes
abbrev pub unstruck : PlainLife → PlainPlace
unstruck l = record { life = l; struck = false }

-- the same life, struck
abbrev pub strike_out : PlainPlace → PlainPlace
strike_out p = record { life = p.life; struck = true }

-- what life memory is filled with before it is lent
abbrev pub blank_place : PlainPlace
blank_place = record { life = record { serial = 1; entry = 0; exit = 1; status = Running }; struck = true }
