-- Hours as ticks of a quarter of an hour, by the exact value of a binary64 number.
use Rattle.std.specs.Prelude.{◌≡◌, ℕ, ◌*◌, ◌/◌, ◌%◌, ◌≤◌, Bool, false, cond, not, ◌&&◌, ◌||◌, ◌⊎◌, Ok, Err, Result, ◌==◌, from_bits, nat_le, Float}
use Rattle.std.specs.Float.Ieee.{up, down, mul, le, eq}
use Rattle.std.specs.Float.{trunc, nan, inf, fin, binary64}
use Rattle.units.specs.declared.ages.Age.{Age}
use Rattle.units.specs.Refusals.{Refused, refused}

-- the highest age
abbrev pub last_tick : ℕ
last_tick = 2097151

abbrev pub age_ticks : Age → ℕ
age_ticks a = a.0

-- Four times the number is exactly t, and t is a tick.
-- `fin s m e` is the number m * up e / down e, negative where s is true; minus zero is 0.
abbrev pub IsTicks : Float → ℕ → Type 0
IsTicks nan t = ⊥
IsTicks (inf s) t = ⊥
IsTicks (fin s m e) t = (m * up e * 4 ≡ t * down e) × ((s ≡ false) ⊎ (m ≡ 0)) × (t ≤ last_tick)

-- the same, computed: the ticks, or refusal 2
unfoldable pub hours_age : Float → Result ℕ Refused
hours_age nan = Err (refused 2)
hours_age (inf s) = Err (refused 2)
hours_age (fin s m e) =
    cond (m * up e * 4 % down e == 0 && nat_le (m * up e * 4 / down e) last_tick && (not s || m == 0))
    (Ok (m * up e * 4 / down e))
    (Err (refused 2))

-- ---- the tests of the code, by the operations of binary64

abbrev pub four_times : Float → Float
four_times x = mul binary64 x (from_bits binary64 0x4010_0000_0000_0000)

-- from 0.0 to 524,287.75
abbrev pub hours_in_range : Float → Bool
hours_in_range x = le (from_bits binary64 0) x && le x (from_bits binary64 0x411f_ffff_0000_0000)

abbrev pub equals_zero : Float → Bool
equals_zero x = eq x (from_bits binary64 0)

-- nothing is lost where the fraction is cut off
abbrev pub equals_cut : Float → Bool
equals_cut x = eq (trunc binary64 x) x
