-- Numbers as a ledger writes them. Bytes are numbers.
use Rattle.std.specs.Prelude.{ℕ, ◌+◌, ◌^◌, Bool, true, cond, not, ◌&&◌, List, [], ◌∷◌, length, take, drop, Some, None, Option, ◌==◌, nat_le, nat_lt}
use Rattle.std.specs.Str.Parse.{digits_value}
use Rattle.std.specs.Char.{is_ascii_digit, digit_value}
use Rattle.std.specs.List.{prefix_len}
use Rattle.lines.specs.Fields.{begins}

-- digits of a radix, and nothing else
abbrev pub digits : ℕ → List ℕ → Bool
digits radix [] = true
digits radix (c ∷ cs) = nat_lt (digit_value c) radix && digits radix cs

-- the number that one digit or more write, where it fits 32 bits
unfoldable pub number_of : ℕ → List ℕ → Option ℕ
number_of radix bs = cond (nat_lt 0 (length bs) && (digits radix bs && nat_lt (digits_value radix bs) (2 ^ 32))) (Some (digits_value radix bs)) None

-- decimal digits
abbrev pub decimal_of : List ℕ → Option ℕ
decimal_of bs = number_of 10 bs

-- a word of an archive: eight hexadecimal digits
abbrev pub word_of : List ℕ → Option ℕ
word_of bs = cond (length bs == 8) (number_of 16 bs) None

-- a number, where it is at most the limit
abbrev pub capped : ℕ → Option ℕ → Option ℕ
capped limit None = None
capped limit (Some n) = cond (nat_le n limit) (Some n) None

-- ---- hours

-- one decimal digit or more, and nothing else
abbrev pub numeral : List ℕ → Bool
numeral bs = nat_lt 0 (length bs) && prefix_len is_ascii_digit bs == length bs

-- after the first digits of hours: nothing, or a point and digits
abbrev pub fraction : List ℕ → Bool
fraction [] = true
fraction (c ∷ cs) = c == 46 && numeral cs

-- digits, and optionally a point and digits
abbrev pub unsigned_hours : List ℕ → Bool
unsigned_hours bs = nat_lt 0 (prefix_len is_ascii_digit bs) && fraction (drop (prefix_len is_ascii_digit bs) bs)

-- a minus sign may stand in front
abbrev pub hours_form : List ℕ → Bool
hours_form bs = cond (begins 45 bs) (unsigned_hours (drop 1 bs)) (unsigned_hours bs)

-- ---- pairs

-- a reading that goes on from another
abbrev pub next : {X Y : Type 0} → Option X → (X → Option Y) → Option Y
next None f = None
next (Some x) f = f x

abbrev pub is_slash : ℕ → Bool
is_slash b = b == 47

abbrev pub no_slash : ℕ → Bool
no_slash b = not (is_slash b)

-- two decimal numbers
abbrev pub decimals_of : List ℕ → List ℕ → Option (ℕ × ℕ)
decimals_of a b = next (decimal_of a) (λ x. next (decimal_of b) (λ y. Some (x, y)))

-- two decimal numbers with a slash between them: a piece of a list to pool
abbrev pub pair_of : List ℕ → Option (ℕ × ℕ)
pair_of bs =
    let slash = prefix_len no_slash bs in
    cond (nat_lt slash (length bs)) (decimals_of (take slash bs) (drop (slash + 1) bs)) None
