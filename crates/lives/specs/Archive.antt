-- The archive's form, and what writing it answers and leaves.
use Rattle.std.specs.Prelude.{ℕ, ◌+◌, ◌*◌, ◌/◌, ◌%◌, ◌^◌, Bool, cond, List, [], ◌∷◌, ◌++◌, length, drop, Ok, Err, fold, Result, nat_le}
use Rattle.std.specs.List.{flat_map}
use Rattle.units.specs.Refusals.{Refused, refused}
use Rattle.lives.specs.declared.types.Status.{Status}
use Rattle.lives.specs.Lives.{PlainPlace, status_code}

-- ---- words of 32 bits

-- the top four bits are the kind, the rest the payload
abbrev pub word_of : ℕ → ℕ → ℕ
word_of kind payload = kind * 2 ^ 28 + payload

abbrev pub kind_of : ℕ → ℕ
kind_of w = w / 2 ^ 28

abbrev pub payload_of : ℕ → ℕ
payload_of w = w % 2 ^ 28

-- turned left by five places: the top five bits come in at the bottom
abbrev pub turned : ℕ → ℕ
turned a = a * 2 ^ 5 % 2 ^ 32 + a / 2 ^ 27

-- one more word: the sum so far is turned, and the word is added modulo 2^32
abbrev pub check_step : ℕ → ℕ → ℕ
check_step sum w = (turned sum + w) % 2 ^ 32

-- the check word of the words before it, from 0
abbrev pub check_of : List ℕ → ℕ
check_of ws = fold check_step 0 ws

-- ---- the archive

-- the status, plus 4 if struck
abbrev pub status_mark : Status → Bool → ℕ
status_mark s struck = status_code s + cond struck 4 0

-- a life is kind 3 serial, kind 4 entry, kind 5 exit, kind 6 status
abbrev pub place_words : PlainPlace → List ℕ
place_words p =
    word_of 3 p.life.serial
    ∷ word_of 4 p.life.entry
    ∷ word_of 5 p.life.exit
    ∷ word_of 6 (status_mark p.life.status p.struck)
    ∷ []

-- kind 1 with the form 1, kind 2 with the number of places, and each place: all words but the check
abbrev pub body : List PlainPlace → List ℕ
body ps = word_of 1 1 ∷ word_of 2 (length ps) ∷ flat_map place_words ps

abbrev pub archive_of : List PlainPlace → List ℕ
archive_of ps = body ps ++ check_of (body ps) ∷ []

-- ---- writing it

abbrev pub archive_length : List PlainPlace → ℕ
archive_length ps = 3 + 4 * length ps

-- the length of the archive; 13 where the words lent are fewer
abbrev pub write_answer : List PlainPlace → List ℕ → Result ℕ Refused
write_answer ps ws = cond (nat_le (archive_length ps) (length ws)) (Ok (archive_length ps)) (Err (refused 13))

-- the archive in front, and the words past it as they were; or all as they were
abbrev pub write_after : List PlainPlace → List ℕ → List ℕ
write_after ps ws = cond (nat_le (archive_length ps) (length ws)) (archive_of ps ++ drop (archive_length ps) ws) ws
