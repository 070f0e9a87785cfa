-- What an archive's words say, or where they are first damaged; and what loading them answers and leaves.
use Rattle.std.specs.Prelude.{◌≡◌, ℕ, zero, suc, ◌+◌, ◌-◌, ◌*◌, ◌%◌, ◌≤◌, Bool, cond, ◌&&◌, List, [], ◌∷◌, length, take, drop, Some, None, Ok, Err, Option, Result, ◌==◌, nat_le, nat_lt, slice_index}
use Rattle.units.specs.declared.refusals.Layer.TheVariants.{Frame, Life as InLife}
use Rattle.std.specs.Simd.{first_chunks}
use Rattle.units.specs.Hours.{last_tick}
use Rattle.units.specs.Refusals.{Refused, refused, refused_at}
use Rattle.lives.specs.declared.reading.LifeWord.{LifeWord}
use Rattle.lives.specs.declared.types.Place.{Place}
use Rattle.lives.specs.Archive.{word_of, kind_of, payload_of, check_of}
use Rattle.lives.specs.Words.{place_within}
use Rattle.lives.specs.Lives.{PlainPlace, plain, status_of}
use Rattle.lives.specs.Studies.{Held, room, most_places}

-- ---- the four words of a life

-- the serial is not 0
abbrev pub serial_word : ℕ → Bool
serial_word a = kind_of a == 3 && nat_lt 0 (payload_of a)

-- the entry age leaves room for an exit age
abbrev pub entry_word : ℕ → Bool
entry_word b = kind_of b == 4 && nat_lt (payload_of b) last_tick

-- the exit age is above the entry age, and not too high
abbrev pub exit_above : ℕ → ℕ → Bool
exit_above t x = kind_of x == 5 && nat_lt t (payload_of x) && nat_le (payload_of x) last_tick

abbrev pub exit_word : ℕ → ℕ → Bool
exit_word b x = exit_above (payload_of b) x

-- the status is 0, 1 or 2, or one of these plus 4
abbrev pub status_mark_word : ℕ → Bool
status_mark_word k = kind_of k == 6 && nat_lt (payload_of k) 8 && nat_lt (payload_of k % 4) 3

-- the place that four words say, or which of the four is the first bad one
abbrev pub place_from : ℕ → ℕ → ℕ → ℕ → Result PlainPlace ℕ
place_from a b x k =
    cond (serial_word a)
    (cond (entry_word b)
    (cond (exit_word b x)
    (cond (status_mark_word k)
    (Ok (record {
      life = record { serial = payload_of a; entry = payload_of b; exit = payload_of x; status = status_of (payload_of k % 4) };
      struck = nat_le 4 (payload_of k);
    }))
    (Err 3))
    (Err 2))
    (Err 1))
    (Err 0)

-- the same of four words in a row
abbrev pub place_in : List ℕ → Result PlainPlace ℕ
place_in ws = place_from (slice_index ws 0) (slice_index ws 1) (slice_index ws 2) (slice_index ws 3)

-- the same of the code's own place and word
abbrev pub viewed : Result Place LifeWord → Result PlainPlace ℕ
viewed (Ok p) = Ok (plain p)
viewed (Err e) = Err (place_within e)

-- ---- the lives

-- a place read from word i on, and the places after it
abbrev pub join_place : ℕ → Result PlainPlace ℕ → Result (List PlainPlace) ℕ → Result (List PlainPlace) ℕ
join_place i (Err o) rest = Err (i + o)
join_place i (Ok p) (Err e) = Err e
join_place i (Ok p) (Ok ps) = Ok (p ∷ ps)

-- m places from word i on, or the place of the first bad word
abbrev pub places_from : ℕ → ℕ → List ℕ → Result (List PlainPlace) ℕ
places_from zero i ws = Ok []
places_from (suc m) i ws = join_place i (place_from (slice_index ws i) (slice_index ws (i + 1)) (slice_index ws (i + 2)) (slice_index ws (i + 3))) (places_from m (i + 4) ws)

-- places of four words each, the first of them at word i
abbrev pub places_in : ℕ → List (List ℕ) → Result (List PlainPlace) ℕ
places_in i [] = Ok []
places_in i (w ∷ ws) = join_place i (place_in w) (places_in (i + 4) ws)

abbrev pub error_of : {A : Type 0} → Result A ℕ → Option ℕ
error_of (Ok x) = None
error_of (Err e) = Some e

-- ---- the frame

-- the number of lives that word 1 names, whatever its kind
abbrev pub counted : List ℕ → ℕ
counted ws = payload_of (slice_index ws 1)

-- at least 3 words, at most 1,024 lives, and as many words as these take
abbrev pub length_right : List ℕ → Bool
length_right ws = nat_le 3 (length ws) && nat_le (counted ws) most_places && length ws == 3 + 4 * counted ws

-- the number of lives, or what is wrong with the frame: its length by 6, word 0 and word 1 by 7
abbrev pub frame_of : List ℕ → Result ℕ Refused
frame_of ws =
    cond (length_right ws)
    (cond (slice_index ws 0 == word_of 1 1)
    (cond (kind_of (slice_index ws 1) == 2) (Ok (counted ws)) (Err (refused_at 7 Frame 1)))
    (Err (refused_at 7 Frame 0)))
    (Err (refused_at 6 Frame (length ws)))

-- ---- the whole

-- the check word is that of the words before it, else 8
abbrev pub check_right : List ℕ → Bool
check_right ws = check_of (take (length ws - 1) ws) == slice_index ws (length ws - 1)

abbrev pub checked : List ℕ → Result (List PlainPlace) ℕ → Result (List PlainPlace) Refused
checked ws (Err p) = Err (refused_at 7 InLife p)
checked ws (Ok ps) = cond (check_right ws) (Ok ps) (Err (refused_at 8 Frame (length ws - 1)))

abbrev pub decode_lives : List ℕ → Result ℕ Refused → Result (List PlainPlace) Refused
decode_lives ws (Err e) = Err e
decode_lives ws (Ok m) = checked ws (places_from m 2 ws)

-- the places that an archive says, or the first reason that it says none: 6, 7, 8
unfoldable pub decode : List ℕ → Result (List PlainPlace) Refused
decode ws = decode_lives ws (frame_of ws)

-- ---- loading

-- the number of lives; 9 where too few of k places are left
abbrev pub room_answer : ℕ → Result (List PlainPlace) Refused → Result ℕ Refused
room_answer k (Err e) = Err e
room_answer k (Ok ps) = cond (nat_le (length ps) k) (Ok (length ps)) (Err (refused 9))

-- 5 where places are used
abbrev pub load_answer : Held → List ℕ → Result ℕ Refused
load_answer h ws = cond (length h.places == 0) (room_answer (room h) (decode ws)) (Err (refused 5))

-- the lives stand from place 0 on, with their marks, and the memory past them stays
abbrev pub room_after : Held → Result (List PlainPlace) Refused → Held
room_after h (Err e) = h
room_after h (Ok ps) = cond (nat_le (length ps) (room h)) (record { places = ps; spare = drop (length ps) h.spare }) h

abbrev pub load_after : Held → List ℕ → Held
load_after h ws = cond (length h.places == 0) (room_after h (decode ws)) h

-- what the check of all words finds: the four words of each life
abbrev pub Checked : List ℕ → List (List ℕ) → Type 0
Checked ws lives =
    (length lives ≤ most_places) × ((ps : List PlainPlace) × (places_in 2 lives ≡ Ok ps) × (decode ws ≡ Ok ps))

-- what the check of the frame finds: as many lives as it names, of four words each
abbrev pub FramedLives : List ℕ → List (List ℕ) → Type 0
FramedLives ws lives = (frame_of ws ≡ Ok (length lives)) × (lives ≡ first_chunks 4 (length lives) (drop 2 ws))
