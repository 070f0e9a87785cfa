-- Every life that is judged, and every life of an archive, has its bounds.
use Rattle.std.proofs.Common.{◌≡◌, ℕ, zero, suc, ◌+◌, ◌<◌, ◌≤◌, Bool, true, false, cond, eqb, ltb, leb, List, get_or, Ok, Err, Result, refl}
use Rattle.std.specs.List.{AllByRecursion}
use Rattle.std.proofs.lemmas.Bool.{and_parts, ltb-true, leb-true}
use Rattle.units.specs.Hours.{last_tick, hours_age}
use Rattle.units.specs.Refusals.{Refused, refused}
use Rattle.lives.specs.declared.types.Status.{Status}
use Rattle.lives.specs.declared.types.UncheckedLife.{UncheckedLife}
use Rattle.lives.specs.Archive.{kind_of, payload_of}
use Rattle.lives.specs.Decode.{serial_word, entry_word, exit_word, status_mark_word, place_from, join_place, places_from, frame_of, check_right, checked, decode_lives, decode}
use Rattle.lives.specs.Lives.{PlainLife, PlainPlace, status_code, status_ok, ages_ok, serial_ok, life_of, judge}
use Rattle.lives.specs.Sheets.{PlainRow, status_word, life_by, row_life}
use Rattle.sources.specs.StudyLaws.{Bounded}
use Rattle.history.specs.Calls.{one_life}

-- what an answer gives has a property
abbrev pub Gives : {A E : Type 0} → (A → Type 0) → Result A E → Type 0
Gives P (Ok x) = P x
Gives P (Err e) = Unit {0}

-- an answer under a test
under : {A E : Type 0} (P : A → Type 0) (b : Bool) (r : Result A E) (e : E) → (b ≡ true → Gives P r) → Gives P (cond b r (Err e))
under P true r e f = f refl
under P false r e f = tt

abbrev LifeBounded : PlainLife → Type 0
LifeBounded l = (l.entry < l.exit) × (l.exit ≤ last_tick)

judged : (u : UncheckedLife) → Gives LifeBounded (judge u)
judged u =
    under LifeBounded (status_ok u) _ (refused 1) (λ _.
    under LifeBounded (ages_ok u) _ (refused 3) (λ a.
    under LifeBounded (serial_ok u) (Ok (life_of u)) (refused 4) (λ _.
    let p = and_parts (ltb u.entry u.exit) (leb u.exit last_tick) a in
    (ltb-true u.entry u.exit p.0, leb-true u.exit last_tick p.1))))

said : (serial : ℕ) (s : Result Status Refused) (a b : Result ℕ Refused) → Gives LifeBounded (life_by serial s a b)
said serial (Err e) a b = tt
said serial (Ok s) (Err e) b = tt
said serial (Ok s) (Ok a) (Err e) = tt
said serial (Ok s) (Ok a) (Ok b) = judged (record { serial = serial; entry = a; exit = b; status = status_code s })

one : (j : Result PlainLife Refused) → Gives LifeBounded j → Gives (AllByRecursion Bounded) (one_life j)
one (Ok l) g = (g, tt)
one (Err e) g = tt

pub entry_bounded : (u : UncheckedLife) → Gives (AllByRecursion Bounded) (one_life (judge u))
entry_bounded u = one (judge u) (judged u)

pub row_bounded : (r : PlainRow) → Gives (AllByRecursion Bounded) (one_life (row_life r))
row_bounded r = one (row_life r) (said r.serial (status_word r.status) (hours_age r.from) (hours_age r.to))

-- ---- an archive

place_bounded : (a b x k : ℕ) → Gives Bounded (place_from a b x k)
place_bounded a b x k =
    under Bounded (serial_word a) _ 0 (λ _.
    under Bounded (entry_word b) _ 1 (λ _.
    under Bounded (exit_word b x) _ 2 (λ e.
    under Bounded (status_mark_word k) _ 3 (λ _.
    let p = and_parts _ (leb (payload_of x) last_tick) e in
    let q = and_parts (eqb (kind_of x) 5) (ltb (payload_of b) (payload_of x)) p.0 in
    (ltb-true (payload_of b) (payload_of x) q.1, leb-true (payload_of x) last_tick p.1)))))

join_bounded : (i : ℕ) (r : Result PlainPlace ℕ) (rest : Result (List PlainPlace) ℕ) → Gives Bounded r → Gives (AllByRecursion Bounded) rest → Gives (AllByRecursion Bounded) (join_place i r rest)
join_bounded i (Err o) rest g gs = tt
join_bounded i (Ok p) (Err e) g gs = tt
join_bounded i (Ok p) (Ok ps) g gs = (g, gs)

places_bounded : (m i : ℕ) (ws : List ℕ) → Gives (AllByRecursion Bounded) (places_from m i ws)
places_bounded zero i ws = tt
places_bounded (suc m) i ws =
    join_bounded i (place_from (get_or ws i 0) (get_or ws (i + 1) 0) (get_or ws (i + 2) 0) (get_or ws (i + 3) 0)) (places_from m (i + 4) ws)
    (place_bounded (get_or ws i 0) (get_or ws (i + 1) 0) (get_or ws (i + 2) 0) (get_or ws (i + 3) 0)) (places_bounded m (i + 4) ws)

checked_bounded : (ws : List ℕ) (r : Result (List PlainPlace) ℕ) → Gives (AllByRecursion Bounded) r → Gives (AllByRecursion Bounded) (checked ws r)
checked_bounded ws (Err p) g = tt
checked_bounded ws (Ok ps) g = under (AllByRecursion Bounded) (check_right ws) (Ok ps) _ (λ _. g)

framed_bounded : (ws : List ℕ) (r : Result ℕ Refused) → Gives (AllByRecursion Bounded) (decode_lives ws r)
framed_bounded ws (Err e) = tt
framed_bounded ws (Ok m) = checked_bounded ws (places_from m 2 ws) (places_bounded m 2 ws)

pub load_bounded : (ws : List ℕ) → Gives (AllByRecursion Bounded) (decode ws)
unfolding decode
load_bounded ws = framed_bounded ws (frame_of ws)
