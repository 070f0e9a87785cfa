-- Successions of calls on a study, by what the contracts of its calls say, and the law over all of them.
use Rattle.std.specs.Prelude.{◌≡◌, ℕ, ◌+◌, ◌≤◌, min, cond, List, [], ◌∷◌, ◌++◌, map, length, drop, Ok, Err, fold, Result, nat_le}
use Rattle.units.specs.Refusals.{Refused}
use Rattle.pooling.specs.Pooling.{answered}
use Rattle.lives.specs.declared.types.UncheckedLife.{UncheckedLife}
use Rattle.lives.specs.declared.types.Place.{Place}
use Rattle.lives.specs.Archive.{archive_of, archive_length}
use Rattle.lives.specs.Lives.{PlainPlace, plain, judge}
use Rattle.lives.specs.RoundTrip.{take_over_after}
use Rattle.lives.specs.Sheets.{PlainRow, row_life}
use Rattle.lives.specs.Decode.{load_answer, load_after}
use Rattle.lives.specs.Studies.{Held, opened, most_places, enter_answer, enter_after, strike_answer, strike_after}
use Rattle.sources.specs.Counts.{Counts, Lawful}
use Rattle.sources.specs.Studies.{study_counts}
use Rattle.curves.specs.Curves.{Curve, fit_answer}
use Rattle.curves.specs.Faults.{Fault}
use Rattle.curves.specs.declared.shapes.Shape.{Shape}
use Rattle.history.specs.Calls.{PlainCall, enter, row, strike, load, refusal, call_value, listed, unmarked, life_counts}

-- A study opened over n places of memory holds h after the calls cs, the last one last. Sealing it changes nothing of what it holds.
pub data Reached (n : ℕ) : List PlainCall → Held → Type 0 where
  at_open : (m : List PlainPlace) → length m ≡ n → Reached n [] (opened m)
  by_enter : {cs : List PlainCall} {h : Held} (u : UncheckedLife) → Reached n cs h → Reached n (cs ++ enter u ∷ []) (enter_after h (judge u))
  by_row : {cs : List PlainCall} {h : Held} (r : PlainRow) → Reached n cs h → Reached n (cs ++ row r ∷ []) (enter_after h (row_life r))
  by_strike : {cs : List PlainCall} {h : Held} (i : ℕ) → Reached n cs h → Reached n (cs ++ strike i ∷ []) (strike_after h i)
  by_load : {cs : List PlainCall} {h : Held} (ws : List ℕ) → Reached n cs h → Reached n (cs ++ load ws ∷ []) (load_after h ws)

-- ---- one call, as code does it

-- a striking answers the place struck
abbrev pub struck_place_answer : ℕ → Result (Unit {0}) Refused → Result ℕ Refused
struck_place_answer i (Ok _) = Ok i
struck_place_answer i (Err e) = Err e

abbrev pub call_answer : Held → PlainCall → Result ℕ Refused
call_answer h (enter u) = enter_answer h (judge u)
call_answer h (row r) = enter_answer h (row_life r)
call_answer h (strike i) = struck_place_answer i (strike_answer h i)
call_answer h (load ws) = load_answer h ws

abbrev pub call_after : Held → PlainCall → Held
call_after h (enter u) = enter_after h (judge u)
call_after h (row r) = enter_after h (row_life r)
call_after h (strike i) = strike_after h i
call_after h (load ws) = load_after h ws

-- the calls in order
abbrev pub calls_after : Held → List PlainCall → Held
calls_after h cs = fold call_after h cs

-- ---- the law

-- a list in the first places of memory that held m: past the list the memory stays
abbrev pub laid : List PlainPlace → List PlainPlace → Held
laid m ps = record { places = ps; spare = drop (length ps) m }

-- the plain list of the calls, in the first places of memory that held m
abbrev pub kept : List PlainPlace → List PlainCall → Held
kept m cs = laid m (listed (length m) cs)

-- the counts that the curves of a study are about
abbrev pub counts_after : ℕ → List PlainCall → Counts
counts_after n cs = life_counts (unmarked (listed n cs))

-- What is true of a study that holds h after the calls cs, over n places of memory:
pub record Stands (n : ℕ) (cs : List PlainCall) (h : Held) : Type 0 where
  -- its places are the plain list
  pub places : h.places ≡ listed n cs
  -- it answers and refuses any next call as the plain list says
  pub answers : (c : PlainCall) → call_answer h c ≡ answered (refusal n (listed n cs) c) (call_value (listed n cs) c)
  -- no more places are used than there are, and no memory is lost
  pub few : length h.places ≤ min most_places n
  pub whole : length h.places + length h.spare ≡ n
  -- its counts are those of the unmarked lives, and are lawful
  pub counts : study_counts h.places ≡ counts_after n cs
  pub lawful : Lawful (counts_after n cs).watched (counts_after n cs).failed
  -- no curve that is answered for it, with any shape and any room, has a fault
  pub faultless :
      (shape : Shape) (steps works : ℕ) (a : Curve) → fit_answer (study_counts h.places) shape steps works ≡ Ok a
      → Fault (counts_after n cs) shape a → ⊥

-- No succession of calls leads to a fault: all this is true of every study that was reached.
abbrev pub NoSuccessionLeadsToAFault : Type 0
NoSuccessionLeadsToAFault = (n : ℕ) (cs : List PlainCall) (h : Held) → Reached n cs h → Stands n cs h

-- ---- taking over

-- Taking over the places of a sealed study reaches what the load of their archive reaches, or nothing new where the words lent for it are too few.
-- So the law speaks of a study that took over another one, too.
abbrev pub TakingOverIsLoading : Type 0
TakingOverIsLoading =
    (n : ℕ) (cs : List PlainCall) (h : Held) (ps : List Place) (ws : List ℕ) → length ps ≤ most_places → Reached n cs h
    → Reached n (cond (nat_le (archive_length (map plain ps)) (length ws)) (cs ++ load (archive_of (map plain ps)) ∷ []) cs)
    (take_over_after h (map plain ps) ws)
