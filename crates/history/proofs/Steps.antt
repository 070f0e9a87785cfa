-- One call: the study and the plain list agree before it and after it.
use Rattle.std.proofs.Common.{◌≡◌, ℕ, zero, suc, ◌+◌, ◌≤◌, min, Bool, true, false, cond, eqb, ltb, leb, List, [], ◌∷◌, ◌++◌, length, drop, Some, None, Ok, Err, Option, Result, sym, refl, ap, ◌∙◌, subst, ap₂, ⊎_elim, arith}
use Rattle.std.specs.List.{AllByRecursion}
use Rattle.std.proofs.ByRecursion.{All-append}
use Rattle.std.proofs.lemmas.List.{length-append, length-drop, length_push, drop-drop}
use Rattle.std.proofs.lemmas.Bool.{true≢false, cases_lt, leb-true, lt-ltb, le-ltb, le-leb, lt-leb, ne_eqb}
use Rattle.units.specs.Refusals.{Refused, refused}
use Rattle.pooling.specs.Pooling.{answered, unless_refused}
use Rattle.lives.specs.Lives.{PlainLife, PlainPlace, unstruck, judge}
use Rattle.lives.specs.Sheets.{row_life}
use Rattle.lives.specs.Decode.{decode, room_answer, room_after, load_answer, load_after}
use Rattle.lives.specs.Studies.{Held, most_places, room, has_place, unstruck_at, struck_at, enter_answer, enter_after}
use Rattle.sources.specs.StudyLaws.{Bounded}
use Rattle.history.specs.Calls.{PlainCall, enter, row, strike, load, one_life, adding_refusal, added, refusal, accepted, call_value}
use Rattle.history.specs.Runs.{laid, struck_place_answer, call_answer, call_after}
use Rattle.history.proofs.Bounds.{Gives, entry_bounded, row_bounded, load_bounded}

-- a list that a study over n places can hold
pub record Fits-in (n : ℕ) (ps : List PlainPlace) : Type 0 where
  pub few : length ps ≤ min most_places n
  pub bounded : AllByRecursion Bounded ps

-- What a call does to a study that holds the list ps, where o refuses it, qs is the list after it and v is its value.
pub record Agrees (m ps : List PlainPlace) (o : Option Refused) (qs : List PlainPlace) (v : ℕ) (after : Held) (answer : Result ℕ Refused) : Type 0 where
  pub after_is : after ≡ laid m (unless_refused o ps qs)
  pub answer_is : answer ≡ answered o v
  pub fits : Fits-in (length m) (unless_refused o ps qs)

-- a refused call changes nothing
unchanged : (m ps qs : List PlainPlace) (v : ℕ) (e : Refused) → Fits-in (length m) ps → Agrees m ps (Some e) qs v (laid m ps) (Err e)
unchanged m ps qs v e f = record { after_is = refl; answer_is = refl; fits = f }

room_laid : (m ps : List PlainPlace) → Fits-in (length m) ps → room (laid m ps) ≡ min most_places (length m)
room_laid m ps f = ap (min most_places) (omega (arith, length-drop (length ps) m, f.few))

-- ---- lives that are added

-- lives qs, where b tells whether there are places for them
adding : (m ps qs : List PlainPlace) (v : ℕ) (b : Bool) (h : Held) → Fits-in (length m) ps → AllByRecursion Bounded qs → (b ≡ true → length ps + length qs ≤ min most_places (length m)) → h ≡ laid m (ps ++ qs)
    → Agrees m ps (cond b None (Some (refused 9))) (ps ++ qs) v (cond b h (laid m ps)) (cond b (Ok v) (Err (refused 9)))
adding m ps qs v false h f bounded room e = unchanged m ps (ps ++ qs) v (refused 9) f
adding m ps qs v true h f bounded room e = record {
  after_is = e;
  answer_is = refl;
  fits = record { few = omega (arith, room refl, length-append ps qs); bounded = All-append Bounded ps qs f.bounded bounded };
}

next_fits : (a k : ℕ) → ltb a k ≡ leb (a + 1) k
next_fits a k = ⊎_elim (λ h. lt-ltb a k h ∙ sym (le-leb (a + 1) k (omega arith))) (λ h. le-ltb a k h ∙ sym (lt-leb (a + 1) k (omega arith))) (cases_lt a k)

entered : (m ps : List PlainPlace) (j : Result PlainLife Refused) → Fits-in (length m) ps → Gives (AllByRecursion Bounded) (one_life j)
    → Agrees m ps (adding_refusal (length m) ps (one_life j)) (added ps (one_life j)) (length ps) (enter_after (laid m ps) j) (enter_answer (laid m ps) j)
entered m ps (Err e) f g = unchanged m ps ps (length ps) e f
entered m ps (Ok l) f g =
    let x = unstruck l in
    let test : has_place (laid m ps) ≡ leb (length ps + 1) (min most_places (length m)) = ap (ltb (length ps)) (room_laid m ps f) ∙ next_fits (length ps) (min most_places (length m)) in
    let spare : drop 1 (drop (length ps) m) ≡ drop (length (ps ++ x ∷ [])) m = drop-drop 1 (length ps) m ∙ ap (λ (k : ℕ). drop k m) (sym (length_push ps x)) in
    let h : Held = record { places = ps ++ x ∷ []; spare = drop 1 (drop (length ps) m) } in
    subst (λ (b : Bool). Agrees m ps (cond b None (Some (refused 9))) (ps ++ x ∷ []) (length ps) (enter_after (laid m ps) (Ok l)) (enter_answer (laid m ps) (Ok l))) test
    (adding m ps (x ∷ []) (length ps) (has_place (laid m ps)) h f g
    (λ b. leb-true (length ps + 1) (min most_places (length m)) (sym test ∙ b))
    (λ i. record { places = ps ++ x ∷ []; spare = spare i }))

-- a load finds the list empty, or is refused
into_empty : (m : List PlainPlace) (r : Result (List PlainPlace) Refused) → Fits-in (length m) [] → Gives (AllByRecursion Bounded) r
    → Agrees m [] (adding_refusal (length m) [] r) (added [] r) (length (added [] r)) (room_after (laid m []) r) (room_answer (room (laid m [])) r)
into_empty m (Err e) f g = unchanged m [] [] 0 e f
into_empty m (Ok qs) f g =
    let test : leb (length qs) (room (laid m [])) ≡ leb (0 + length qs) (min most_places (length m)) = ap₂ leb (omega arith) (room_laid m [] f) in
    subst (λ (b : Bool). Agrees m [] (cond b None (Some (refused 9))) qs (length qs) (room_after (laid m []) (Ok qs)) (room_answer (room (laid m [])) (Ok qs))) test
    (adding m [] qs (length qs) (leb (length qs) (room (laid m []))) (laid m qs) f g
    (λ b. leb-true (0 + length qs) (min most_places (length m)) (sym test ∙ b)) refl)

in_use : (m ps qs : List PlainPlace) (v : ℕ) (b : Bool) (o : Option Refused) (h : Held) (a : Result ℕ Refused) → Fits-in (length m) ps → b ≡ false
    → Agrees m ps (cond b o (Some (refused 5))) qs v (cond b h (laid m ps)) (cond b a (Err (refused 5)))
in_use m ps qs v true o h a f e = absurd (true≢false e)
in_use m ps qs v false o h a f e = unchanged m ps qs v (refused 5) f

loaded : (m ps : List PlainPlace) (ws : List ℕ) → Fits-in (length m) ps → Agrees m ps (refusal (length m) ps (load ws)) (accepted ps (load ws)) (call_value ps (load ws)) (load_after (laid m ps) ws) (load_answer (laid m ps) ws)
loaded m [] ws f = into_empty m (decode ws) f (load_bounded ws)
loaded m (p ∷ ps) ws f =
    in_use m (p ∷ ps) (accepted (p ∷ ps) (load ws)) (call_value (p ∷ ps) (load ws)) (eqb (suc (length ps)) 0)
    (adding_refusal (length m) (p ∷ ps) (decode ws)) (room_after (laid m (p ∷ ps)) (decode ws)) (room_answer (room (laid m (p ∷ ps))) (decode ws)) f (ne_eqb (suc (length ps)) 0 (λ e. omega arith))

-- ---- a striking

length_struck : (ps : List PlainPlace) (i : ℕ) → length (struck_at ps i) ≡ length ps
length_struck [] i = refl
length_struck (p ∷ ps) zero = refl
length_struck (p ∷ ps) (suc i) = ap suc (length_struck ps i)

bounded_struck : (ps : List PlainPlace) (i : ℕ) → AllByRecursion Bounded ps → AllByRecursion Bounded (struck_at ps i)
bounded_struck [] i g = g
bounded_struck (p ∷ ps) zero g = g
bounded_struck (p ∷ ps) (suc i) g = (g.0, bounded_struck ps i g.1)

struck : (m ps : List PlainPlace) (i : ℕ) (b : Bool) → Fits-in (length m) ps
    → Agrees m ps (cond b None (Some (refused 10))) (struck_at ps i) i (cond b (record { places = struck_at ps i; spare = drop (length ps) m }) (laid m ps)) (struck_place_answer i (cond b (Ok tt) (Err (refused 10))))
struck m ps i false f = unchanged m ps (struck_at ps i) i (refused 10) f
struck m ps i true f = record {
  after_is = λ k. record { places = struck_at ps i; spare = drop (sym (length_struck ps i) k) m };
  answer_is = refl;
  fits = record { few = omega (arith, length_struck ps i, f.few); bounded = bounded_struck ps i f.bounded };
}

-- ---- any call

pub agrees : (m ps : List PlainPlace) → Fits-in (length m) ps → (c : PlainCall) → Agrees m ps (refusal (length m) ps c) (accepted ps c) (call_value ps c) (call_after (laid m ps) c) (call_answer (laid m ps) c)
agrees m ps f (enter u) = entered m ps (judge u) f (entry_bounded u)
agrees m ps f (row r) = entered m ps (row_life r) f (row_bounded r)
agrees m ps f (strike i) = struck m ps i (unstruck_at ps i) f
agrees m ps f (load ws) = loaded m ps ws f
