-- Ages copied in and lives entered one by one.
use Rattle.std.proofs.Common.{◌≡◌, ℕ, ◌+◌, ◌<◌, ◌≤◌, List, [], ◌∷◌, ◌++◌, map, length, get_or, take, drop, set, sym, ap, ◌∙◌, arith}
use Rattle.std.proofs.lemmas.List.{at_drop_more, map-append, take_all, take_more, take_more_set}
use Rattle.units.specs.Hours.{age_ticks}
use Rattle.units.specs.declared.ages.Age.{Age}
use Rattle.lives.specs.Lives.{judge}
use Rattle.lives.specs.Studies.{Held, enter_after}
use Rattle.history.specs.Runs.{calls_after}
use Rattle.exports.specs.Codes.{life_entered}

-- one more age
pub ages_more : (plain : List ℕ) (ages : List Age) (i d : ℕ) → i < length plain → i < length ages → map age_ticks (take i ages) ≡ take i plain → map age_ticks (take (i + 1) (set ages i (record { 0 = get_or plain i d }))) ≡ take (i + 1) plain
ages_more plain ages i d within room before =
    let age : Age = record { 0 = get_or plain i d } in
    ap (map age_ticks) (take_more_set ages i age room) ∙ map-append age_ticks (take i ages) (age ∷ []) ∙ ap (λ (xs : List ℕ). xs ++ (get_or plain i d ∷ [])) before
    ∙ sym (take_more plain i d within)

-- all ages
pub ages_all : (plain : List ℕ) (ages : List Age) (i : ℕ) → length plain ≤ i → i ≤ length plain → map age_ticks (take i ages) ≡ take i plain → map age_ticks (take (length plain) ages) ≡ plain
ages_all plain ages i all last before =
    let end : length plain ≡ i = omega arith in
    ap (λ (k : ℕ). map age_ticks (take k ages)) end ∙ before ∙ take_all i plain all

-- one more life
pub lives_again : (h h' x : Held) (exits : List ℕ) (i d : ℕ) → i < length exits → h' ≡ enter_after h (judge (record { serial = 1; entry = 0; exit = get_or exits i d; status = 0 }))
    → calls_after h (map life_entered (drop i exits)) ≡ x → calls_after h' (map life_entered (drop (i + 1) exits)) ≡ x
lives_again h h' x exits i d within e inv =
    ap (λ (k : Held). calls_after k (map life_entered (drop (i + 1) exits))) e
    ∙ sym (at_drop_more (λ (xs : List ℕ). calls_after h (map life_entered xs)) exits i d within)
    ∙ inv
