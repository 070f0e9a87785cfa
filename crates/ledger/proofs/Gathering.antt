-- What is read of fields, gathered one after another.
use Rattle.std.proofs.Common.{◌≡◌, ℕ, ◌+◌, ◌<◌, ◌≤◌, List, [], ◌∷◌, ◌++◌, map, length, get_or, drop, Some, None, Option, sym, refl, ap, ◌∙◌, append_assoc, append-nil, Bor}
use Rattle.std.specs.Option.{option_map}
use Rattle.std.proofs.lemmas.List.{drop_all, drop_more}
use Rattle.ledger.specs.Commands.{all_of}
use Rattle.lines.specs.Numbers.{next}

module _ {X : Type 0} (t : List ℕ → Option X) where
  -- what was read so far, and what is read of the fields from i on
  abbrev pub Gathered : List X → List (Bor (List ℕ)) → ℕ → Type 0
  Gathered got fs i = option_map (λ xs. got ++ xs) (all_of t (map (λ x. x.now) (drop i fs))) ≡ all_of t (map (λ x. x.now) fs)

  pub gather_start : (got : List X) (fs : List (Bor (List ℕ))) → got ≡ [] → Gathered got fs 0
  gather_start got fs e = ap (λ xs. option_map (λ ys. xs ++ ys) (all_of t (map (λ x. x.now) fs))) e ∙ nothing_more (all_of t (map (λ x. x.now) fs))
    where
      nothing_more : (o : Option (List X)) → option_map (λ xs. [] ++ xs) o ≡ o
      nothing_more None = refl
      nothing_more (Some xs) = refl

  -- the fields from i on, by the first of them
  at_field : (got : List X) (fs : List (Bor (List ℕ))) (i : ℕ) (d : Bor (List ℕ)) → i < length fs → Gathered got fs i
      → option_map (λ xs. got ++ xs) (next (t (get_or fs i d).now) (λ x. option_map (λ xs. x ∷ xs) (all_of t (map (λ x. x.now) (drop (i + 1) fs))))) ≡ all_of t (map (λ x. x.now) fs)
  at_field got fs i d l inv = sym (ap (λ r. option_map (λ xs. got ++ xs) (all_of t (map (λ x. x.now) r))) (drop_more fs i d l)) ∙ inv

  pub gather_none : (got : List X) (fs : List (Bor (List ℕ))) (i : ℕ) (d : Bor (List ℕ)) → i < length fs → None ≡ t (get_or fs i d).now → Gathered got fs i
      → None ≡ all_of t (map (λ x. x.now) fs)
  gather_none got fs i d l n inv =
      ap (λ o. option_map (λ xs. got ++ xs) (next o (λ x. option_map (λ xs. x ∷ xs) (all_of t (map (λ x. x.now) (drop (i + 1) fs)))))) n ∙ at_field got fs i d l inv

  push_one : (got : List X) (x : X) (o : Option (List X)) → option_map (λ xs. (got ++ x ∷ []) ++ xs) o ≡ option_map (λ xs. got ++ xs) (option_map (λ xs. x ∷ xs) o)
  push_one got x None = refl
  push_one got x (Some xs) = ap (λ r. Some r) (append_assoc got (x ∷ []) xs)

  pub gather_more : (got : List X) (fs : List (Bor (List ℕ))) (i : ℕ) (d : Bor (List ℕ)) (x : X) → i < length fs → Some x ≡ t (get_or fs i d).now → Gathered got fs i
      → Gathered (got ++ x ∷ []) fs (i + 1)
  gather_more got fs i d x l n inv =
      push_one got x (all_of t (map (λ x. x.now) (drop (i + 1) fs)))
      ∙ ap (λ o. option_map (λ xs. got ++ xs) (next o (λ y. option_map (λ xs. y ∷ xs) (all_of t (map (λ x. x.now) (drop (i + 1) fs)))))) n
      ∙ at_field got fs i d l inv

  pub gather_all : (got : List X) (fs : List (Bor (List ℕ))) (i : ℕ) → length fs ≤ i → Gathered got fs i → Some got ≡ all_of t (map (λ x. x.now) fs)
  gather_all got fs i l inv =
      ap (λ r. Some r) (sym (append-nil got)) ∙ sym (ap (λ r. option_map (λ xs. got ++ xs) (all_of t (map (λ x. x.now) r))) (drop_all i fs l)) ∙ inv
