-- The last byte of a line, where it is taken off.
use Rattle.std.proofs.Common.{◌≡◌, ℕ, suc, ◌+◌, ◌-◌, Bool, true, false, cond, eqb, nat_eq, List, [], ◌∷◌, ◌++◌, length, take, drop, Some, None, Option, MatchOption, unwrap_or, Bor, sym, refl, ap, ◌∙◌, inl, inr, arith}
use Rattle.std.specs.Cmp.Lexicographic.{other_text, pointwise, same_text}
use Rattle.std.proofs.lemmas.Bool.{cases_Bool, cond-true, cond-false, eq-eqb, eqb-true}
use Rattle.std.proofs.lemmas.List.{take-append-drop}
use Rattle.lines.specs.Fields.{without_final}

cons_cond : (b : Bool) (y : ℕ) (xs ys : List ℕ) → y ∷ cond b xs ys ≡ cond b (y ∷ xs) (y ∷ ys)
cons_cond true y xs ys = refl
cons_cond false y xs ys = refl

without_final_push : (c x : ℕ) (front : List ℕ) → without_final c (front ++ x ∷ []) ≡ cond (eqb x c) front (front ++ x ∷ [])
without_final_push c x [] = refl
without_final_push c x (y ∷ []) = cons_cond (eqb x c) y [] (x ∷ [])
without_final_push c x (y ∷ (z ∷ zs)) =
    ap (λ t. y ∷ t) (without_final_push c x (z ∷ zs)) ∙ cons_cond (eqb x c) y (z ∷ zs) ((z ∷ zs) ++ x ∷ [])

-- the last is c
pub final_cut : (c : ℕ) (xs : List ℕ) → drop (length xs - 1) xs ≡ c ∷ [] → take (length xs - 1) xs ≡ without_final c xs
final_cut c xs e =
    let front : List ℕ = take (length xs - 1) xs in
    let whole : front ++ c ∷ [] ≡ xs = ap (λ t. front ++ t) (sym e) ∙ take-append-drop (length xs - 1) xs in
    sym (cond-true (eqb c c) front (front ++ c ∷ []) (eq-eqb c c refl)) ∙ sym (without_final_push c c front) ∙ ap (without_final c) whole

-- it is not
pub final_kept : (c : ℕ) (xs : List ℕ) → (drop (length xs - 1) xs ≡ c ∷ [] → ⊥) → xs ≡ without_final c xs
final_kept c [] h = refl
final_kept c (x ∷ []) h =
    elim (cases_Bool (eqb x c)) [ inl e ↦ absurd (h (ap (λ y. y ∷ []) (eqb-true x c e))) | inr e ↦ sym (cond-false (eqb x c) [] (x ∷ []) e) ]
final_kept c (x ∷ (y ∷ ys)) h =
    let e : length (x ∷ (y ∷ ys)) - 1 ≡ suc (length (y ∷ ys) - 1) = omega arith in
    ap (λ t. x ∷ t) (final_kept c (y ∷ ys) (λ k. h (ap (λ n. drop n (x ∷ (y ∷ ys))) e ∙ k)))

-- the line after a look for c at its end
pub end_taken : (c : ℕ) (line : Bor (List ℕ)) (found : Option (Bor (List ℕ)))
    → MatchOption found (pointwise nat_eq (drop (length line.now - 1) line.now) (c ∷ []) ≡ false)
    (λ x. (pointwise nat_eq (drop (length line.now - 1) line.now) (c ∷ []) ≡ true) × (x.now ≡ take (length line.now - 1) line.now) × (length x.now + 1 ≡ length line.now))
    → (unwrap_or found line).now ≡ without_final c line.now
end_taken c line None e = final_kept c line.now (other_text (drop (length line.now - 1) line.now) (c ∷ []) (sym e))
end_taken c line (Some x) e = e.1 ∙ final_cut c line.now (same_text (drop (length line.now - 1) line.now) (c ∷ []) (sym e.0))
