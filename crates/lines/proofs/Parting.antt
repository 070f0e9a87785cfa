-- A line parted into fields, byte by byte.
use Rattle.std.proofs.Common.{◌≡◌, ℕ, ◌+◌, ◌-◌, ◌<◌, ◌≤◌, true, false, eqb, List, [], ◌∷◌, ◌++◌, map, length, get_or, take, drop, sym, refl, ap, ◌∙◌, append_assoc, arith, Bor}
use Rattle.std.proofs.lemmas.List.{drop_all, drop_more, get_or-drop, length-drop, map_push, take_more}
use Rattle.std.proofs.lemmas.Bool.{false≢true}
use Rattle.lines.specs.Fields.{ended, fields_after, fields_of, parting}

ended_some : (bs : List ℕ) → false ≡ eqb (length bs) 0 → ended bs [] ≡ bs ∷ []
ended_some [] h = absurd (false≢true h)
ended_some (c ∷ cs) h = refl

ended_before : (bs : List ℕ) (others : List (List ℕ)) → ended bs others ≡ ended bs [] ++ others
ended_before [] others = refl
ended_before (c ∷ cs) others = refl

pub field_added : (old new : List (Bor (List ℕ))) (field : Bor (List ℕ)) → new ≡ old ++ field ∷ [] → false ≡ eqb (length field.now) 0 → map (λ x. x.now) new ≡ map (λ x. x.now) old ++ ended field.now []
field_added old new field e h =
    ap (map (λ x. x.now)) e ∙ map_push (λ x. x.now) old field ∙ ap (λ t. map (λ x. x.now) old ++ t) (sym (ended_some field.now h))

-- the bytes from start on, before i
abbrev begun : List ℕ → ℕ → ℕ → List ℕ
begun line start i = take (i - start) (drop start line)

begun_more : (line : List ℕ) (start i : ℕ) → start ≤ i → i < length line → begun line start (i + 1) ≡ begun line start i ++ get_or line i 0 ∷ []
begun_more line start i h l =
    let k : i + 1 - start ≡ i - start + 1 = omega arith in
    let s : start + (i - start) ≡ i = omega arith in
    let m : i - start < length (drop start line) = rw length-drop (omega arith) in
    rw k (take_more (drop start line) (i - start) 0 m ∙ ap (λ x. begun line start i ++ x ∷ []) (get_or-drop start line (i - start) 0 ∙ ap (λ j. get_or line j 0) s))

at_other : (sofar : List ℕ) (c : ℕ) (cs : List ℕ) → parting c ≡ false → fields_after (sofar ++ c ∷ []) cs ≡ fields_after sofar (c ∷ cs)
at_other sofar c cs p = simp p

at_parting : (sofar : List ℕ) (c : ℕ) (cs : List ℕ) → parting c ≡ true → ended sofar [] ++ fields_after [] cs ≡ fields_after sofar (c ∷ cs)
at_parting sofar c cs p = sym (ended_before sofar (fields_after [] cs)) ∙ simp p

-- a byte that belongs to the field begun
pub part_goes : (made : List (List ℕ)) (line : List ℕ) (start i : ℕ) → start ≤ i → i < length line → parting (get_or line i 0) ≡ false
    → made ++ fields_after (begun line start i) (drop i line) ≡ fields_of line
    → made ++ fields_after (begun line start (i + 1)) (drop (i + 1) line) ≡ fields_of line
part_goes made line start i h l p inv =
    ap (λ t. made ++ fields_after t (drop (i + 1) line)) (begun_more line start i h l)
    ∙ ap (λ t. made ++ t) (at_other (begun line start i) (get_or line i 0) (drop (i + 1) line) p)
    ∙ ap (λ t. made ++ fields_after (begun line start i) t) (sym (drop_more line i 0 l))
    ∙ inv

-- a byte that parts fields
pub part_ends : (made : List (List ℕ)) (line : List ℕ) (start i : ℕ) → i < length line → parting (get_or line i 0) ≡ true
    → made ++ fields_after (begun line start i) (drop i line) ≡ fields_of line
    → (made ++ ended (begun line start i) []) ++ fields_after (begun line (i + 1) (i + 1)) (drop (i + 1) line) ≡ fields_of line
part_ends made line start i l p inv =
    let z : i + 1 - (i + 1) ≡ 0 = omega arith in
    ap (λ n. (made ++ ended (begun line start i) []) ++ fields_after (take n (drop (i + 1) line)) (drop (i + 1) line)) z
    ∙ append_assoc made (ended (begun line start i) []) (fields_after [] (drop (i + 1) line))
    ∙ ap (λ t. made ++ t) (at_parting (begun line start i) (get_or line i 0) (drop (i + 1) line) p)
    ∙ ap (λ t. made ++ fields_after (begun line start i) t) (sym (drop_more line i 0 l))
    ∙ inv

-- the end of the line
pub part_all : (made : List (List ℕ)) (line : List ℕ) (start i : ℕ) → i ≡ length line
    → made ++ fields_after (begun line start i) (drop i line) ≡ fields_of line
    → made ++ ended (begun line start (length line)) [] ≡ fields_of line
part_all made line start i e inv =
    ap (λ n. made ++ ended (begun line start n) []) (sym e)
    ∙ ap (λ t. made ++ fields_after (begun line start i) t) (sym (drop_all i line (omega arith)))
    ∙ inv
