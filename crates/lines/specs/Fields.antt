-- A line of a ledger, and the fields in it. Bytes are numbers.
use Rattle.std.specs.Prelude.{ℕ, Bool, false, cond, ◌||◌, List, [], ◌∷◌, ◌++◌, ◌==◌}

-- a blank, a tab or a comma
abbrev pub parting : ℕ → Bool
parting c = c == 32 || (c == 9 || c == 44)

-- the bytes without the last, where that is c
abbrev pub without_final : ℕ → List ℕ → List ℕ
without_final c [] = []
without_final c (x ∷ []) = cond (x == c) [] (x ∷ [])
without_final c (x ∷ (y ∷ ys)) = x ∷ without_final c (y ∷ ys)

-- a line without the line feed at its end and one carriage return before it
abbrev pub line_text : List ℕ → List ℕ
line_text bs = without_final 13 (without_final 10 bs)

-- the first byte is c
abbrev pub begins : ℕ → List ℕ → Bool
begins c [] = false
begins c (x ∷ xs) = x == c

-- a field that has ended, unless it is empty, before others
abbrev pub ended : List ℕ → List (List ℕ) → List (List ℕ)
ended [] others = others
ended (c ∷ cs) others = (c ∷ cs) ∷ others

-- the fields of the bytes to come, where the field begun so far is given
abbrev pub fields_after : List ℕ → List ℕ → List (List ℕ)
fields_after begun [] = ended begun []
fields_after begun (c ∷ cs) = cond (parting c) (ended begun (fields_after [] cs)) (fields_after (begun ++ c ∷ []) cs)

-- the longest runs of bytes that part no fields, in order
abbrev pub fields_of : List ℕ → List (List ℕ)
fields_of bs = fields_after [] bs
