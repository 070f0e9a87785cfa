-- What the fields after a command's name say.
use Rattle.std.specs.Prelude.{◌≡◌, ℕ, cond, ◌&&◌, List, [], ◌∷◌, Some, None, Option}
use Rattle.std.specs.Borrow.{Bor}
use Rattle.std.specs.Option.{option_map}
use Rattle.lives.specs.declared.types.UncheckedLife.{UncheckedLife}
use Rattle.lines.specs.Numbers.{decimal_of, hours_form, next, word_of}

-- serial, entry age, exit age and status, four numbers
abbrev pub life_of : List ℕ → List ℕ → List ℕ → List ℕ → Option UncheckedLife
life_of s e x k =
    next (decimal_of s) (λ serial. next (decimal_of e) (λ entry. next (decimal_of x) (λ exit. next (decimal_of k) (λ status.
    Some (record { serial = serial; entry = entry; exit = exit; status = status })))))

-- the serial of a row, where it and both hours have their form
abbrev pub row_serial : List ℕ → List ℕ → List ℕ → Option ℕ
row_serial s from to = next (decimal_of s) (λ serial. cond (hours_form from && hours_form to) (Some serial) None)

-- what t reads of all fields, where it reads every one
abbrev pub all_of : {X : Type 0} → (List ℕ → Option X) → List (List ℕ) → Option (List X)
all_of t [] = Some []
all_of t (f ∷ fs) = next (t f) (λ x. option_map (λ xs. x ∷ xs) (all_of t fs))

-- a reader that answers what t reads of a field
abbrev pub Reads : {X : Type 0} → (Bor (List ℕ) → Option X → Type 0) → (List ℕ → Option X) → Type 0
Reads {X = X} post t = (field : Bor (List ℕ)) (r : Option X) → post field r → r ≡ t field.now

-- the words of an archive, where every field is one
abbrev pub words_of : List (List ℕ) → Option (List ℕ)
words_of fs = all_of word_of fs
