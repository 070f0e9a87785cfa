-- Sums and products over a list.
use Rattle.std.specs.Prelude.{ℕ, ◌+◌, ◌*◌, List, [], ◌∷◌}

-- The sum of f over a list.
abbrev pub total : {X : Type 0} → (X → ℕ) → List X → ℕ
total f [] = 0
total f (x ∷ xs) = f x + total f xs

-- The product of f over a list.
abbrev pub product : {X : Type 0} → (X → ℕ) → List X → ℕ
product f [] = 1
product f (x ∷ xs) = f x * product f xs
