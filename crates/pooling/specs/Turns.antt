-- A kind in the turned order.
use Rattle.std.specs.Prelude.{◌≡◌, ℕ, ◌≤◌, Bool, List, map, sum_by}
use Rattle.isotonic.specs.Laws.{limit}
use Rattle.isotonic.specs.MaxMin.{on_element, rising_blocks, falling_blocks}
use Rattle.pooling.specs.declared.kinds.Turned.{Turned}

abbrev pub unturned : {V : Type 0} → Turned V → V
unturned x = x.0

abbrev pub turned_leq : {V : Type 0} → (V → V → Bool) → Turned V → Turned V → Bool
turned_leq leq x y = leq (unturned y) (unturned x)

abbrev pub turned_joined : {V : Type 0} → (V → V → V) → Turned V → Turned V → Turned V
turned_joined joined x y = record { 0 = joined (unturned x) (unturned y) }

abbrev pub turned_bulk : {V : Type 0} → (V → ℕ) → Turned V → ℕ
turned_bulk bulk x = bulk (unturned x)

-- the rising fit of turned elements is the falling fit of the elements
abbrev pub TurnedFalls : {V : Type 0} → (V → V → Bool) → (V → V → V) → (V → ℕ) → Type 0
TurnedFalls {V = V} leq joined bulk =
    (xs : List (Turned V)) → sum_by (turned_bulk bulk) xs ≤ limit →
    map (on_element unturned) (rising_blocks (turned_leq leq) (turned_joined joined) xs) ≡ falling_blocks leq joined (map unturned xs)
