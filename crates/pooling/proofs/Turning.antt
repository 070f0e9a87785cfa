-- The rising fit of turned elements.
use Rattle.std.proofs.Common.{◌≡◌, ℕ, Bool, List, [], ◌∷◌, map, sum_by, sym, refl, ◌∙◌, arith}
use Rattle.std.proofs.lemmas.List.Sums.{sum_by-cons}
use Rattle.isotonic.specs.Laws.{Laws}
use Rattle.isotonic.specs.Theorems.{turned}
use Rattle.isotonic.proofs.Falling.{falling_turns}
use Rattle.isotonic.proofs.Maps.{rising_blocks_map}
use Rattle.pooling.specs.Turns.{unturned, turned_bulk, TurnedFalls}
use Rattle.pooling.specs.declared.kinds.Turned.{Turned}

bulk_unturned : {V : Type 0} (bulk : V → ℕ) (xs : List (Turned V)) → sum_by bulk (map unturned xs) ≡ sum_by (turned_bulk bulk) xs
bulk_unturned bulk [] = refl
bulk_unturned bulk (x ∷ xs) =
    omega (arith, sum_by-cons bulk (unturned x) (map unturned xs), sum_by-cons (turned_bulk bulk) x xs, bulk_unturned bulk xs)

pub turned_falls : {V : Type 0} {leq : V → V → Bool} {joined : V → V → V} {bulk : V → ℕ} → Laws leq joined bulk → TurnedFalls leq joined bulk
turned_falls {leq = leq} {joined = joined} {bulk = bulk} laws xs light =
    rising_blocks_map unturned (turned leq) joined (λ x y. refl) (λ x y. refl) xs ∙ sym (falling_turns laws (map unturned xs) (omega (arith, bulk_unturned bulk xs)))
