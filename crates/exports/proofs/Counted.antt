-- The blocks of rates, counted by their plain numbers.
use Rattle.std.proofs.Common.{◌≡◌, ℕ, ◌+◌, ◌<◌, Bool, true, false, cond, not, ◌||◌, eqb, leb, List, [], ◌∷◌, map, length, Some, sum_by, Option, sym, refl, ap, ◌∙◌, arith}
use Rattle.std.proofs.lemmas.List.{length-map}
use Rattle.std.proofs.lemmas.List.Sums.{sum_by-cons}
use Rattle.std.proofs.lemmas.Bool.{not_from_true, cond-true, cond-false, lt-ltb}
use Rattle.units.specs.Refusals.{Refused, refused}
use Rattle.isotonic.specs.Laws.{limit}
use Rattle.isotonic.specs.MaxMin.{on_element, rising_blocks}
use Rattle.isotonic.proofs.Maps.{rising_blocks_map}
use Rattle.pooling.specs.Ratios.{Ratio}
use Rattle.pooling.specs.Kinds.{rate_ratio, rate_leq, rate_joined, rate_bulk, rate_sum}
use Rattle.pooling.specs.Pooling.{answered, list_refusal}
use Rattle.pooling.specs.declared.rates.Rate.{Rate}
use Rattle.exports.specs.Counts.{plain_leq, plain_bulk, plain_joined, plain_blocks, all_exposed, most_rates, or_zero, rates_count, fit_count, blocks_counted}
use Rattle.exports.proofs.Exposed.{rates_exposed}

joined_plain : (x y : Rate) → rate_ratio (rate_joined x y) ≡ plain_joined (rate_ratio x) (rate_ratio y)
joined_plain x y = go (leb (rate_bulk x + rate_bulk y) limit)
  where
    go : (t : Bool) → rate_ratio (cond t (rate_sum x y) x) ≡ cond t (rate_ratio (rate_sum x y)) (rate_ratio x)
    go true = refl
    go false = refl

bulk_plain : (rates : List Rate) → sum_by rate_bulk rates ≡ sum_by plain_bulk (map rate_ratio rates)
bulk_plain [] = refl
bulk_plain (x ∷ xs) =
    sum_by-cons rate_bulk x xs ∙ ap (λ (n : ℕ). rate_bulk x + n) (bulk_plain xs) ∙ sym (sum_by-cons plain_bulk (rate_ratio x) (map rate_ratio xs))

count_plain : (rates : List Rate) → length (rising_blocks rate_leq rate_joined rates) ≡ length (plain_blocks (map rate_ratio rates))
count_plain rates =
    sym (length-map (rising_blocks rate_leq rate_joined rates) (on_element rate_ratio))
    ∙ ap length (rising_blocks_map rate_ratio plain_leq plain_joined (λ x y. refl) joined_plain rates)

-- a fit of rates counts as one of their plain numbers
fit_plain : (rates : List Rate) → rates_count rates most_rates ≡ fit_count (map rate_ratio rates)
fit_plain rates =
    λ i. or_zero (answered (list_refusal most_rates (sym (length-map rates rate_ratio) i) most_rates (bulk_plain rates i)) (count_plain rates i))

-- no block for more rates than the most
pub too_many : (plain : List Ratio) (times : ℕ) → most_rates < length plain → 0 ≡ blocks_counted plain times
too_many plain times many = none (eqb times 0 || not (all_exposed plain)) ∙ ap (cond (eqb times 0 || not (all_exposed plain)) 0) (sym uncounted)
  where
    none : (t : Bool) → ◌≡◌ {A = ℕ} 0 (cond t 0 0)
    none true = refl
    none false = refl

    some : eqb (length plain) 0 ≡ false
    some = grind arith

    due : list_refusal most_rates (length plain) most_rates (sum_by plain_bulk plain) ≡ Some (refused 13)
    due = cond-false _ _ _ some ∙ cond-true _ _ _ (lt-ltb most_rates (length plain) many)

    uncounted : fit_count plain ≡ 0
    uncounted = ap (λ (q : Option Refused). or_zero (answered q (length (plain_blocks plain)))) due

-- fits of rates with these numbers count their blocks
pub rates_counted : (plain : List Ratio) (rates : List Rate) (times count : ℕ) → map rate_ratio rates ≡ plain → count ≡ cond (eqb times 0) 0 (rates_count rates most_rates) → count ≡ blocks_counted plain times
rates_counted plain rates times count same counted =
    counted ∙ (λ i. cond (no_other (eqb times 0) (all_exposed (map rate_ratio rates)) (rates_exposed rates) i) 0 (fit_plain rates i))
    ∙ ap (λ (xs : List Ratio). blocks_counted xs times) same
  where
    no_other : (t e : Bool) → e ≡ true → t ≡ (t || not e)
    no_other true e h = refl
    no_other false e h = sym (not_from_true e h)
