-- Rates copied in one by one, and whether each has an exposure.
use Rattle.std.proofs.Common.{◌≡◌, ℕ, zero, suc, ◌+◌, ◌<◌, ◌≤◌, Bool, true, false, cond, eqb, ◌⊎◌, List, [], ◌∷◌, ◌++◌, map, length, get_or, take, set, Some, None, sym, refl, ap, ◌∙◌, inl, inr, arith}
use Rattle.std.proofs.lemmas.List.{map-append, map_more, take_all, take_more_set}
use Rattle.std.proofs.lemmas.Bool.{and_from, and_left, and_right, cond-false, lt-ltb, le-ltb}
use Rattle.std.proofs.lemmas.Bool.Decides.{eqb_tells}
use Rattle.pooling.specs.Ratios.{Ratio}
use Rattle.pooling.specs.Kinds.{rate_ratio, rate_made}
use Rattle.pooling.specs.declared.rates.Rate.{Rate}
use Rattle.exports.specs.declared.PlainRate.{PlainRate}
use Rattle.exports.specs.Counts.{plain_ratio, all_exposed}

-- every `Rate` has an exposure
pub rates_exposed : (rates : List Rate) → all_exposed (map rate_ratio rates) ≡ true
rates_exposed [] = refl
rates_exposed (x ∷ xs) = and_from _ _ (lt-ltb 0 x.exposure.0 x.exposed) (rates_exposed xs)

made_some : (x y : Ratio) → Some x ≡ rate_made y.part y.whole → x ≡ y
made_some x y made = go (eqb y.whole 0) made
  where
    go : (t : Bool) → Some x ≡ cond t None (Some y) → x ≡ y
    go true e = let z : ◌≡◌ {A = ℕ} 0 1 = cc in absurd (omega arith)
    go false e = cc

made_none : (y : Ratio) → None ≡ rate_made y.part y.whole → y.whole ≡ 0
made_none y made = go (eqb_tells y.whole 0)
  where
    go : ((eqb y.whole 0 ≡ true) × (y.whole ≡ 0)) ⊎ ((eqb y.whole 0 ≡ false) × (y.whole ≡ 0 → ⊥)) → y.whole ≡ 0
    go (inl h) = h.1
    go (inr h) = let e : None ≡ Some y = made ∙ cond-false _ _ _ h.0 in let z : ◌≡◌ {A = ℕ} 0 1 = cc in absurd (omega arith)

module _ (plain : List PlainRate) (i : ℕ) (d : PlainRate) (within : i < length plain) where
  -- a rate without exposure is enough for the answer
  pub unexposed_at : None ≡ rate_made (get_or plain i d).failures (get_or plain i d).exposure → false ≡ all_exposed (map plain_ratio plain)
  unexposed_at none = sym (go plain i within (made_none (plain_ratio (get_or plain i d)) none))
    where
      go : (xs : List PlainRate) (k : ℕ) → k < length xs → (get_or xs k d).exposure ≡ 0 → all_exposed (map plain_ratio xs) ≡ false
      go [] k h e = absurd (omega arith)
      go (x ∷ xs) zero h e = and_left _ _ (le-ltb 0 x.exposure (omega (arith, e)))
      go (x ∷ xs) (suc k) h e = and_right _ _ (go xs k (omega arith) e)

  -- one more rate
  pub copied_more : (rates : List Rate) (rate : Rate) → i < length rates → Some (rate_ratio rate) ≡ rate_made (get_or plain i d).failures (get_or plain i d).exposure → map rate_ratio (take i rates) ≡ map plain_ratio (take i plain) → map rate_ratio (take (i + 1) (set rates i rate)) ≡ map plain_ratio (take (i + 1) plain)
  copied_more rates rate room made before =
      ap (map rate_ratio) (take_more_set rates i rate room) ∙ map-append rate_ratio (take i rates) (rate ∷ [])
      ∙ (λ t. before t ++ (made_some (rate_ratio rate) (plain_ratio (get_or plain i d)) made t ∷ [])) ∙ sym (map_more plain_ratio plain i d within)

-- all rates
module _ (plain : List PlainRate) (rates : List Rate) (i : ℕ) (all : length plain ≤ i) (last : i ≤ length plain) (copied : map rate_ratio (take i rates) ≡ map plain_ratio (take i plain)) where
  pub copied_all : map rate_ratio (take (length plain) rates) ≡ map plain_ratio plain
  copied_all = ap (λ (k : ℕ). map rate_ratio (take k rates)) end ∙ copied ∙ ap (map plain_ratio) (take_all i plain all)
    where
      end : length plain ≡ i
      end = omega arith

  pub copied_exposed : true ≡ all_exposed (map plain_ratio plain)
  copied_exposed = sym (rates_exposed (take (length plain) rates)) ∙ ap all_exposed copied_all
