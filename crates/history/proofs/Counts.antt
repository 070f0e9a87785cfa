-- The counts of a study are those of its unmarked lives.
use Rattle.std.proofs.Common.{◌≡◌, ℕ, ◌+◌, Bool, true, false, cond, not, ◌&&◌, eqb, ltb, leb, List, [], ◌∷◌, refl, ap, ◌∙◌, add-zero}
use Rattle.lives.specs.Lives.{PlainLife, PlainPlace}
use Rattle.sources.specs.Studies.{count, is_failed, study_counts, study_watched, study_failed}
use Rattle.history.specs.Calls.{unmarked, how_many, life_counts}

-- one place: a struck one counts nothing, and its life is not among the unmarked
one_more : (q : PlainLife → Bool) (struck : Bool) (l : PlainLife) (ls : List PlainLife) (n : ℕ) → n ≡ how_many q ls → n + cond (not struck && q l) 1 0 ≡ how_many q (cond struck ls (l ∷ ls))
one_more q true l ls n e = add-zero n ∙ e
one_more q false l ls n e = ap (λ (k : ℕ). k + cond (q l) 1 0) e

counted : (q : PlainLife → Bool) (ps : List PlainPlace) → count (λ p. not p.struck && q p.life) ps ≡ how_many q (unmarked ps)
counted q [] = refl
counted q (p ∷ ps) = one_more q p.struck p.life (unmarked ps) (count (λ p. not p.struck && q p.life) ps) (counted q ps)

pub counts_unmarked : (ps : List PlainPlace) → study_counts ps ≡ life_counts (unmarked ps)
unfolding study_watched study_failed life_counts
counts_unmarked ps = λ i. record {
  watched = λ t. counted (λ l. ltb l.entry t && leb t l.exit) ps i;
  failed = λ t. counted (λ l. is_failed l.status && eqb l.exit t) ps i;
}
