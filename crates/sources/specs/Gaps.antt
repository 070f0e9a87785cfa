-- The table of gaps: gap i runs from the failure age before it, or from 0, to the failure age i.
use Rattle.std.specs.Prelude.{ℕ, cond, List, [], ◌∷◌, ◌++◌, length, drop, Ok, Err, Result, nat_le}
use Rattle.units.specs.Refusals.{Refused, refused}
use Rattle.sources.specs.Ticks.{between}
use Rattle.sources.specs.Counts.{Counts}
use Rattle.sources.specs.Ages.{ages, ages_above}
use Rattle.sources.specs.declared.gaps.FailureAges.{FailureAges}
use Rattle.sources.specs.declared.gaps.Gap.{Gap}

-- the failure ages that a walk over a source has left, by the counts that a source means
abbrev pub ages_left : {S : Type 0} → (S → Counts) → FailureAges S → List ℕ
ages_left counts w = ages_above (counts w.source.now).failed w.above.0 w.last.0

-- the gap from one age to a failure age: that age, its failures, and the exposure of the gap
abbrev pub gap : (ℕ → ℕ) → (ℕ → ℕ) → ℕ → ℕ → Gap
gap n f from to = record { age = record { 0 = to }; failures = f to; exposure = record { 0 = between n from to } }

-- the gaps of failure ages in order, the first from an age
abbrev pub gaps_from : (ℕ → ℕ) → (ℕ → ℕ) → ℕ → List ℕ → List Gap
gaps_from n f from [] = []
gaps_from n f from (x ∷ xs) = gap n f from x ∷ gaps_from n f x xs

-- the gaps of the failure ages up to an age
unfoldable pub gaps : (ℕ → ℕ) → (ℕ → ℕ) → ℕ → List Gap
gaps n f last = gaps_from n f 0 (ages f last)

-- their number k; 13 where memory m is shorter
abbrev pub list_answer : ℕ → List Gap → Result ℕ Refused
list_answer k m = cond (nat_le k (length m)) (Ok k) (Err (refused 13))

-- the gaps stand first in memory m, and the rest stays; all stays where it is too short
abbrev pub list_memory : ℕ → List Gap → List Gap → List Gap
list_memory k gs m = cond (nat_le k (length m)) (gs ++ drop k m) m
