use Rattle.std.proofs.Common.{◌≡◌, ℕ, ◌<◌, ◌≤◌, Some, None, Option, length, ◌∷◌, sym, ap, ◌∙◌, subst, arith}
use Rattle.std.proofs.lemmas.Bool.Decides.{nat_tests}
use Rattle.units.specs.declared.ages.Age.{Age}
use Rattle.sources.specs.Ages.{next_failure, ages_above}
use Rattle.sources.specs.Questions.{Next}
use Rattle.sources.proofs.Ages.{above_none, above_next}
use Rattle.sources.proofs.Questions.{next_means}
use Rattle.sources.proofs.gaps.FailureAgesIterator.next.Given as given
use Rattle.sources.proofs.gaps.FailureAgesIterator.next.Goals as goal

-- what the source answers, in words
told : (g : given.Over) (s : g.row.S.Denot) (x : ℕ) (o : Option Age) → o ≡ next_failure (g.S.Source.counts s).failed x → Next (g.S.Source.counts s).failed x o
told g s x o e = subst (Next (g.S.Source.counts s).failed x) (sym e) (next_means (g.S.Source.counts s).watched (g.S.Source.counts s).failed (g.S.Source.laws s) x)

pub returns-in_err-next-clause-steps : goal.returns-in_err-next-clause-steps
returns-in_err-next-clause-steps g c =
    let it = c.args.self.now in
    let none = told g it.source.now it.above.0 None (sym c.in_err-next.was ∙ c.next_failure.ensures) in
    let e = above_none _ it.above.0 it.last.0 (λ t l _. none t l) in
    rw c.from_residual.ensures (e, e)

pub returns-then-gt-clause-steps : goal.returns-then-gt-clause-steps
returns-then-gt-clause-steps g c =
    let it = c.args.self.now in
    let a = c.in_ok-next.next in
    let some = told g it.source.now it.above.0 (Some a) (sym c.in_ok-next.was ∙ c.next_failure.ensures) in
    let far : it.last.0 < a.0 = grind (arith, nat_tests, c.if-gt.ensures) in
    let e = above_none _ it.above.0 it.last.0 (λ t l m. some.2 t l (omega arith)) in
    (e, e)

-- the next failure age, and those above it
left : (g : given.Over) (c : goal.After-result-1 g) → ages_above (g.S.Source.counts c.args.self.now.source.now).failed c.args.self.now.above.0 c.args.self.now.last.0 ≡ c.in_ok-next.next.0 ∷ ages_above (g.S.Source.counts c.args.self.now.source.now).failed c.in_ok-next.next.0 c.args.self.now.last.0
left g c =
    let it = c.args.self.now in
    let a = c.in_ok-next.next in
    let some = told g it.source.now it.above.0 (Some a) (sym c.in_ok-next.was ∙ c.next_failure.ensures) in
    let near : a.0 ≤ it.last.0 = grind (arith, nat_tests, c.if-gt.ensures) in
    above_next _ it.above.0 a.0 it.last.0 some.0 some.1 some.2 near

pub returns-clause-steps : goal.returns-clause-steps
returns-clause-steps g c = left g c

pub returns-clause-goes : goal.returns-clause-goes
returns-clause-goes g c = record { on = λ _. (tt, tt, omega (arith, ap length (left g c))); keeps = tt; rests = λ _. tt }
