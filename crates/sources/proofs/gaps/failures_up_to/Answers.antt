use Rattle.std.proofs.Common.{rules, ap, ◌∙◌, arith}
use Rattle.std.proofs.lemmas.Iterator.{YieldsList-from_map}
use Rattle.std.proofs.lemmas.Iterator.Consumers.{YieldsList-from_first, fits_by_from_yields_list, sum_by_from_yields_List}
use borrow.Author.Tests.{tests}
use Rattle.units.specs.Hours.{age_ticks}
use Rattle.sources.specs.Ages.{ages}
use Rattle.sources.specs.Gaps.{ages_left}
use Rattle.sources.proofs.Ages.{sum_ages}
use Rattle.sources.proofs.gaps.failures_up_to.Goals as goal

pub sum-requires-clause-fits : goal.sum-requires-clause-fits
sum-requires-clause-fits g c =
    let s = c.args.source.now in
    let f = (g.S.Source.counts s).failed in
    let last = c.args.last.0 in
    let left = ages_left g.S.Source.counts in
    fits_by_from_yields_list f (ages f last) c.map.result _
    (YieldsList-from_map _ f (YieldsList-from_first age_ticks left (ages f last) (ap left c.map.ensures.source ∙ c.failure_ages.ensures)) c.map.ensures.closure (λ x r q k. search (rules, tests)))
    (omega (arith, sum_ages f last, (g.S.Source.laws s).few last))

pub returns : goal.returns
returns g c =
    let s = c.args.source.now in
    let f = (g.S.Source.counts s).failed in
    let last = c.args.last.0 in
    let left = ages_left g.S.Source.counts in
    sum_by_from_yields_List f (ages f last) c.map.result c.sum.result c.sum.ensures.ran
    (YieldsList-from_map _ f (YieldsList-from_first age_ticks left (ages f last) (ap left c.map.ensures.source ∙ c.failure_ages.ensures)) c.map.ensures.closure (λ x r q k. search (rules, tests)))
    ∙ sum_ages f last
