use Rattle.std.proofs.Common.{length, ap, inl, arith}
use Rattle.sources.proofs.Ages.{ages_few}
use Rattle.sources.proofs.gaps.count_failure_ages.Goals as goal

pub count-requires-clause-fits : goal.count-requires-clause-fits
count-requires-clause-fits g c =
    let s = c.args.source.now in
    let last = c.args.last.0 in
    inl (omega (arith, ap length c.failure_ages.ensures, ages_few (g.S.Source.counts s).failed last, (g.S.Source.laws s).few last))
