use Rattle.sources.proofs.Ages.{above_zero}
use Rattle.sources.proofs.gaps.failure_ages.Goals as goal

pub returns : goal.returns
returns g c = above_zero (g.S.Source.counts c.args.source.now).failed c.args.last.0
