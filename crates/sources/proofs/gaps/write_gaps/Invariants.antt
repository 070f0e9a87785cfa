use Rattle.std.proofs.Common.{◌≡◌}
use Rattle.sources.specs.Ages.{ages}
use Rattle.sources.specs.Gaps.{ages_left}
use Rattle.sources.proofs.Ages.{Written}
use Rattle.sources.proofs.gaps.write_gaps.Given as goal

abbrev pub invariant-loop-i : goal.invariant-loop-i
invariant-loop-i g l =
    let n = (g.S.Source.counts l.source).watched in
    let f = (g.S.Source.counts l.source).failed in
    (l.count ≡ l.i-iterator.count) × Written n f (ages f l.fn.last.0) l.initial.memory l.memory l.i-iterator.count l.from.0 (ages_left g.S.Source.counts l.i-iterator.iter)
