use Rattle.std.proofs.Common.{◌<◌, length, refl, ap, arith}
use Rattle.sources.specs.Ages.{ages}
use Rattle.sources.specs.Gaps.{gaps}
use Rattle.sources.proofs.Ages.{ages_few, written_more, written_all}
use Rattle.sources.proofs.gaps.write_gaps.Given as given
use Rattle.sources.proofs.gaps.write_gaps.Goals as goal

pub loop-i-init : goal.loop-i-init
loop-i-init g c =
    rw (c.into_iter-i-iterator.ensures.into_iter_gives, c.enumerate-i-items.ensures.count, c.enumerate-i-items.ensures.source, c.failure_ages.ensures) (refl, record { number = omega arith; written = refl; rest = refl })

-- the next gap has a place
room : (g : given.Over) (c : goal.After-gap_between g) → c.in-Some.i < length (ages (g.S.Source.counts c.args.source.now).failed c.args.last.0)
room g c = omega (arith, c.loop-i.invariant.1.number, ap length c.in-Some.ensures.steps.0, c.in-Some.ensures.steps.1)

pub offset_bounds-memory-i : goal.offset_bounds-memory-i
offset_bounds-memory-i g c =
    let s = c.args.source.now in
    let last = c.args.last.0 in
    omega (arith, room g c, ages_few (g.S.Source.counts s).failed last, (g.S.Source.laws s).few last)

pub bounds-memory-i : goal.bounds-memory-i
bounds-memory-i g c = omega (arith, room g c, c.requires, c.loop-i.auto.memory)

pub loop-i-preserved : goal.loop-i-preserved
loop-i-preserved g c =
    let h = c.in-Some.ensures.steps in
    (omega (arith, h.1, h.2), written_more _ _ _ _ _ _ c.loop-i.invariant.1 h.0 h.1 h.2 (omega (arith, c.requires, c.loop-i.auto.memory)) c.gap_between.ensures)

pub returns-clause-count : goal.returns-clause-count
returns-clause-count g c = omega (arith, c.loop-i.invariant.0, c.loop-i.invariant.1.number, ap length c.in-None.ensures.steps.0.0)

pub returns-clause-memory : goal.returns-clause-memory
unfolding gaps
returns-clause-memory g c = written_all _ c.loop-i.invariant.1 c.in-None.ensures.steps.0.0
