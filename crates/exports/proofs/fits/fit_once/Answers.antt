use Rattle.std.proofs.Common.{◌≡◌, ℕ, ◌≤◌, min, List, length, arith, rules}
use Rattle.sources.specs.Counts.{Counts}
use Rattle.exports.specs.Codes.{most_gaps}
use Rattle.exports.proofs.Coded.{coded, gap_small, steps_small}
use Rattle.exports.proofs.fits.fit_once.Given as given
use Rattle.exports.proofs.fits.fit_once.Goals as goal
use Rattle.exports.proofs.fits.fit_once.Goals.{In-Ok}

abbrev meant : (g : given.Over) → g.row.S.Denot → Counts
meant g s = g.S.Source.counts s

-- the work places lent
abbrev works : {X Y Z : Type 0} → List X → List Y → List Z → ℕ
works gaps blocks scores = min (length gaps) (min (length blocks) (length scores))

small : (g : given.Over) (c : In-Ok g) → c.in-Ok.fit.turning_gap ≤ most_gaps
small g c =
    gap_small (meant g c.args.source.now) c.in-Ok.fit (works c.args.memory.now.gaps c.args.memory.now.blocks c.args.memory.now.scores) (length c.args.memory.now.steps)
    (g.S.Source.laws c.args.source.now) c.in-Ok.ensures.answer

pub overflow_mul-result : goal.overflow_mul-result
overflow_mul-result g c = omega (arith, small g (goal.at.overflow_mul-result g c).In-Ok)

pub overflow_add-result : goal.overflow_add-result
overflow_add-result g c =
    let e = c.in-Ok.ensures in
    let s : length c.args.memory.now.steps ≡ 1025 = search rules in
    let few = steps_small (meant g c.args.source.now) c.in-Ok.fit (works c.args.memory.now.gaps c.args.memory.now.blocks c.args.memory.now.scores) c.args.memory.now.steps _ e.answer e.steps c.fit_curve.auto.steps in
    omega (arith, small g (goal.at.overflow_add-result g c).In-Ok, few, s)

pub returns-in-Ok : goal.returns-in-Ok
returns-in-Ok g c =
    coded (meant g c.args.source.now) (length c.args.memory.now.steps) (works c.args.memory.now.gaps c.args.memory.now.blocks c.args.memory.now.scores)
    c.in-Ok.ensures.answer (search rules) (search rules)

pub returns-in-Err : goal.returns-in-Err
returns-in-Err g c =
    coded (meant g c.args.source.now) (length c.args.memory.now.steps) (works c.args.memory.now.gaps c.args.memory.now.blocks c.args.memory.now.scores)
    c.in-Err.ensures.answer (search rules) (search rules)
