use Rattle.std.proofs.Common.{◌≡◌, cond, eqb, Some, None}
use Rattle.exports.specs.Repeats.{Answers}
use Rattle.exports.proofs.repeating.repeated.Given as goal

-- nothing before the first time, and then the answer
abbrev pub invariant-loop : goal.invariant-loop
invariant-loop g l =
    goal.F-IsAlwaysCallable g l.work
    × ((answer : g.row.T.Denot) → Answers (goal.F-post g l.work) answer → l.last ≡ cond (eqb l.counter 0) None (Some answer))
