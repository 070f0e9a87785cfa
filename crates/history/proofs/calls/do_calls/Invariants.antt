use Rattle.std.proofs.Common.{◌≡◌, map, drop}
use Rattle.lives.specs.Studies.{held}
use Rattle.history.specs.Calls.{plain_call}
use Rattle.history.specs.Runs.{calls_after}
use Rattle.history.proofs.calls.do_calls.Given as goal

-- the calls that are left lead where all of them lead
abbrev pub invariant-loop-call : goal.invariant-loop-call
invariant-loop-call l =
    (calls_after (held l.study) (map plain_call (drop l.call-index l.calls)) ≡ calls_after (held l.initial.study) (map plain_call l.calls))
    × (l.study.memory.ghost_name ≡ l.initial.study.memory.ghost_name)
