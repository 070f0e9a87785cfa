use Rattle.std.proofs.Common.{ℕ, List, Option, vec_items}
use Rattle.ledger.specs.Commands.{Reads}
use Rattle.ledger.proofs.Gathering.{Gathered}
use Rattle.ledger.proofs.reading.read_all.Given as goal

-- what was read so far, and what the reader makes of the fields to come
abbrev pub invariant-loop-field : goal.invariant-loop-field
invariant-loop-field g l =
    goal.F-IsAlwaysCallable g l.read
    × ((t : List ℕ → Option g.row.T.Denot) → Reads (goal.F-post g l.read) t → Gathered t (vec_items l.all) l.fields l.field-index)
