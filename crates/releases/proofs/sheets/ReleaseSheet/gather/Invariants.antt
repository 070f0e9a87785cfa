use Rattle.releases.proofs.Gathered.{Gathered}
use Rattle.releases.proofs.sheets.ReleaseSheet.gather.Given as goal

abbrev pub invariant-loop-i : goal.invariant-loop-i
invariant-loop-i l = Gathered l.row-items l.pieces l.i
