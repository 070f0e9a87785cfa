use Rattle.std.proofs.Common.{◌≡◌, ◌+◌, ◌*◌, ◌++◌, length, take, drop}
use Rattle.lives.proofs.Written.{front}
use Rattle.lives.proofs.archiving.write_places.Given as goal

abbrev pub invariant-loop-i : goal.invariant-loop-i
invariant-loop-i l = l.words ≡ front (length l.places) (take l.i l.places) ++ drop (2 + 4 * l.i) l.initial.words
