use Rattle.std.proofs.Common.{◌≡◌}
use Rattle.lives.specs.Decode.{places_in, error_of}
use Rattle.lives.proofs.OneByOne.{rest}
use Rattle.lives.proofs.loading.bad_life_word.Given as goal

abbrev pub invariant-loop-i : goal.invariant-loop-i
invariant-loop-i l = error_of (places_in 2 l.lives) ≡ error_of (rest l.lives l.i)
