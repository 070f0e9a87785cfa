use Rattle.std.proofs.Common.{◌≡◌, ◌≤◌, map, length, take, drop}
use Rattle.lives.specs.Decode.{places_in}
use Rattle.lives.specs.Lives.{plain}
use Rattle.lives.proofs.OneByOne.{prefixed, rest}
use Rattle.lives.proofs.studies.OpenStudy.fill.Given as goal

abbrev pub invariant-loop-i : goal.invariant-loop-i
invariant-loop-i l =
    (places_in 2 l.lives ≡ prefixed (map plain (take l.i l.self.memory.now)) (rest l.lives l.i))
    × (drop (length l.lives) l.self.memory.now ≡ drop (length l.lives) l.initial.self.memory.now)
    × (length l.lives ≤ length l.self.memory.now)
    × (l.self.memory.ghost_name ≡ l.initial.self.memory.ghost_name)
