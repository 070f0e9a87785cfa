use Rattle.std.proofs.Common.{◌≡◌, ◌-◌, ◌≤◌, ◌++◌, map, take, drop, vec_items}
use Rattle.lines.specs.Fields.{fields_after, fields_of}
use Rattle.lines.proofs.fields.part.Given as goal

-- the fields so far, and those of the field begun and the bytes to come
abbrev pub invariant-loop-i : goal.invariant-loop-i
invariant-loop-i l =
    (l.start ≤ l.i)
    × (map (λ x. x.now) (vec_items l.fields) ++ fields_after (take (l.i - l.start) (drop l.start l.line)) (drop l.i l.line) ≡ fields_of l.line)
