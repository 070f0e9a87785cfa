use Rattle.std.proofs.Common.{◌≡◌, ◌+◌, ◌*◌, ◌≤◌, [], ◌∷◌, ◌++◌, map, length, take, set, Ok, sym, ap, ◌∙◌, arith}
use Rattle.std.proofs.lemmas.List.{take_more_set, map_push, drop-set-lt, length-set}
use Rattle.lives.specs.Decode.{viewed}
use Rattle.lives.specs.Lives.{plain}
use Rattle.lives.proofs.OneByOne.{prefixed, prefixed_join, rest, rest_step}
use Rattle.lives.proofs.studies.OpenStudy.fill.Goals as goal

pub loop-i-preserved : goal.loop-i-preserved
loop-i-preserved c =
    let i = c.loop-i.i in
    let lives = c.args.lives.now in
    let m = c.loop-i.self.memory.now in
    let p = c.unwrap.result in
    let inv = c.loop-i.invariant in
    let long : i + 1 ≤ length m = omega arith in
    let turn = rest_step lives i [] (Ok (plain p)) (omega arith) (ap viewed (sym c.unwrap.ensures) ∙ c.read_place.ensures) in
    let grown : map plain (take (i + 1) (set m i p)) ≡ map plain (take i m) ++ plain p ∷ [] = ap (map plain) (take_more_set m i p (omega arith)) ∙ map_push plain (take i m) p in (
      inv.0 ∙ ap (prefixed (map plain (take i m))) turn ∙ prefixed_join (map plain (take i m)) (2 + 4 * i) (plain p) (rest lives (i + 1)) ∙ ap (λ ls. prefixed ls (rest lives (i + 1))) (sym grown),
      drop-set-lt (length lives) m i p (omega arith) ∙ inv.1,
      simp length-set inv.2,
      inv.3,
    )
