use Rattle.std.proofs.Common.{◌≡◌, ◌+◌, ◌*◌, ◌++◌, map, length, drop, sym, ap, ◌∙◌, arith}
use Rattle.std.proofs.lemmas.List.{length-map}
use Rattle.std.proofs.lemmas.Bool.{cond-true}
use Rattle.lives.specs.Archive.{archive_of, archive_length}
use Rattle.lives.specs.Lives.{plain}
use Rattle.lives.proofs.Written.{grown, finished, room_enough}
use Rattle.lives.proofs.archiving.write_places.Goals as goal

pub loop-i-preserved : goal.loop-i-preserved
loop-i-preserved c =
    grown _ c.loop-i.words c.copy_from_slice.new.self (length c.args.places.now) c.args.places.now c.loop-i.i
    c.index-places-i.result (omega arith) c.index-places-i.is (cc) c.loop-i.invariant

pub returns-clause-after : goal.returns-clause-after
returns-clause-after c =
    let ps = c.args.places.now in
    let ws = c.args.words.now in
    let size : 2 + 4 * length ps + 1 ≡ archive_length (map plain ps) = omega (arith, length-map ps plain) in
    finished ws c.loop-i.words c.word.result c.word-2.result ps c.loop-i.i c.check_word.result (omega arith) (omega arith) c.loop-i.invariant c.check_word.ensures
    ∙ ap (λ n. archive_of (map plain ps) ++ drop n ws) size
    ∙ sym (cond-true _ _ _ (room_enough ps ws (omega arith)))
