use Rattle.std.proofs.Common.{◌≡◌, ◌-◌, ◌≤◌, map, length, take, arith}
use Rattle.std.proofs.lemmas.List.{length-take-le}
use Rattle.units.specs.Refusals.{answer}
use Rattle.lives.specs.Archive.{write_answer, write_after}
use Rattle.lives.specs.Lives.{plain}
use Rattle.lives.proofs.RoundTrip.{written_read}
use Rattle.lives.proofs.studies.SealedStudy.write.Goals as goal

pub returns-clause-read : goal.returns-clause-read
returns-clause-read c =
    let s = c.args.self.now in
    let m = s.memory.now in
    let e : s.used - 0 ≡ s.used = omega arith in
    let a : answer c.write_places.result ≡ write_answer (map plain (take s.used m)) c.args.words.now = rw e at c.write_places.ensures.answer in
    let w : c.write_places.new.words ≡ write_after (map plain (take s.used m)) c.args.words.now = rw e at c.write_places.ensures.after in
    let few : length (take s.used m) ≤ 1024 = omega (arith, length-take-le s.used m s.ok.1, s.ok.0) in
    written_read (take s.used m) c.write_places.result c.args.words.now c.write_places.new.words few a w
