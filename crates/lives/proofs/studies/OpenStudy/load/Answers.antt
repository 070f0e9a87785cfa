use Rattle.std.proofs.Common.{sym}
use Rattle.std.proofs.lemmas.Bool.{true≢false}
use Rattle.std.proofs.lemmas.Result.{err_from_is_err_and}
use Rattle.lives.proofs.Loaded.{no_room, loaded}
use Rattle.lives.proofs.studies.OpenStudy.load.Goals as goal

pub returns-in_err-room_for-clause-answer : goal.returns-in_err-room_for-clause-answer
returns-in_err-room_for-clause-answer c =
    let p = err_from_is_err_and c.from_residual-in_err-room_for.result c.from_residual-in_err-room_for.ensures.1 in
    let why = c.in_err-room_for.ensures in
    rw (p.1, p.2, why.0) (sym (no_room c.args.self.now c.args.words.now c.in_ok-lives.lives.now c.in_ok-unused.ensures why.1 c.in_ok-lives.ensures).0)

pub returns-in_err-room_for-clause-after : goal.returns-in_err-room_for-clause-after
returns-in_err-room_for-clause-after c =
    sym (no_room c.args.self.now c.args.words.now c.in_ok-lives.lives.now c.in_ok-unused.ensures c.in_err-room_for.ensures.1 c.in_ok-lives.ensures).1

pub returns : goal.returns
returns c =
    let e =
    loaded c.args.self.now c.fill.new.self c.args.words.now c.in_ok-lives.lives.now c.in_ok-unused.ensures c.in_ok-room_for.ensures c.in_ok-lives.ensures
    c.fill.ensures.places c.fill.ensures.spare in
    record { answer = e.0; after = e.1; refused = λ t. absurd (true≢false t); only = λ _. e.2; named = c.fill.ensures.named }
