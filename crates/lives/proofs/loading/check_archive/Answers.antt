use Rattle.std.proofs.Common.{◌≡◌, ◌-◌, length, take, sym, ap, ◌∙◌, arith}
use Rattle.std.proofs.lemmas.Result.{err_from_is_err_and}
use Rattle.lives.specs.Archive.{check_of}
use Rattle.lives.specs.Decode.{places_in, checked}
use Rattle.lives.proofs.Decoded.{framed, decoded, checked_bad, checked_off, checked_ok, lives_of}
use Rattle.lives.proofs.OneByOne.{decoded_lives}
use Rattle.lives.proofs.loading.check_archive.Goals as goal

pub returns-in_err-lives : goal.returns-in_err-lives
returns-in_err-lives c =
    let p = err_from_is_err_and c.from_residual.result c.from_residual.ensures.1 in
    rw (p.1, p.2) (decoded c.args.words.now _ c.in_err-lives.ensures)

pub returns-in-Some : goal.returns-in-Some
returns-in-Some c =
    let ws = c.args.words.now in
    let lives = c.in_ok-lives.lives.now in
    decoded_lives ws lives c.in_ok-lives.ensures ∙ checked_bad ws (places_in 2 lives) c.in-Some.place c.in-Some.ensures

pub returns-then-check_word-words : goal.returns-then-check_word-words
returns-then-check_word-words c =
    let ws = c.args.words.now in
    let lives = c.in_ok-lives.lives.now in
    let z : length ws - 1 - 0 ≡ length ws - 1 = omega arith in
    rw c.in_frame.ensures (decoded_lives ws lives c.in_ok-lives.ensures
    ∙ checked_off ws (places_in 2 lives) c.in_default.ensures
    (λ h. c.if-check_word-words.true (c.check_word.ensures ∙ ap (λ k. check_of (take k ws)) z ∙ h)))

pub returns : goal.returns
returns c =
    let ws = c.args.words.now in
    let lives = c.in_ok-lives.lives.now in
    let f = framed ws (length lives) c.in_ok-lives.ensures.0 in
    let read = lives_of (places_in 2 lives) c.in_default.ensures in
    let z : length ws - 1 - 0 ≡ length ws - 1 = omega arith in
    let right = ap (λ k. check_of (take k ws)) (sym z) ∙ sym c.check_word.ensures ∙ c.if-check_word-words.false in
    (f.few, (read.0, read.1, decoded_lives ws lives c.in_ok-lives.ensures ∙ ap (checked ws) read.1 ∙ checked_ok ws read.0 right))
