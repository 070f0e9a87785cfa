use Rattle.std.proofs.Common.{◌≡◌, map, length, ap, ◌∙◌, rules, arith}
use Rattle.lives.specs.Studies.{sealed}
use Rattle.sources.specs.Counts.{Counts}
use Rattle.sources.specs.Studies.{study_counts}
use Rattle.history.specs.Runs.{counts_after}
use Rattle.exports.specs.Codes.{code_after, life_entered, most_ages, ushaped_code}
use Rattle.exports.proofs.Coded.{repeated_code}
use Rattle.exports.proofs.fits.fit_lives_repeatedly.Goals as goal

pub returns : goal.returns
returns c =
    let exits = c.args.exits.now in
    let counts = study_counts (sealed c.sealed_lives-study.result).places in
    let last = c.repeated.ensures (ushaped_code counts) (λ before after r made. search rules) in
    let same : counts ≡ counts_after most_ages (map life_entered exits) = search rules in
    c.unwrap_or.ensures
    ∙ repeated_code (length exits) c.args.times counts c.repeated.result (omega (arith, c.if-exits-gt-MOST_AGES.false)) last
    ∙ ap (λ (s : Counts). code_after (length exits) c.args.times s) same
