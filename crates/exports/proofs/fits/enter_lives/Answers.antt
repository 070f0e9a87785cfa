use Rattle.std.proofs.Common.{map, sym, ◌∙◌, rules}
use Rattle.std.proofs.lemmas.List.{at_drop_all}
use Rattle.lives.specs.Studies.{held}
use Rattle.history.specs.Runs.{calls_after}
use Rattle.exports.specs.Codes.{life_entered}
use Rattle.exports.proofs.Gathered.{lives_again}
use Rattle.exports.proofs.fits.enter_lives.Goals as goal

pub loop-exit-preserved : goal.loop-exit-preserved
loop-exit-preserved c = search (rules, lives_again)

pub returns : goal.returns
returns c = record {
  after = sym (at_drop_all (λ xs. calls_after (held c.loop-exit.study) (map life_entered xs)) c.args.exits.now c.loop-exit.exit-index c.loop-exit-test.false) ∙ c.loop-exit.invariant.0;
  named = c.loop-exit.invariant.1;
}
