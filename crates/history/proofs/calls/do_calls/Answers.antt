use Rattle.std.proofs.Common.{map, sym, ◌∙◌, rules}
use Rattle.std.proofs.lemmas.List.{at_drop_all}
use Rattle.lives.specs.Studies.{held}
use Rattle.history.specs.Calls.{plain_call}
use Rattle.history.specs.Runs.{calls_after}
use Rattle.history.proofs.Left.{calls_again}
use Rattle.history.proofs.calls.do_calls.Goals as goal

pub loop-call-preserved : goal.loop-call-preserved
loop-call-preserved c = search (rules, calls_again)

pub returns : goal.returns
returns c = record {
  after = sym (at_drop_all (λ ds. calls_after (held c.loop-call.study) (map plain_call ds)) c.args.calls.now c.loop-call.call-index c.loop-call-test.false) ∙ c.loop-call.invariant.0;
  named = c.loop-call.invariant.1;
}
