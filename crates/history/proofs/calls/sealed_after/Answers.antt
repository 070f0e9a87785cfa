use Rattle.std.proofs.Common.{◌≡◌, [], map, length, sym, ◌∙◌, subst, rules}
use Rattle.std.proofs.lemmas.List.{length-map}
use Rattle.lives.specs.Lives.{plain}
use Rattle.lives.specs.Studies.{opened, sealed}
use Rattle.history.specs.Calls.{plain_call}
use Rattle.history.specs.Runs.{Reached, at_open, calls_after}
use Rattle.history.proofs.Successions.{calls_kept, reached_after, no_succession_leads_to_a_fault}
use Rattle.history.proofs.calls.sealed_after.Goals as goal

pub returns : goal.returns
returns c =
    let m = map plain c.args.memory.now in
    let n = length c.args.memory.now in
    let cs = map plain_call c.args.calls.now in
    let s = sealed c.seal.result in
    let ends : s ≡ calls_after (opened m) cs = search rules in
    let reached : Reached n cs s = subst (Reached n cs) (sym ends) (reached_after n [] (opened m) cs (at_open m (length-map c.args.memory.now plain))) in
    let stands = no_succession_leads_to_a_fault n cs s reached in
    record { reached = reached; listed = stands.places; kept = ends ∙ calls_kept m cs; stands = stands; named = search rules }
