use Rattle.std.proofs.Common.{◌≡◌, ℕ, map, length, ap, ◌∙◌, rules}
use Rattle.std.proofs.lemmas.List.{length-map}
use Rattle.lives.specs.Lives.{plain}
use Rattle.lives.specs.Studies.{Held, opened, sealed}
use Rattle.sources.specs.Studies.{study_counts}
use Rattle.history.specs.Calls.{listed}
use Rattle.history.specs.Runs.{calls_after, counts_after}
use Rattle.history.proofs.Counts.{counts_unmarked}
use Rattle.history.proofs.Successions.{calls_kept}
use Rattle.exports.specs.Codes.{life_entered}
use Rattle.exports.proofs.fits.sealed_lives.Goals as goal

pub returns : goal.returns
returns c =
    let memory = c.args.memory.now in
    let calls = map life_entered c.args.exits.now in
    let ends : sealed c.seal.result ≡ calls_after (opened (map plain memory)) calls = search rules in
    record {
      counts = ap (λ (h : Held). study_counts h.places) (ends ∙ calls_kept (map plain memory) calls) ∙ counts_unmarked (listed (length (map plain memory)) calls) ∙ ap (λ (n : ℕ). counts_after n calls) (length-map memory plain);
      named = search rules;
    }
