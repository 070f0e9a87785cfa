use Rattle.std.proofs.Common.{◌≡◌, ℕ, List, length, IfOk, ap, ◌∙◌, subst}
use Rattle.sources.specs.Counts.{Counts}
use Rattle.curves.specs.Faults.{Fault}
use Rattle.curves.specs.Fits.{fit_result, fit_steps, fit_work, shown, work_places}
use Rattle.curves.specs.declared.shapes.Shape.{Shape}
use Rattle.history.proofs.fitting.fit_after.Goals as goal

-- equal counts leave the same work memory
work_moves : {X : Type 0} {s z : Counts} (shape : Shape) (room works : ℕ) (before after : List X) → s ≡ z → after ≡ fit_work s shape room works before after → after ≡ fit_work z shape room works before after
work_moves shape room works before after same kept = kept ∙ ap (λ (s : Counts). fit_work s shape room works before after) same

pub returns : goal.returns
returns c =
    let study = c.sealed_after-study.ensures in
    let fit = c.fit_curve-fit.ensures in
    let same = study.stands.counts in
    let shape = c.args.shape in
    let room = length c.args.steps.now in
    let works = work_places c.args.work in
    record {
      reached = study.reached;
      kept = study.kept;
      named = study.named;
      answer = fit.answer ∙ ap (λ (s : Counts). fit_result s shape room works) same;
      steps = fit.steps ∙ ap (λ (s : Counts). fit_steps s shape room works c.args.steps.now) same;
      gaps = work_moves shape room works c.args.work.gaps.now _ same fit.gaps;
      blocks = work_moves shape room works c.args.work.blocks.now _ same fit.blocks;
      scores = work_moves shape room works c.args.work.scores.now _ same fit.scores;
      faultless = subst (λ (s : Counts). IfOk c.fit_curve-fit.result (λ a. Fault s shape (shown a c.fit_curve-fit.new.steps) → ⊥)) same fit.faultless;
    }
