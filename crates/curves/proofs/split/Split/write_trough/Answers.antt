use Rattle.std.proofs.Common.{◌≡◌, ℕ, eqb, false, set, sym, ap, ◌∙◌}
use Rattle.curves.specs.Tables.{gap_at, table_age}
use Rattle.curves.specs.declared.step.Step.{Step}
use Rattle.curves.proofs.Laid.{one_laid}
use Rattle.curves.proofs.split.Split.write_trough.Goals as goal

pub returns-clause-steps : goal.returns-clause-steps
returns-clause-steps c =
    let gap = gap_at c.args.self.now.table.gaps.now c.args.self.now.turn in
    let from = table_age c.args.self.now.table.gaps.now c.args.self.now.turn in
    let apart : eqb from gap.age.0 ≡ false = sym (c.if-eq.ensures ∙ ap (λ (k : ℕ). eqb k gap.age.0) c.age_at-from.ensures) in
    let trough : ℕ → Step = λ a. record { from = record { 0 = a }; to = gap.age; failures = 0; exposure = gap.exposure } in
    ap (λ (k : ℕ). set c.args.steps.now c.args.at (trough k)) c.age_at-from.ensures ∙ one_laid from gap.age.0 c.args.at (trough from) c.args.steps.now apart c.requires.room
