-- A step of growth as text.
use Rattle.std.specs.Prelude.{ℕ, List, ◌∷◌, ◌++◌}
use Rattle.std.specs.Fmt.{decimal}
use Rattle.releases.specs.declared.steps.GrowthStep.{GrowthStep}

-- the four numbers, with a space between two
abbrev pub step_text : GrowthStep → List ℕ
step_text step = decimal step.first ++ (32 ∷ decimal step.last ++ (32 ∷ decimal step.successes ++ (32 ∷ decimal step.trials)))
