-- A step of a curve as text.
use Rattle.std.specs.Prelude.{ℕ, List, ◌∷◌, ◌++◌}
use Rattle.std.specs.Fmt.{decimal}
use Rattle.curves.specs.declared.step.Step.{Step}

-- the two ages, the failures and the exposure, with a space between two
abbrev pub step_text : Step → List ℕ
step_text step = decimal step.from.0 ++ (32 ∷ decimal step.to.0 ++ (32 ∷ decimal step.failures ++ (32 ∷ decimal step.exposure.0)))
