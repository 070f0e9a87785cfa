-- Rates and shares as text.
use Rattle.std.specs.Prelude.{ℕ, List, ◌∷◌, ◌++◌}
use Rattle.std.specs.Fmt.{decimal}
use Rattle.pooling.specs.Ratios.{Ratio}

-- the part, a slash, and the whole
abbrev pub ratio_text : Ratio → List ℕ
ratio_text x = decimal x.part ++ (47 ∷ decimal x.whole)
