-- What is answered after work that was done so many times.
use Rattle.std.proofs.Common.{◌≡◌, ℕ, Bool, true, false, cond, ◌||◌, eqb, Some, None, Option, unwrap_or, refl, ap, ◌∙◌}

-- 0 for no time
pub last_or_zero : (times n : ℕ) (last : Option ℕ) → last ≡ cond (eqb times 0) None (Some n) → unwrap_or last 0 ≡ cond (eqb times 0) 0 n
last_or_zero times n last e = ap (λ (o : Option ℕ). unwrap_or o 0) e ∙ go (eqb times 0)
  where
    go : (t : Bool) → unwrap_or (cond t None (Some n)) 0 ≡ cond t 0 n
    go true = refl
    go false = refl

pub or_false : (t u : Bool) → u ≡ false → (t || u) ≡ t
or_false true u e = refl
or_false false u e = e
