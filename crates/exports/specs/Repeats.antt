-- Work that is done again and again in the same memory.
use Rattle.std.specs.Prelude.{◌≡◌}
use Rattle.std.specs.Borrow.{MutBor}

-- each time the work answers the same, whatever the memory holds
abbrev pub Answers : {M T : Type 0} → (MutBor M → T → MutBor M → Type 0) → T → Type 0
Answers {M = M} {T = T} post answer = (before after : MutBor M) (r : T) → post before r after → r ≡ answer
