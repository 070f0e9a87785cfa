-- Under each block of a stack stands the stack of the pieces before it.
use Rattle.std.proofs.Common.{◌≡◌, ℕ, zero, suc, ◌<◌, ◌≤◌, Bool, List, [], ◌∷◌, ◌++◌, reverse, length, get_or, take, sym, refl, ap, ◌∙◌, subst, add-one, arith}
use Rattle.std.proofs.lemmas.List.{reverse-append}
use Rattle.std.proofs.lemmas.List.Sums.{sum_by-take-le}
use Rattle.std.proofs.lemmas.Bool.{cond_both}
use Rattle.isotonic.specs.declared.blocks.Block.{Block}
use Rattle.isotonic.specs.Laws.{Laws}
use Rattle.isotonic.specs.MaxMin.{rising_blocks}
use Rattle.isotonic.specs.Stacks.{merged, lone, pushed, stacked}
use Rattle.isotonic.specs.Theorems.{FrontsNest}
use Rattle.isotonic.proofs.Pushed.{stacked_none, stacked_more, stacked_fits}

module _ {V : Type 0} (leq : V → V → Bool) (joined : V → V → V) (xs : List V) where
  -- under each block stands the stack of the pieces before it
  abbrev pub Nested : ℕ → List (Block V) → Type 0
  Nested hi [] = Unit {0}
  Nested hi (b ∷ bs) = (b.first < hi) × (bs ≡ stacked leq joined (take b.first xs)) × Nested b.first bs

  pushed_nested : (bs : List (Block V)) (b : Block V) → b.first ≤ b.last → bs ≡ stacked leq joined (take b.first xs) → Nested b.first bs → Nested (suc b.last) (pushed leq joined bs b)
  unfolding pushed
  pushed_nested [] b h e nest = (omega arith, e, tt)
  pushed_nested (t ∷ ts) b h e nest =
      cond_both (leq b.element t.element) (pushed leq joined ts (merged joined t b)) (b ∷ t ∷ ts) (Nested (suc b.last))
      (λ _. pushed_nested ts (merged joined t b) (omega (arith, nest.0)) nest.1 nest.2)
      (λ _. (omega arith, e, nest))

  -- a stack on which something was put is not empty
  pub pushed_any : (bs : List (Block V)) (b : Block V) → 0 < length (pushed leq joined bs b)
  unfolding pushed
  pushed_any [] b = omega arith
  pushed_any (t ∷ ts) b =
      cond_both (leq b.element t.element) (pushed leq joined ts (merged joined t b)) (b ∷ t ∷ ts) (λ cs. 0 < length cs)
      (λ _. pushed_any ts (merged joined t b))
      (λ _. omega arith)

  stack_any : V → (k : ℕ) → suc k ≤ length xs → 0 < length (stacked leq joined (take (suc k) xs))
  stack_any d k h =
      subst (λ (bs : List (Block V)). 0 < length bs) (sym (stacked_more leq joined xs k d h) ∙ ap (λ (j : ℕ). stacked leq joined (take j xs)) (add-one k))
      (pushed_any (stacked leq joined (take k xs)) (lone k (get_or xs k d)))

  pub stack_nested : V → (k : ℕ) → k ≤ length xs → Nested k (stacked leq joined (take k xs))
  stack_nested d zero h = subst (λ (bs : List (Block V)). Nested 0 bs) (sym (stacked_none leq joined)) tt
  stack_nested d (suc k) h =
      subst (λ (bs : List (Block V)). Nested (suc k) bs) (sym (stacked_more leq joined xs k d (omega arith)) ∙ ap (λ (j : ℕ). stacked leq joined (take j xs)) (add-one k))
      (pushed_nested (stacked leq joined (take k xs)) (lone k (get_or xs k d)) (omega arith) refl (stack_nested d k (omega arith)))

module _ {V : Type 0} {leq : V → V → Bool} {joined : V → V → V} {bulk : V → ℕ} (laws : Laws leq joined bulk) where
  pub fronts_nest : FrontsNest leq joined bulk
  fronts_nest [] light i p q = absurd (omega arith)
  fronts_nest (x ∷ xs) light i p q = go (stacked leq joined (take i (x ∷ xs))) refl (stack_nested leq joined (x ∷ xs) x i q)
    where
      fits : (k : ℕ) → reverse (stacked leq joined (take k (x ∷ xs))) ≡ rising_blocks leq joined (take k (x ∷ xs))
      fits k = stacked_fits laws (take k (x ∷ xs)) (omega (arith, sum_by-take-le bulk (x ∷ xs) k))

      any : (k : ℕ) → 0 < k → k ≤ length (x ∷ xs) → 0 < length (stacked leq joined (take k (x ∷ xs)))
      any zero h l = absurd (omega arith)
      any (suc k) h l = stack_any leq joined (x ∷ xs) x k l

      go : (bs : List (Block V)) → bs ≡ stacked leq joined (take i (x ∷ xs)) → Nested leq joined (x ∷ xs) i bs →
          (b : Block V) × (b.first < i) × (rising_blocks leq joined (take i (x ∷ xs)) ≡ rising_blocks leq joined (take b.first (x ∷ xs)) ++ (b ∷ []))
      go [] e n = absurd (omega (arith, ap length e, any i p q))
      go (b ∷ bs) e n = (
        b,
        n.0,
        sym (fits i) ∙ ap reverse (sym e) ∙ reverse-append (b ∷ []) bs
            ∙ ap (λ cs. reverse cs ++ (b ∷ [])) n.1 ∙ ap (λ cs. cs ++ (b ∷ [])) (fits b.first),
      )
