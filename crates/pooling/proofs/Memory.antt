-- A stack of blocks in memory.
use Rattle.std.proofs.Common.{◌≡◌, ℕ, suc, ◌+◌, ◌-◌, ◌<◌, ◌≤◌, List, [], ◌∷◌, ◌++◌, reverse, length, take, drop, set, sym, ap, ◌∙◌, append_assoc, arith}
use Rattle.std.proofs.lemmas.List.{set_split, reverse-append, reverse-reverse, length-reverse, length-take-le, length-drop, length-append, take_at, drop_at, drop-drop}
use Rattle.isotonic.specs.Stacks.{stack_in, laid_in}

module _ {X : Type 0} where
  pub stack_length : (ms : List X) (h : ℕ) → h ≤ length ms → length (stack_in ms h) ≡ h
  stack_length ms h l = length-reverse (take h ms) ∙ length-take-le h ms l

  -- one block written over a stack of height h
  pub put_is : (ms : List X) (h : ℕ) (b : X) → h < length ms → set ms h b ≡ laid_in (b ∷ stack_in ms h) ms
  put_is ms h b l =
      set_split ms h b l ∙ sym (append_assoc (take h ms) (b ∷ []) (drop (suc h) ms))
      ∙ ap (λ xs. (xs ++ (b ∷ [])) ++ drop (suc h) ms) (sym (reverse-reverse (take h ms)))
      ∙ ap (λ xs. xs ++ drop (suc h) ms) (sym (reverse-append (b ∷ []) (stack_in ms h)))
      ∙ ap (λ (k : ℕ). reverse (b ∷ stack_in ms h) ++ drop (suc k) ms) (sym (stack_length ms h (omega arith)))

  pub stack_laid : (stack ms : List X) → stack_in (laid_in stack ms) (length stack) ≡ stack
  stack_laid stack ms = ap reverse (take_at (reverse stack) (drop (length stack) ms) (length stack) (length-reverse stack)) ∙ reverse-reverse stack

  pub length_laid : (stack ms : List X) → length stack ≤ length ms → length (laid_in stack ms) ≡ length ms
  length_laid stack ms l =
      omega (arith, length-append (reverse stack) (drop (length stack) ms), length-reverse stack, length-drop (length stack) ms)

  -- past its height, a stack leaves the memory as it is
  pub drop_laid : (stack ms : List X) (k : ℕ) → length stack ≤ k → drop k (laid_in stack ms) ≡ drop k ms
  drop_laid stack ms k l =
      ap (λ (j : ℕ). drop j (laid_in stack ms)) parts ∙ sym (drop-drop (k - length stack) (length stack) (laid_in stack ms))
      ∙ ap (drop (k - length stack)) (drop_at (reverse stack) (drop (length stack) ms) (length stack) (length-reverse stack))
      ∙ drop-drop (k - length stack) (length stack) ms ∙ ap (λ (j : ℕ). drop j ms) (sym parts)
    where
      parts : k ≡ length stack + (k - length stack)
      parts = omega arith
