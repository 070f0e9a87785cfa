-- Pieces put one by one on a stack in memory.
use Rattle.std.proofs.Common.{◌≡◌, ℕ, ◌+◌, ◌-◌, ◌<◌, ◌≤◌, Bool, List, ◌++◌, reverse, length, get_or, take, drop, sum_by, sym, refl, ap, ◌∙◌, arith}
use Rattle.std.proofs.lemmas.List.{take_all, take-append-drop, drop-drop, length-take-le, reverse-reverse}
use Rattle.isotonic.specs.declared.blocks.Block.{Block}
use Rattle.isotonic.specs.Laws.{Laws, limit}
use Rattle.isotonic.specs.MaxMin.{rising_blocks}
use Rattle.isotonic.specs.Stacks.{lone, pushed, stacked, stack_in, laid_in}
use Rattle.isotonic.proofs.Pushed.{stacked_none, stacked_more, stacked_fits, pushed_height}
use Rattle.pooling.specs.Pooling.{left_to_builder, fitted_memory}
use Rattle.pooling.proofs.Memory.{stack_length, stack_laid, length_laid, drop_laid}

-- after i pieces: a memory that was `before` holds their stack of height h in its first places, and is unchanged from place i on
pub record Filled {V : Type 0} (leq : V → V → Bool) (joined : V → V → V) (pieces : List V) (before memory : List (Block V)) (h i : ℕ) : Type 0 where
  pub low : h ≤ i
  pub stack : stack_in memory h ≡ stacked leq joined (take i pieces)
  pub rest : drop i memory ≡ drop i before
  pub long : length memory ≡ length before

module _ {V : Type 0} {leq : V → V → Bool} {joined : V → V → V} (pieces : List V) (before : List (Block V)) where
  pub fill_start : (h : ℕ) → h ≡ 0 → Filled leq joined pieces before before h 0
  fill_start h e = record {
    low = omega arith;
    stack = ap (stack_in before) e ∙ sym (stacked_none leq joined);
    rest = refl;
    long = refl;
  }

  module _ (room : length pieces ≤ length before) (ms : List (Block V)) (h i : ℕ) (f : Filled leq joined pieces before ms h i) where
    pub fill_more : (x : V) (h' : ℕ) (ms' : List (Block V)) → i < length pieces → x ≡ get_or pieces i x → h' ≡ length (pushed leq joined (stack_in ms h) (lone i x)) → ms' ≡ laid_in (pushed leq joined (stack_in ms h) (lone i x)) ms → Filled leq joined pieces before ms' h' (i + 1)
    fill_more x h' ms' l read high laid =
        let p = pushed leq joined (stack_in ms h) (lone i x) in
        let low : length p ≤ i + 1 = omega (arith, pushed_height leq joined (stack_in ms h) (lone i x), stack_length ms h (omega (arith, f.low, f.long)), f.low) in
        record {
          low = omega arith;
          stack =
              (λ j. stack_in (laid j) (high j)) ∙ stack_laid p ms
              ∙ ap (λ bs. pushed leq joined bs (lone i x)) f.stack
              ∙ ap (λ (y : V). pushed leq joined (stacked leq joined (take i pieces)) (lone i y)) read
              ∙ sym (stacked_more leq joined pieces i x l);
          rest =
              ap (drop (i + 1)) laid ∙ drop_laid p ms (i + 1) low
              ∙ sym (drop-drop 1 i ms) ∙ ap (drop 1) f.rest ∙ drop-drop 1 i before;
          long = ap length laid ∙ length_laid p ms (omega (arith, f.long)) ∙ f.long;
        }

    module _ {bulk : V → ℕ} (laws : Laws leq joined bulk) (light : sum_by bulk pieces ≤ limit) (all : i ≡ length pieces) where
      fill_blocks : take h ms ≡ rising_blocks leq joined pieces
      fill_blocks =
          sym (reverse-reverse (take h ms)) ∙ ap reverse f.stack
          ∙ ap (λ xs. reverse (stacked leq joined xs)) (take_all i pieces (omega arith)) ∙ stacked_fits laws pieces light

      pub fill_count : h ≡ length (rising_blocks leq joined pieces)
      fill_count = sym (length-take-le h ms (omega (arith, f.low, f.long))) ∙ ap length fill_blocks

      pub fill_memory : ms ≡ fitted_memory (rising_blocks leq joined pieces) (length pieces) before ms
      fill_memory =
          sym (take-append-drop h ms)
          ∙ ap (λ xs. take h ms ++ xs) (sym (take-append-drop (length pieces - h) (drop h ms)))
          ∙ ap (λ xs. take h ms ++ (left_to_builder h (length pieces) ms ++ xs)) rest
          ∙ ap (λ xs. xs ++ (left_to_builder h (length pieces) ms ++ drop (length pieces) before)) fill_blocks
          ∙ ap (λ (k : ℕ). rising_blocks leq joined pieces ++ (left_to_builder k (length pieces) ms ++ drop (length pieces) before)) fill_count
        where
          whole : h + (length pieces - h) ≡ i
          whole = omega (arith, f.low)

          rest : drop (length pieces - h) (drop h ms) ≡ drop (length pieces) before
          rest = drop-drop (length pieces - h) h ms ∙ ap (λ (k : ℕ). drop k ms) whole ∙ f.rest ∙ ap (λ (k : ℕ). drop k before) all
