-- What the stack and the pooling call answer, and what memory holds afterwards.
use Rattle.std.specs.Prelude.{ℕ, ◌+◌, ◌-◌, Bool, cond, ◌||◌, List, ◌++◌, length, take, drop, Some, None, Ok, Err, sum_by, Option, Result, ◌==◌, nat_lt}
use Rattle.units.specs.Refusals.{Refused, refused}
use Rattle.isotonic.specs.declared.blocks.Block.{Block}
use Rattle.isotonic.specs.Laws.{limit}
use Rattle.isotonic.specs.MaxMin.{rising_blocks}
use Rattle.isotonic.specs.Stacks.{lone, pushed, stack_in, laid_in}

-- an answer: the refusal that is due, or else the value
abbrev pub answered : {X : Type 0} → Option Refused → X → Result X Refused
answered None x = Ok x
answered (Some e) x = Err e

-- what is there afterwards: unchanged by a refusal
abbrev pub unless_refused : {X : Type 0} → Option Refused → X → X → X
unless_refused None before after = after
unless_refused (Some e) before after = before

-- memory with a list laid into it from a place on; the rest stays
abbrev pub laid_at : {X : Type 0} → ℕ → List X → List X → List X
laid_at at ys memory = take at memory ++ (ys ++ drop (at + length ys) memory)

-- memory with a list written from its start; past the list it stays
abbrev pub written : {X : Type 0} → List X → List X → List X
written ys before = ys ++ drop (length ys) before

-- the stack after a push of piece i on the stack in the first places of a memory
abbrev pub stack_after : {V : Type 0} → (V → V → Bool) → (V → V → V) → List (Block V) → ℕ → ℕ → V → List (Block V)
stack_after leq joined memory height i v = pushed leq joined (stack_in memory height) (lone i v)

-- a push is refused by 13 where the stack of this height fills its memory
abbrev pub push_refusal : ℕ → ℕ → Option Refused
push_refusal height room = cond (nat_lt height room) None (Some (refused 13))

-- the height and the memory of a stack after a push of piece i; a refusal changes neither
module _ {V : Type 0} (leq : V → V → Bool) (joined : V → V → V) (memory : List (Block V)) (height i : ℕ) (v : V) where
  abbrev pub push_height : ℕ
  push_height = unless_refused (push_refusal height (length memory)) height (length (stack_after leq joined memory height i v))

  abbrev pub push_memory : List (Block V)
  push_memory = unless_refused (push_refusal height (length memory)) memory (laid_in (stack_after leq joined memory height i v) memory)

-- n pieces with this total bulk, and room for so many blocks: 12 without a piece, 13 with less room than pieces, 17 with more pieces than the kind allows or bulks past the limit
abbrev pub list_refusal : ℕ → ℕ → ℕ → ℕ → Option Refused
list_refusal most n room bulk =
    cond (n == 0) (Some (refused 12)) (cond (nat_lt room n) (Some (refused 13)) (cond (nat_lt most n || nat_lt limit bulk) (Some (refused 17)) None))

-- left to the builder: what the places from a on and before b hold afterwards. They are bound only to be so many.
abbrev pub left_to_builder : {X : Type 0} → ℕ → ℕ → List X → List X
left_to_builder a b after = take (b - a) (drop a after)

-- block memory after a fit of n pieces: the blocks, then up to n places what is left to the builder, then what was there
abbrev pub fitted_memory : {X : Type 0} → List X → ℕ → List X → List X → List X
fitted_memory blocks n before after = blocks ++ (left_to_builder (length blocks) n after ++ drop n before)

module _ {V : Type 0} (leq : V → V → Bool) (joined : V → V → V) (bulk : V → ℕ) (most : ℕ) (pieces : List V) where
  abbrev pub pool_refusal : ℕ → Option Refused
  pool_refusal room = list_refusal most (length pieces) room (sum_by bulk pieces)

  -- the pooling call answers the number of blocks of the rising fit
  abbrev pub pool_answer : ℕ → Result ℕ Refused
  pool_answer room = answered (pool_refusal room) (length (rising_blocks leq joined pieces))

  -- and writes them into the first places of the block memory
  abbrev pub pool_memory : List (Block V) → List (Block V) → List (Block V)
  pool_memory before after = unless_refused (pool_refusal (length before)) before (fitted_memory (rising_blocks leq joined pieces) (length pieces) before after)
