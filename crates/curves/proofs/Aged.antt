-- The stack of a side, and its blocks in order of age.
use Rattle.std.proofs.Common.{◌≡◌, ℕ, ◌+◌, ◌-◌, ◌<◌, ◌≤◌, List, ◌++◌, map, reverse, length, get_or, take, ℤ, ◌+ℤ◌, sum_by, sym, refl, ap, ◌∙◌, subst, ap₂, arith, w64, to_z, of_z}
use Rattle.std.specs.List.{AllByRecursion}
use Rattle.std.proofs.ByRecursion.{All-get_or}
use Rattle.std.proofs.lemmas.Int.{ints}
use Rattle.std.proofs.lemmas.List.{get_or-map, get_or-reverse, length-append, length-map, length-reverse, reverse-reverse, take_all}
use Rattle.arith.specs.Rivals.{falling}
use Rattle.arith.proofs.Chains.{all_reverse, reverse_map}
use Rattle.isotonic.specs.declared.blocks.Block.{Block}
use Rattle.isotonic.specs.Laws.{limit}
use Rattle.isotonic.specs.MaxMin.{falling_blocks}
use Rattle.isotonic.specs.Stacks.{stack_in, stacked, mirrored}
use Rattle.isotonic.specs.Theorems.{Inside, turned}
use Rattle.isotonic.proofs.Bulks.{rising_bulk}
use Rattle.isotonic.proofs.Falling.{turned_laws, falling_turns}
use Rattle.isotonic.proofs.Mirror.{mirror_fits, sumBy_reverse}
use Rattle.isotonic.proofs.Pushed.{stacked_fits}
use Rattle.pooling.specs.Kinds.{rate_bulk, rate_joined, rate_leq}
use Rattle.pooling.specs.Pooling.{laid_at, written}
use Rattle.pooling.specs.Scores.{Within, blocks_score, rate_score}
use Rattle.pooling.specs.declared.kinds.Turned.{Turned}
use Rattle.pooling.specs.declared.rates.Rate.{Rate}
use Rattle.pooling.proofs.Memory.{stack_length}
use Rattle.pooling.proofs.Summed.{score_bound, all_within}
use Rattle.pooling.specs.Terms.{rates_modest}
use Rattle.sources.specs.declared.gaps.Gap.{Gap}
use Rattle.curves.specs.Pieces.{row}
use Rattle.curves.specs.Splits.{all_steps, split_blocks, split_score, split_size, split_stack, split_step, split_steps, split_trough}
use Rattle.curves.specs.Tables.{in_age_order, left_at, piece_at, pile, piled, right_at, side_pieces, table_score, table_steps, unturn}
use Rattle.curves.specs.declared.side.Side.{Side}
use Rattle.curves.specs.declared.side.Side.TheVariants.{Left, Right}
use Rattle.curves.specs.declared.split.Split.{Split}
use Rattle.curves.specs.declared.step.Step.{Step}
use Rattle.curves.proofs.Laid.{laid_thrice, one_at_most}
use Rattle.curves.proofs.Parts.{rate_laws}
use Rattle.curves.proofs.Passes.{both_are}
use Rattle.curves.proofs.Rows.{row_length}
use Rattle.curves.proofs.Scored.{rates_commute, pile_right}
use Rattle.curves.proofs.Tabled.{blocks_inside}

-- the blocks of a stack that fills its memory
module _ (ms : List (Block (Turned Rate))) where
  abbrev held : List (Block Rate)
  held = piled ms (length ms)

  whole : take (length ms) ms ≡ ms
  whole = take_all (length ms) ms (omega arith)

  piled_length : length held ≡ length ms
  piled_length = length-map (stack_in ms (length ms)) unturn ∙ stack_length ms (length ms) (omega arith)

  piled_up : reverse held ≡ map unturn ms
  piled_up = reverse_map unturn (stack_in ms (length ms)) ∙ ap (map unturn) (reverse-reverse (take (length ms) ms) ∙ whole)

  age_length : (side : Side) (size : ℕ) → length (in_age_order side size held) ≡ length ms
  age_length Left size = length-reverse held ∙ piled_length
  age_length Right size = length-map held (mirrored size) ∙ piled_length

  module _ (i : ℕ) (b : Block (Turned Rate)) (r : Block Rate) (within : i < length ms) where
    -- from the bottom
    pub from_bottom : b ≡ get_or ms i b → r ≡ unturn b → r ≡ get_or (reverse held) i r
    from_bottom read is = is ∙ ap unturn read ∙ sym (get_or-map unturn ms i b r within) ∙ ap (λ cs. get_or cs i r) (sym piled_up)

    -- from the top
    from_top : b ≡ get_or ms (length ms - 1 - i) b → b ≡ get_or (stack_in ms (length ms)) i b
    from_top read = read ∙ sym (get_or-reverse ms i b within) ∙ ap (λ cs. get_or (reverse cs) i b) (sym whole)

    pub mirrored_top : (size : ℕ) → b ≡ get_or ms (length ms - 1 - i) b → r ≡ mirrored size (unturn b) → r ≡ get_or (map (mirrored size) held) i r
    mirrored_top size read is =
        is ∙ ap (λ (c : Block (Turned Rate)). mirrored size (unturn c)) (from_top read)
        ∙ sym (ap (mirrored size) (get_or-map unturn (stack_in ms (length ms)) i b r (rw (stack_length ms (length ms) (omega arith)) within)))
        ∙ sym (get_or-map (mirrored size) held i r r (rw piled_length within))

    -- what holds of each block of the stack holds of one that is read
    of_each : (P : Block Rate → Type 0) → AllByRecursion P held → b ≡ get_or ms i b → r ≡ unturn b → P r
    of_each P all read is =
        subst P (sym (from_bottom read is))
        (All-get_or P (reverse held) i r (rw (length-reverse held, piled_length) within) (all_reverse P held all))

stack_inside : (xs : List Rate) → sum_by rate_bulk xs ≤ limit → AllByRecursion (Inside (length xs)) (stacked (turned rate_leq) rate_joined xs)
stack_inside xs light =
    let bs = stacked (turned rate_leq) rate_joined xs in
    subst (AllByRecursion (Inside (length xs))) (ap reverse (falling_turns rate_laws xs light ∙ sym (stacked_fits (turned_laws rate_laws) xs light)) ∙ reverse-reverse bs)
    (all_reverse (Inside (length xs)) (falling_blocks rate_leq rate_joined xs) (blocks_inside falling xs light))

-- ---- the sides of a split table

module _ (s : Split) where
  abbrev gs : List Gap
  gs = s.table.gaps.now

  abbrev k : ℕ
  k = s.table.count

  abbrev t : ℕ
  t = s.turn

  abbrev weight : Block Rate → ℕ
  weight b = rate_bulk b.element

  -- a side has no more pieces than the table
  pub side_within : (side : Side) → split_size s side ≤ k
  side_within Left = s.within
  side_within Right = omega arith

  pile_bulk : (side : Side) → sum_by rate_bulk (pile gs k side (split_size s side)) ≡ sum_by rate_bulk (side_pieces gs k t side)
  pile_bulk Left = refl
  pile_bulk Right = ap (sum_by rate_bulk) (pile_right gs k t s.within) ∙ sumBy_reverse rate_bulk (row (right_at gs) t (k - t))

  -- its stack has its blocks
  side_order : (side : Side) (bs : List (Block Rate)) → bs ≡ split_stack s side → in_age_order side (split_size s side) bs ≡ split_blocks s side
  side_order Left bs e =
      let xs = row (left_at gs) 0 t in
      ap reverse e ∙ stacked_fits (turned_laws rate_laws) xs (s.light Left) ∙ sym (falling_turns rate_laws xs (s.light Left))
  side_order Right bs e =
      let xs = row (right_at gs) t (k - t) in
      ap₂ (λ (n : ℕ) cs. map (mirrored n) cs) (sym (row_length (right_at gs) t (k - t))) (e ∙ ap (stacked (turned rate_leq) rate_joined) (pile_right gs k t s.within))
      ∙ mirror_fits rate_laws rates_commute xs (s.light Right)

  -- they stay within the bulk limit, and their score within its bound
  pub side_bulk : (side : Side) → sum_by weight (split_blocks s side) ≤ limit
  side_bulk Left =
      let xs = row (left_at gs) 0 t in
      omega (arith, ap (sum_by weight) (falling_turns rate_laws xs (s.light Left)), rising_bulk (turned_laws rate_laws) xs (s.light Left), s.light Left)
  side_bulk Right = omega (arith, rising_bulk rate_laws (row (right_at gs) t (k - t)) (s.light Right), s.light Right)

  pub side_small : (side : Side) (z : ℤ) → z ≡ blocks_score rate_score (split_blocks s side) → Within score_bound z
  side_small side z is = subst (Within score_bound) (sym is) (all_within rate_bulk rate_score rates_modest (split_blocks s side) (side_bulk side))

  -- a stack of all pieces of a side, which fills its memory
  module _ (side : Side) (ms : List (Block (Turned Rate))) (stack : piled ms (length ms) ≡ split_stack s side) where
    fit_blocks : in_age_order side (split_size s side) (held ms) ≡ split_blocks s side
    fit_blocks = side_order side (held ms) stack

    pub fit_count : length ms ≡ length (split_blocks s side)
    fit_count = sym (age_length ms side (split_size s side)) ∙ ap length fit_blocks

    fit_inside : AllByRecursion (Inside (split_size s side)) (held ms)
    fit_inside =
        let xs = pile gs k side (split_size s side) in
        subst (AllByRecursion (Inside (split_size s side))) (sym stack)
        (subst (λ (n : ℕ). AllByRecursion (Inside n) (stacked (turned rate_leq) rate_joined xs)) (row_length (piece_at gs k side) 0 (split_size s side)) (stack_inside xs (omega (arith, pile_bulk side, s.light side))))

    module _ (i : ℕ) (b : Block (Turned Rate)) (r : Block Rate) (within : i < length ms) where
      -- a block of it is one of the side's pieces
      pub block_inside : b ≡ get_or ms i b → r ≡ unturn b → Inside (split_size s side) r
      block_inside = of_each ms i b r within (Inside (split_size s side)) fit_inside

      -- and stands among the side's blocks: as it is on the left, mirrored on the right
      pub block_left : side ≡ Left → b ≡ get_or ms i b → r ≡ unturn b → r ≡ get_or (split_blocks s side) i r
      block_left left read is =
          from_bottom ms i b r within read is ∙ ap (λ (d : Side). get_or (in_age_order d (split_size s side) (held ms)) i r) (sym left) ∙ ap (λ bs. get_or bs i r) fit_blocks

      pub block_right : side ≡ Right → b ≡ get_or ms (length ms - 1 - i) b → r ≡ mirrored (split_size s side) (unturn b) → r ≡ get_or (split_blocks s side) i r
      block_right right read is =
          mirrored_top ms i b r within (split_size s side) read is ∙ ap (λ (d : Side). get_or (in_age_order d (split_size s side) (held ms)) i r) (sym right) ∙ ap (λ bs. get_or bs i r) fit_blocks

  -- ---- both sides, with the turning gap between them

  pub both_scores : (a b : ℤ) → a ≡ blocks_score rate_score (split_blocks s Left) → b ≡ blocks_score rate_score (split_blocks s Right) → to_z w64 (of_z w64 (to_z w64 (of_z w64 a) +ℤ to_z w64 (of_z w64 b))) ≡ split_score s
  unfolding table_score
  both_scores a b one two =
      let small = side_small Right b two in
      both_are a b (side_small Left a one) (omega (arith, ints, small.0), omega (arith, ints, small.1)) ∙ ap₂ (λ x y. x +ℤ y) one two

  count_steps : (side : Side) (m : ℕ) → m ≡ length (split_blocks s side) → m ≡ length (split_steps s side)
  count_steps side m e = e ∙ sym (length-map (split_blocks s side) (split_step s side))

  module _ (a b : ℕ) (one : a ≡ length (split_blocks s Left)) (two : b ≡ a + length (split_trough s)) where
    pub all_counted : (m : ℕ) → m ≡ length (split_blocks s Right) → b + m ≡ length (all_steps s)
    unfolding table_steps
    all_counted m three =
        let left = split_steps s Left in
        let right = split_steps s Right in
        omega (arith, count_steps Left a one, count_steps Right m three, length-append left (split_trough s ++ right), length-append (split_trough s) right)

    pub all_written : (before first second third : List Step) → a ≤ t → k < length before
        → first ≡ laid_at 0 (split_steps s Left) before → second ≡ laid_at a (split_trough s) first → third ≡ laid_at b (split_steps s Right) second → third ≡ written (all_steps s) before
    unfolding table_steps
    all_written before first second third few room p q r =
        let short : length (split_trough s) ≤ 1 = one_at_most _ _ _ in
        laid_thrice (split_steps s Left) (split_trough s) (split_steps s Right) before first second third a b (count_steps Left a one) two (omega (arith, s.within)) p q r
