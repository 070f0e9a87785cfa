-- Pieces put on a stack that keeps their rates falling.
use Rattle.std.proofs.Common.{◌≡◌, ℕ, ◌+◌, ◌<◌, ◌≤◌, List, [], ◌∷◌, map, length, take, drop, pos, ◌+ℤ◌, Some, None, sum_by, Option, sym, refl, ap, ◌∙◌, subst, arith}
use Rattle.std.specs.Option.{IsSome}
use Rattle.std.proofs.lemmas.Int.{ints}
use Rattle.std.proofs.lemmas.List.Sums.{sum_by-take-le}
use Rattle.std.proofs.lemmas.Bool.{lt-ltb, cond_both, cond-true}
use Rattle.arith.specs.Rivals.{falling}
use Rattle.units.specs.Refusals.{Refused}
use Rattle.isotonic.specs.declared.blocks.Block.{Block}
use Rattle.isotonic.specs.Laws.{limit}
use Rattle.isotonic.specs.MaxMin.{rising_blocks}
use Rattle.isotonic.specs.Stacks.{lone, merged, pushed, stacked, stack_in, top_of, laid_in}
use Rattle.isotonic.specs.Theorems.{turned}
use Rattle.isotonic.proofs.Bulks.{rising_bulk}
use Rattle.isotonic.proofs.Fronts.{Nested, pushed_any, stack_nested}
use Rattle.isotonic.proofs.Maps.{pushed_map}
use Rattle.isotonic.proofs.Pushed.{pushed_height, stacked_none, stacked_more, stacked_fits}
use Rattle.pooling.specs.Kinds.{rate_leq, rate_joined, rate_bulk}
use Rattle.pooling.specs.Pooling.{stack_after, unless_refused, push_refusal, push_height, push_memory}
use Rattle.pooling.specs.Turns.{unturned, turned_leq, turned_joined}
use Rattle.pooling.specs.declared.kinds.Turned.{Turned}
use Rattle.pooling.specs.declared.rates.Rate.{Rate}
use Rattle.pooling.specs.Scores.{Within, rate_score, blocks_score}
use Rattle.pooling.specs.Terms.{rates_modest, score_reverse}
use Rattle.pooling.proofs.Memory.{stack_length, stack_laid, length_laid, drop_laid}
use Rattle.pooling.proofs.Summed.{score_bound, all_within}
use Rattle.sources.specs.declared.gaps.Gap.{Gap}
use Rattle.curves.specs.Tables.{piece_at, pile, unturn, piled, side_stack, stack_score}
use Rattle.curves.specs.declared.side.Side.{Side}
use Rattle.curves.proofs.Laid.{drop_later}
use Rattle.curves.proofs.Parts.{order_laws}
use Rattle.curves.proofs.Rows.{row_at, row_length, row_take}

-- what a push of piece i leaves in memory
pub record Put (ms : List (Block (Turned Rate))) (h i : ℕ) (x : Rate) (ms' : List (Block (Turned Rate))) (h' : ℕ) : Type 0 where
  pub pile : piled ms' h' ≡ pushed (turned rate_leq) rate_joined (piled ms h) (lone i x)
  pub some : 0 < length (stack_in ms' h')
  pub low : h' ≤ h + 1
  pub rest : drop (h + 1) ms' ≡ drop (h + 1) ms
  pub long : length ms' ≡ length ms

module _ (ms : List (Block (Turned Rate))) (h i : ℕ) (x : Rate) (room : h < length ms) where
  abbrev after : List (Block (Turned Rate))
  after = stack_after (turned_leq rate_leq) (turned_joined rate_joined) ms h i (record { 0 = x })

  no_refusal : push_refusal h (length ms) ≡ None
  no_refusal = cond-true _ _ _ (lt-ltb h (length ms) room)

  high : length after ≤ h + 1
  high = omega (arith, pushed_height (turned_leq rate_leq) (turned_joined rate_joined) (stack_in ms h) (lone i (record { 0 = x })), stack_length ms h (omega arith))

  pub put : (ms' : List (Block (Turned Rate))) (h' : ℕ) → h' ≡ push_height (turned_leq rate_leq) (turned_joined rate_joined) ms h i (record { 0 = x })
      → ms' ≡ push_memory (turned_leq rate_leq) (turned_joined rate_joined) ms h i (record { 0 = x }) → Put ms h i x ms' h'
  put ms' h' height memory =
      let tall : h' ≡ length after = height ∙ ap (λ (q : Option Refused). unless_refused q h (length after)) no_refusal in
      let laid : ms' ≡ laid_in after ms = memory ∙ ap (λ (q : Option Refused). unless_refused q ms (laid_in after ms)) no_refusal in
      let stack : stack_in ms' h' ≡ after = (λ j. stack_in (laid j) (tall j)) ∙ stack_laid after ms in
      record {
        pile = ap (map unturn) stack ∙ pushed_map unturned (turned rate_leq) rate_joined (λ a b. refl) (λ a b. refl) (stack_in ms h) (lone i (record { 0 = x }));
        some = rw stack (pushed_any (turned_leq rate_leq) (turned_joined rate_joined) [] (stack_in ms h) (lone i (record { 0 = x })));
        low = omega (arith, tall, high);
        rest = ap (drop (h + 1)) laid ∙ drop_laid after ms (h + 1) high;
        long = ap length laid ∙ length_laid after ms (omega (arith, high));
      }

-- the block at the top
pub top_map : (bs : List (Block (Turned Rate))) (b : Block (Turned Rate)) → Some b ≡ top_of bs → top_of (map unturn bs) ≡ Some (unturn b)
top_map [] b e = let z : ◌≡◌ {A = ℕ} 0 1 = cc in absurd (omega arith)
top_map (x ∷ xs) b e = let same : x ≡ b = cc in ap (λ (y : Block (Turned Rate)). Some (unturn y)) same

pub top_there : (bs : List (Block (Turned Rate))) → 0 < length bs → IsSome (top_of bs)
top_there [] h = absurd (omega arith)
top_there (x ∷ xs) h = refl

-- it ends with the piece that was pushed
pub pushed_last : (bs : List (Block Rate)) (b t : Block Rate) → top_of (pushed (turned rate_leq) rate_joined bs b) ≡ Some t → t.last ≡ b.last
unfolding pushed
pushed_last [] b t e = let same : t ≡ b = cc in ap (λ (c : Block Rate). c.last) same
pushed_last (u ∷ us) b t e =
    cond_both (turned rate_leq b.element u.element) (pushed (turned rate_leq) rate_joined us (merged rate_joined u b)) (b ∷ u ∷ us) (λ cs. top_of cs ≡ Some t → t.last ≡ b.last)
    (λ _. pushed_last us (merged rate_joined u b) t)
    (λ _ h. let same : t ≡ b = cc in ap (λ (c : Block Rate). c.last) same)
    e

-- ---- the score of a stack

-- it is that of the falling fit
pub score_fits : (xs : List Rate) → sum_by rate_bulk xs ≤ limit → blocks_score rate_score (stacked (turned rate_leq) rate_joined xs) ≡ blocks_score rate_score (rising_blocks (turned rate_leq) rate_joined xs)
score_fits xs light = sym (score_reverse rate_score (stacked (turned rate_leq) rate_joined xs)) ∙ ap (blocks_score rate_score) (stacked_fits (order_laws falling) xs light)

score_within : (xs : List Rate) → sum_by rate_bulk xs ≤ limit → Within score_bound (blocks_score rate_score (stacked (turned rate_leq) rate_joined xs))
score_within xs light =
    subst (Within score_bound) (sym (score_fits xs light))
    (all_within rate_bulk rate_score rates_modest (rising_blocks (turned rate_leq) rate_joined xs) (omega (arith, rising_bulk (order_laws falling) xs light)))

-- ---- the stack of the first pieces of a side

module _ (gs : List Gap) (k : ℕ) (side : Side) where
  stack_none : side_stack gs k side 0 ≡ []
  stack_none = stacked_none (turned rate_leq) rate_joined

  pub score_none : stack_score gs k side 0 ≡ pos 0
  score_none = ap (blocks_score rate_score) stack_none

  -- the first i of m pieces
  front : (i m : ℕ) → i ≤ m → side_stack gs k side i ≡ stacked (turned rate_leq) rate_joined (take i (pile gs k side m))
  front i m h = ap (stacked (turned rate_leq) rate_joined) (row_take (piece_at gs k side) 0 i m h)

  -- one more piece
  pub stack_more : (bs : List (Block Rate)) (i : ℕ) (x : Rate) → bs ≡ side_stack gs k side i → x ≡ piece_at gs k side i → pushed (turned rate_leq) rate_joined bs (lone i x) ≡ side_stack gs k side (i + 1)
  stack_more bs i x was is =
      let xs = pile gs k side (i + 1) in
      ap (λ cs. pushed (turned rate_leq) rate_joined cs (lone i x)) (was ∙ front i (i + 1) (omega arith))
      ∙ ap (λ (y : Rate). pushed (turned rate_leq) rate_joined (stacked (turned rate_leq) rate_joined (take i xs)) (lone i y)) (is ∙ ap (piece_at gs k side) same ∙ sym (row_at (piece_at gs k side) 0 (i + 1) i x (omega arith)))
      ∙ sym (stacked_more (turned rate_leq) rate_joined xs i x (omega (arith, row_length (piece_at gs k side) 0 (i + 1)))) ∙ sym (front (i + 1) (i + 1) (omega arith))
    where
      same : i ≡ 0 + i
      same = omega arith

  -- the score of one more piece is that of the pieces before the block at the top, and the block's own
  headed : (i : ℕ) (top : Block Rate) (cs : List (Block Rate)) → top_of cs ≡ Some top → Nested (turned rate_leq) rate_joined (pile gs k side (i + 1)) (i + 1) cs
      → (top.first ≤ i) × (blocks_score rate_score cs ≡ stack_score gs k side top.first +ℤ rate_score top.element)
  headed i top [] e n = let z : ◌≡◌ {A = ℕ} 0 1 = cc in absurd (omega arith)
  headed i top (b ∷ bs) e n =
      let same : b ≡ top = cc in
      subst (λ (t : Block Rate). (t.first ≤ i) × (blocks_score rate_score (b ∷ bs) ≡ stack_score gs k side t.first +ℤ rate_score t.element)) same
      (omega (arith, n.0), omega (arith, ints, ap (blocks_score rate_score) (n.1 ∙ sym (front b.first (i + 1) (omega (arith, n.0))))))

  pub top_sum : (i : ℕ) (cs : List (Block Rate)) (top : Block Rate) → cs ≡ side_stack gs k side (i + 1) → top_of cs ≡ Some top
      → (top.first ≤ i) × (stack_score gs k side (i + 1) ≡ stack_score gs k side top.first +ℤ rate_score top.element)
  top_sum i cs top is head =
      let xs = pile gs k side (i + 1) in
      let nested = stack_nested (turned rate_leq) rate_joined xs top.element (i + 1) (omega (arith, row_length (piece_at gs k side) 0 (i + 1))) in
      let h = headed i top cs head (subst (Nested (turned rate_leq) rate_joined xs (i + 1)) (sym (is ∙ front (i + 1) (i + 1) (omega arith))) nested) in
      (h.0, ap (blocks_score rate_score) (sym is) ∙ h.1)

  -- after i pieces: a memory that was `before` holds their stack of height h, and is unchanged from place i on
  pub record Piled (before memory : List (Block (Turned Rate))) (h i : ℕ) : Type 0 where
    pub low : h ≤ i
    pub stack : piled memory h ≡ side_stack gs k side i
    pub rest : drop i memory ≡ drop i before
    pub long : length memory ≡ length before

  pub pile_start : (before : List (Block (Turned Rate))) (h : ℕ) → h ≡ 0 → Piled before before h 0
  pile_start before h e = record { low = omega arith; stack = ap (piled before) e ∙ sym stack_none; rest = refl; long = refl }

  pub pile_more : {before ms ms' : List (Block (Turned Rate))} {h h' i : ℕ} → Piled before ms h i → piled ms' h' ≡ side_stack gs k side (i + 1) → h' ≤ i + 1 → drop (i + 1) ms' ≡ drop (i + 1) ms → length ms' ≡ length ms
      → Piled before ms' h' (i + 1)
  pile_more {before} {ms} {ms'} {h} {h'} {i} was made low rest long =
      record { low = low; stack = made; rest = rest ∙ drop_later i (i + 1) ms before (omega arith) was.rest; long = long ∙ was.long }

  -- where all k pieces stay within the limit
  module _ (light : sum_by rate_bulk (pile gs k side k) ≤ limit) (i : ℕ) (within : i ≤ k) where
    pub part_light : sum_by rate_bulk (pile gs k side i) ≤ limit
    part_light = omega (arith, ap (sum_by rate_bulk) (row_take (piece_at gs k side) 0 i k within), sum_by-take-le rate_bulk (pile gs k side k) i)

    pub front_within : Within score_bound (stack_score gs k side i)
    front_within = score_within (pile gs k side i) part_light
