-- What was read from the table, chosen and written is the curve.
use Rattle.std.proofs.Common.{◌≡◌, ℕ, suc, ◌+◌, ◌-◌, ◌≤◌, List, [], ◌∷◌, ◌++◌, map, length, take, drop, None, sum_by, Option, sym, refl, ap, ◌∙◌, subst, arith}
use Rattle.std.proofs.ByRecursion.{All-weaker}
use Rattle.std.proofs.lemmas.List.{take-append-drop, take_at, length-map}
use Rattle.units.specs.Refusals.{Refused}
use Rattle.isotonic.specs.Laws.{limit}
use Rattle.pooling.specs.Kinds.{rate_bulk}
use Rattle.pooling.specs.Pooling.{unless_refused, left_to_builder, written}
use Rattle.pooling.specs.declared.rates.Rate.{Rate}
use Rattle.sources.specs.Ages.{oldest}
use Rattle.sources.specs.Counts.{Counts, Lawful}
use Rattle.sources.specs.declared.gaps.Gap.{Gap}
use Rattle.curves.specs.Curves as plain
use Rattle.curves.specs.Curves.{Curve, best_gap, counted_ages, curve, fit_refusal, score_of, steps_of, turning}
use Rattle.curves.specs.Faults.{Fault}
use Rattle.curves.specs.Fits.{step_made, plain_step, fit_made, shown, due, fit_work}
use Rattle.curves.specs.Pieces.{row, left_pieces, right_pieces}
use Rattle.curves.specs.Rivals.{Allowed}
use Rattle.curves.specs.Tables.{AllLight, left_at, right_at, side_pieces, table, table_score, table_steps, table_turning}
use Rattle.curves.specs.Theorems.{WholePiece}
use Rattle.curves.specs.declared.fits.Fit.{Fit}
use Rattle.curves.specs.declared.shapes.Shape.{Shape}
use Rattle.curves.specs.declared.shapes.Shape.TheVariants.{Falling, Rising, UShaped}
use Rattle.curves.specs.declared.side.Side.{Side}
use Rattle.curves.specs.declared.side.Side.TheVariants.{Left, Right}
use Rattle.curves.specs.declared.step.Step.{Step}
use Rattle.curves.proofs.Best.{best_same}
use Rattle.curves.proofs.Faultless.{sound_at, own_allowed, no_curve_has_a_fault}
use Rattle.curves.proofs.Parts.{rates_light}
use Rattle.curves.proofs.Steps.{gap_range}
use Rattle.curves.proofs.Tabled.{left_is, right_is, score_is, steps_are}

-- ---- the table gives the curve

module _ (c : Counts) (shape : Shape) (laws : Lawful c.watched c.failed) (gs : List Gap) where
  abbrev xs : List ℕ
  xs = counted_ages c shape

  abbrev end : ℕ
  end = oldest c.watched

  -- the lists of pieces stay within the bulk limit
  module _ (is : take (length xs + 1) gs ≡ table c.watched c.failed xs end) where
    sides_light : (t : ℕ) → t ≤ length xs → Allowed shape (length xs) (suc t) → (sum_by rate_bulk (row (left_at gs) 0 t) ≤ limit) × (sum_by rate_bulk (row (right_at gs) t (length xs - t)) ≤ limit)
    sides_light t h a =
        let s = sound_at c shape laws (suc t) a in (
          subst (λ (ys : List Rate). sum_by rate_bulk ys ≤ limit) (sym (left_is c.watched c.failed xs end gs is t h))
              (rates_light (left_pieces c.watched c.failed xs end (suc t)) (All-weaker WholePiece _ (λ x w. w.1) _ s.left) (omega (arith, s.failures, s.exposure, s.light))),
          subst (λ (ys : List Rate). sum_by rate_bulk ys ≤ limit) (sym (right_is c.watched c.failed xs end gs is t h))
              (rates_light (right_pieces c.watched c.failed xs end (suc t)) (All-weaker WholePiece _ (λ x w. w.1) _ s.right) (omega (arith, s.failures, s.exposure, s.light))),
        )

    score_there : (t : ℕ) → t ≤ length xs → table_score gs (length xs) t ≡ score_of c shape (suc t)
    score_there t h = score_is c.watched c.failed xs end gs is t h

  -- what the turning gap t + 1 of the table gives, of k counted ages
  pub record Given (k t : ℕ) : Type 0 where
    pub within : t ≤ k
    pub light : (side : Side) → sum_by rate_bulk (side_pieces gs k t side) ≤ limit
    pub gap : t + 1 ≡ turning c shape
    pub score : table_score gs k t ≡ score_of c shape (turning c shape)
    pub steps : table_steps gs k t ≡ map step_made (steps_of c shape (turning c shape))

on_both : (gs : List Gap) (k t : ℕ) → sum_by rate_bulk (row (left_at gs) 0 t) ≤ limit → sum_by rate_bulk (row (right_at gs) t (k - t)) ≤ limit → (side : Side) → sum_by rate_bulk (side_pieces gs k t side) ≤ limit
on_both gs k t left right Left = left
on_both gs k t left right Right = right

-- the turning gap of the table is that of the curve
turning_there : (c : Counts) (shape : Shape) (laws : Lawful c.watched c.failed) (gs : List Gap) → take (length (counted_ages c shape) + 1) gs ≡ table c.watched c.failed (counted_ages c shape) (oldest c.watched)
    → table_turning gs (length (counted_ages c shape)) shape ≡ turning c shape
turning_there c Falling laws gs is = refl
turning_there c Rising laws gs is = refl
turning_there c UShaped laws gs is =
    best_same _ _ (length (counted_ages c UShaped)) (λ j p q. score_there c UShaped laws gs is (j - 1) (omega arith) ∙ (let e : suc (j - 1) ≡ j = omega arith in ap (score_of c UShaped) e))

module _ (c : Counts) (shape : Shape) (laws : Lawful c.watched c.failed) (gs : List Gap) where
  given_there : (t : ℕ) → take (length (counted_ages c shape) + 1) gs ≡ table c.watched c.failed (counted_ages c shape) (oldest c.watched)
      → t + 1 ≡ table_turning gs (length (counted_ages c shape)) shape → Given c shape laws gs (length (counted_ages c shape)) t
  given_there t is turn =
      let gap : t + 1 ≡ turning c shape = turn ∙ turning_there c shape laws gs is in
      let up : suc t ≡ turning c shape = (let e : suc t ≡ t + 1 = omega arith in e) ∙ gap in
      let range = gap_range shape (length (counted_ages c shape)) (turning c shape) (own_allowed c shape) in
      let within : t ≤ length (counted_ages c shape) = omega (arith, range.1) in
      let light = sides_light c shape laws gs is t within (subst (Allowed shape (length (counted_ages c shape))) (sym up) (own_allowed c shape)) in
      record {
        within = within;
        light = on_both gs (length (counted_ages c shape)) t light.0 light.1;
        gap = gap;
        score = score_there c shape laws gs is t within ∙ ap (score_of c shape) up;
        steps = steps_are c.watched c.failed (counted_ages c shape) (oldest c.watched) gs is t within light.0 light.1 ∙ ap (λ (j : ℕ). map step_made (steps_of c shape j)) up;
      }

  pub given : (k t : ℕ) → k ≡ length (counted_ages c shape) → take (k + 1) gs ≡ table c.watched c.failed (counted_ages c shape) (oldest c.watched)
      → t + 1 ≡ table_turning gs k shape → Given c shape laws gs k t
  given k t e =
      subst (λ (j : ℕ). take (j + 1) gs ≡ table c.watched c.failed (counted_ages c shape) (oldest c.watched) → t + 1 ≡ table_turning gs j shape → Given c shape laws gs j t) (sym e) (given_there t)

-- both full lists of pieces of a U-shaped fit stay within the bulk limit
whole_light : (c : Counts) (laws : Lawful c.watched c.failed) (gs : List Gap) → take (length (counted_ages c UShaped) + 1) gs ≡ table c.watched c.failed (counted_ages c UShaped) (oldest c.watched)
    → AllLight gs (length (counted_ages c UShaped))
whole_light c laws gs is =
    let k = length (counted_ages c UShaped) in
    let none : k - 0 ≡ k = omega arith in (
      (sides_light c UShaped laws gs is k (omega arith) (omega arith, omega arith)).0,
      subst (λ (m : ℕ). sum_by rate_bulk (row (right_at gs) 0 m) ≤ limit) none (sides_light c UShaped laws gs is 0 (omega arith) (omega arith, omega arith)).1,
    )

pub all_light : (c : Counts) (shape : Shape) (laws : Lawful c.watched c.failed) (gs : List Gap) (k : ℕ) → k ≡ length (counted_ages c shape) → take (k + 1) gs ≡ table c.watched c.failed (counted_ages c shape) (oldest c.watched)
    → shape ≡ UShaped → AllLight gs k
all_light c shape laws gs k e is u =
    subst (AllLight gs) (sym same)
    (whole_light c laws gs ((λ i. take (sym same i + 1) gs) ∙ is ∙ ap (λ (s : Shape). table c.watched c.failed (counted_ages c s) (oldest c.watched)) u))
  where
    same : k ≡ length (counted_ages c UShaped)
    same = e ∙ ap (λ (s : Shape). length (counted_ages c s)) u

-- ---- answer and memory

-- work memory whose places from k + 1 on stay
work_kept : {X : Type 0} (k : ℕ) (before after : List X) → drop (k + 1) after ≡ drop (k + 1) before → after ≡ left_to_builder 0 (suc k) after ++ drop (suc k) before
work_kept k before after e =
    sym (take-append-drop (k + 1) after) ∙ (λ i. take (k + 1) after ++ e i)
    ∙ (λ i. take (front i) after ++ drop (next i) before)
  where
    next : k + 1 ≡ suc k
    next = omega arith

    front : k + 1 ≡ suc k - 0
    front = omega arith

pub row_kept : {X : Type 0} (c : Counts) (shape : Shape) (steps works k : ℕ) (before after : List X) → due c shape steps works ≡ None → k ≡ length (counted_ages c shape) → drop (k + 1) after ≡ drop (k + 1) before
    → after ≡ fit_work c shape steps works before after
row_kept {X} c shape steps works k before after free e rest =
    work_kept (length (counted_ages c shape)) before after (subst (λ (j : ℕ). drop (j + 1) after ≡ drop (j + 1) before) e rest)
    ∙ ap (λ (q : Option Refused). unless_refused q before (left_to_builder 0 (suc (length (counted_ages c shape))) after ++ drop (suc (length (counted_ages c shape))) before)) (sym free)

steps_back : (ss : List plain.Step) → map plain_step (map step_made ss) ≡ ss
steps_back [] = refl
steps_back (s ∷ ss) = ap (λ (l : List plain.Step). s ∷ l) (steps_back ss)

-- the answer and the step memory show the curve, so they have no fault
pub shows : (c : Curve) (before : List Step) → shown (fit_made c) (written (map step_made c.steps) before) ≡ c
shows c before = λ i. record {
  steps = back i;
  turning_gap = c.turning_gap;
  score = c.score;
  counted = c.counted;
  set_aside = c.set_aside;
  time_on_test = c.time_on_test;
}
  where
    back : map plain_step (take (length c.steps) (written (map step_made c.steps) before)) ≡ c.steps
    back = ap (map plain_step) (take_at (map step_made c.steps) _ (length c.steps) (length-map c.steps step_made)) ∙ steps_back c.steps

pub faultless : (c : Counts) (shape : Shape) → Lawful c.watched c.failed → (a : Fit) (before after : List Step) → a ≡ fit_made (curve c shape) → after ≡ written (map step_made (curve c shape).steps) before
    → Fault c shape (shown a after) → ⊥
faultless c shape laws a before after e m fault =
    no_curve_has_a_fault c shape laws (subst (Fault c shape) ((λ i. shown (e i) (m i)) ∙ shows (curve c shape) before) fault)
