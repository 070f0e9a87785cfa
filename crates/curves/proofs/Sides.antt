-- The pieces on the two sides of a turning gap: their exposures, and their sums.
use Rattle.std.proofs.Common.{◌≡◌, ℕ, zero, suc, ◌+◌, ◌-◌, ◌<◌, ◌≤◌, List, [], ◌∷◌, length, get_or, take, sym, refl, ap, ◌∙◌, subst, inl, inr, add-zero, arith}
use Rattle.std.specs.List.{AllByRecursion}
use Rattle.std.proofs.lemmas.List.{take_more, take_all, get_or_past}
use Rattle.std.proofs.lemmas.Bool.{cases_lt}
use Rattle.arith.specs.Rivals.{pooled}
use Rattle.arith.specs.Sums.{total}
use Rattle.arith.proofs.Sums.{total_append}
use Rattle.sources.specs.Tallies.{upto_zero, upto_suc, upto_le}
use Rattle.sources.specs.Ticks.{upto}
use Rattle.curves.specs.Pieces.{row, age, gap_exposure, left_piece, right_piece, left_pieces, right_pieces}
use Rattle.curves.specs.Theorems.{WholePiece}
use Rattle.curves.proofs.Rows.{all_row}

-- a sum of differences
telescope : {A : Type 0} (h : A → ℕ) (piece : ℕ → A) (g : ℕ → ℕ) (s m : ℕ) → ((i : ℕ) → s ≤ i → i < s + m → h (piece i) + g i ≡ g (suc i)) → total h (row piece s m) + g s ≡ g (s + m)
telescope h piece g s zero e = omega (arith, ap g (add-zero s))
telescope h piece g s (suc m) e =
    let one = e s (omega arith) (omega arith) in
    let rest = telescope h piece g (suc s) m (λ i p q. e i (omega arith) (omega arith)) in
    let reach : suc s + m ≡ s + suc m = omega arith in
    omega (arith, ap g reach)

-- the value before
abbrev before : (ℕ → ℕ) → ℕ → ℕ
before g zero = 0
before g (suc i) = g i

between_some : (n : ℕ → ℕ) (a b : ℕ) → a < b → 0 < n b → upto n a < upto n b
between_some n a zero h p = absurd (omega arith)
between_some n a (suc b) h p = omega (arith, upto_suc n b, upto_le n a b (omega arith))

-- what the counted ages of lawful counts keep: each lies above the one before, has failures and is watched
pub record Marked (n f : ℕ → ℕ) (xs : List ℕ) (end : ℕ) : Type 0 where
  pub next : (i : ℕ) → i < length xs → (age xs end i < age xs end (suc i)) × (0 < f (age xs end (suc i))) × (0 < n (age xs end (suc i)))
  pub last : age xs end (length xs) ≤ end

module _ (n f : ℕ → ℕ) (xs : List ℕ) (end : ℕ) (marks : Marked n f xs end) where
  -- the exposure up to X i, and the failures at X 1 to X i
  U : ℕ → ℕ
  U i = upto n (age xs end i)

  F : ℕ → ℕ
  F i = total f (take i xs)

  at_end : age xs end (suc (length xs)) ≡ end
  at_end = get_or_past xs (length xs) end (omega arith)

  next_le : (i : ℕ) → i ≤ length xs → age xs end i ≤ age xs end (suc i)
  next_le i h =
      elim (cases_lt i (length xs)) [
        | inl l ↦ let g = (marks.next i l).0 in omega arith
        | inr l ↦
            let same : length xs ≡ i = omega arith in
            subst (λ (k : ℕ). age xs end k ≤ age xs end (suc k)) same (let g = marks.last in omega (arith, at_end))
      ]

  UZero : U 0 ≡ 0
  unfolding U
  UZero = upto_zero n

  UEnd : U (suc (length xs)) ≡ upto n end
  unfolding U
  UEnd = ap (upto n) at_end

  UNext : (i : ℕ) → i ≤ length xs → gap_exposure n f xs end (suc i) + U i ≡ U (suc i)
  unfolding U
  UNext i h = let g = upto_le n (age xs end i) (age xs end (suc i)) (next_le i h) in omega arith

  FNext : (i : ℕ) → i < length xs → f (age xs end (suc i)) + F i ≡ F (suc i)
  unfolding F
  FNext i h =
      let e : i + 1 ≡ suc i = omega arith in
      sym (ap (λ k. total f (take k xs)) (sym e) ∙ ap (total f) (take_more xs i end h) ∙ total_append f (take i xs) (get_or xs i end ∷ []) ∙ omega arith)

  FZero : F 0 ≡ 0
  unfolding F
  FZero = refl

  FAll : F (length xs) ≡ total f xs
  unfolding F
  FAll = ap (total f) (take_all (length xs) xs (omega arith))

  -- a gap that ends at a failure has exposure, since the unit that failed was watched
  gap_some : (i : ℕ) → i < length xs → 0 < gap_exposure n f xs end (suc i)
  gap_some i h = let s = marks.next i h in let g = between_some n (age xs end i) (age xs end (suc i)) s.0 s.2 in omega arith

  -- Turning gap m + 1.
  module _ (m : ℕ) (fits : m ≤ length xs) where
    left_are : left_pieces n f xs end (suc m) ≡ row (left_piece n f xs end) 1 m
    left_are = let less : suc m - 1 ≡ m = omega arith in ap (row (left_piece n f xs end) 1) less

    right_are : right_pieces n f xs end (suc m) ≡ row (right_piece n f xs end) (suc m) (length xs - m)
    right_are = let less : suc (length xs) - suc m ≡ length xs - m = omega arith in ap (row (right_piece n f xs end) (suc m)) less

    pub left_whole : AllByRecursion WholePiece (left_pieces n f xs end (suc m))
    left_whole = subst (AllByRecursion WholePiece) (sym left_are) (all_row WholePiece (left_piece n f xs end) 1 m each)
      where
        each : (i : ℕ) → 1 ≤ i → i < 1 + m → WholePiece (left_piece n f xs end i)
        each zero p q = absurd (omega arith)
        each (suc i) p q = ((marks.next i (omega arith)).1, gap_some i (omega arith))

    -- the last gap has exposure where it is not empty and its last tick is watched
    pub right_whole : (m < length xs → (age xs end (length xs) < end) × (0 < n end)) → AllByRecursion WholePiece (right_pieces n f xs end (suc m))
    right_whole strict = subst (AllByRecursion WholePiece) (sym right_are) (all_row WholePiece (right_piece n f xs end) (suc m) (length xs - m) each)
      where
        final : m < length xs → 0 < gap_exposure n f xs end (suc (length xs))
        final h = let s = strict h in let g = between_some n (age xs end (length xs)) end s.0 s.1 in omega (arith, ap (upto n) at_end)

        after : (i : ℕ) → suc m ≤ i → i < suc m + (length xs - m) → 0 < gap_exposure n f xs end (suc i)
        after i p q =
            elim (cases_lt i (length xs)) [
              | inl l ↦ gap_some i l
              | inr l ↦
                  let same : length xs ≡ i = omega arith in
                  subst (λ (k : ℕ). 0 < gap_exposure n f xs end (suc k)) same (final (omega arith))
            ]

        each : (i : ℕ) → suc m ≤ i → i < suc m + (length xs - m) → WholePiece (right_piece n f xs end i)
        each zero p q = absurd (omega arith)
        each (suc i) p q = ((marks.next i (omega arith)).1, after (suc i) p q)

    front : 1 + m ≡ suc m
    front = omega arith

    rear : suc m + (length xs - m) ≡ suc (length xs)
    rear = omega arith

    left_failures : (pooled (left_pieces n f xs end (suc m))).failures ≡ F m
    left_failures =
        let sum = telescope (λ x. x.failures) (left_piece n f xs end) (before F) 1 m each in
        ap (λ l. (pooled l).failures) left_are ∙ omega (arith, ap (before F) front, FZero)
      where
        each : (i : ℕ) → 1 ≤ i → i < 1 + m → f (age xs end i) + before F i ≡ F i
        each zero p q = absurd (omega arith)
        each (suc i) p q = FNext i (omega arith)

    right_failures : (pooled (right_pieces n f xs end (suc m))).failures + F m ≡ F (length xs)
    right_failures =
        let sum = telescope (λ x. x.failures) (right_piece n f xs end) (before F) (suc m) (length xs - m) each in
        ap (λ l. (pooled l).failures + F m) right_are ∙ omega (arith, ap (before F) rear)
      where
        each : (i : ℕ) → suc m ≤ i → i < suc m + (length xs - m) → f (age xs end i) + before F i ≡ F i
        each zero p q = absurd (omega arith)
        each (suc i) p q = FNext i (omega arith)

    left_exposure : (pooled (left_pieces n f xs end (suc m))).exposure ≡ U m
    left_exposure =
        let sum = telescope (λ x. x.exposure) (left_piece n f xs end) (before U) 1 m each in
        ap (λ l. (pooled l).exposure) left_are ∙ omega (arith, ap (before U) front, UZero)
      where
        each : (i : ℕ) → 1 ≤ i → i < 1 + m → gap_exposure n f xs end i + before U i ≡ U i
        each zero p q = absurd (omega arith)
        each (suc i) p q = UNext i (omega arith)

    right_exposure : (pooled (right_pieces n f xs end (suc m))).exposure + U (suc m) ≡ U (suc (length xs))
    right_exposure =
        let sum = telescope (λ x. x.exposure) (right_piece n f xs end) U (suc m) (length xs - m) (λ i p q. UNext i (omega arith)) in
        ap (λ l. (pooled l).exposure + U (suc m)) right_are ∙ omega (arith, ap U rear)

    -- the pieces have all counted failures, and with the trough all exposure
    pub all_failures : (pooled (left_pieces n f xs end (suc m))).failures + (pooled (right_pieces n f xs end (suc m))).failures ≡ total f xs
    all_failures = omega (arith, left_failures, right_failures, FAll)

    pub all_exposure : (pooled (left_pieces n f xs end (suc m))).exposure + gap_exposure n f xs end (suc m) + (pooled (right_pieces n f xs end (suc m))).exposure ≡ upto n end
    all_exposure = omega (arith, left_exposure, UNext m fits, right_exposure, UEnd)
