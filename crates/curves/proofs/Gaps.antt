-- The pieces by the table of gaps.
use Rattle.std.proofs.Common.{◌≡◌, ℕ, zero, suc, ◌+◌, ◌-◌, ◌≤◌, List, [], ◌∷◌, map, length, get_or, take, drop, sym, refl, ap, ◌∙◌, ap₂, arith}
use Rattle.arith.specs.Rivals.{Piece}
use Rattle.sources.specs.Ages.{ages}
use Rattle.sources.specs.Gaps.{gaps, gaps_from}
use Rattle.sources.specs.Ticks.{between}
use Rattle.curves.specs.Pieces.{row, gap_exposure, left_piece, right_piece, left_pieces, right_pieces}
use Rattle.curves.specs.Theorems.{gap_piece, moved, GapsAgree}
use Rattle.curves.proofs.Rows.{row_shift, row_same, row_take, row_drop}

-- the gaps of ages that begin after lo
module _ (n f : ℕ → ℕ) (end : ℕ) where
  abbrev gap : ℕ → List ℕ → ℕ → ℕ
  gap lo xs zero = 0
  gap lo xs (suc i) = between n (get_or (lo ∷ xs) i end) (get_or (lo ∷ xs) (suc i) end)

  abbrev left : ℕ → List ℕ → ℕ → Piece
  left lo xs i = record { failures = f (get_or (lo ∷ xs) i end); exposure = gap lo xs i }

  abbrev right : ℕ → List ℕ → ℕ → Piece
  right lo xs i = record { failures = f (get_or (lo ∷ xs) i end); exposure = gap lo xs (suc i) }

  left_row : (lo : ℕ) (xs : List ℕ) → row (left lo xs) 1 (length xs) ≡ map gap_piece (gaps_from n f lo xs)
  left_row lo [] = refl
  left_row lo (x ∷ xs) =
      ap (λ l. left lo (x ∷ xs) 1 ∷ l) (row_shift (left lo (x ∷ xs)) 1 (length xs) ∙ row_same _ _ 1 (length xs) (λ i p _. each i p) ∙ left_row x xs)
    where
      each : (i : ℕ) → 1 ≤ i → left lo (x ∷ xs) (suc i) ≡ left x xs i
      each zero p = absurd (omega arith)
      each (suc i) p = refl

  right_row : (lo : ℕ) (xs : List ℕ) → row (right lo xs) 1 (length xs) ≡ moved (map gap_piece (gaps_from n f lo xs)) (gap lo xs (suc (length xs)))
  right_row lo [] = refl
  right_row lo (x ∷ []) = refl
  right_row lo (x ∷ y ∷ xs) =
      ap (λ l. right lo (x ∷ y ∷ xs) 1 ∷ l) (row_shift (right lo (x ∷ y ∷ xs)) 1 (suc (length xs)) ∙ row_same _ _ 1 (suc (length xs)) (λ i p _. each i p) ∙ right_row x (y ∷ xs))
    where
      each : (i : ℕ) → 1 ≤ i → right lo (x ∷ y ∷ xs) (suc i) ≡ right x (y ∷ xs) i
      each zero p = absurd (omega arith)
      each (suc i) p = refl

module _ (n f : ℕ → ℕ) (xs : List ℕ) (end : ℕ) where
  all_left : left_pieces n f xs end (suc (length xs)) ≡ map gap_piece (gaps_from n f 0 xs)
  all_left =
      let one : suc (length xs) - 1 ≡ length xs = omega arith in
      ap (row (left_piece n f xs end) 1) one ∙ row_same _ _ 1 (length xs) (λ i p _. each i p) ∙ left_row n f end 0 xs
    where
      each : (i : ℕ) → 1 ≤ i → left_piece n f xs end i ≡ left n f end 0 xs i
      each zero p = absurd (omega arith)
      each (suc i) p = refl

  all_right : right_pieces n f xs end 1 ≡ moved (map gap_piece (gaps_from n f 0 xs)) (gap_exposure n f xs end (suc (length xs)))
  all_right =
      let one : suc (length xs) - 1 ≡ length xs = omega arith in
      ap (row (right_piece n f xs end) 1) one ∙ row_same _ _ 1 (length xs) (λ i p _. refl) ∙ right_row n f end 0 xs

  first_left : (m : ℕ) → m ≤ length xs → left_pieces n f xs end (suc m) ≡ take m (left_pieces n f xs end (suc (length xs)))
  first_left m h =
      let a : suc m - 1 ≡ m = omega arith in
      let b : suc (length xs) - 1 ≡ length xs = omega arith in
      ap (row (left_piece n f xs end) 1) a ∙ row_take (left_piece n f xs end) 1 m (length xs) h ∙ ap (λ (k : ℕ). take m (row (left_piece n f xs end) 1 k)) (sym b)

  last_right : (m : ℕ) → m ≤ length xs → right_pieces n f xs end (suc m) ≡ drop m (right_pieces n f xs end 1)
  last_right m h =
      let a : suc m ≡ m + 1 = omega arith in
      let b : suc (length xs) - suc m ≡ length xs - m = omega arith in
      let c : suc (length xs) - 1 ≡ length xs = omega arith in
      ap₂ (row (right_piece n f xs end)) a b ∙ row_drop (right_piece n f xs end) 1 m (length xs) h ∙ ap (λ (k : ℕ). drop m (row (right_piece n f xs end) 1 k)) (sym c)

pub gaps_agree : (n f : ℕ → ℕ) (t end : ℕ) → GapsAgree n f t end
unfolding gaps
gaps_agree n f t end = (all_left n f (ages f t) end, all_right n f (ages f t) end, first_left n f (ages f t) end, last_right n f (ages f t) end)
