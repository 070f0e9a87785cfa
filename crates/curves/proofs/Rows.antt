-- Rows: lists of the values of a function.
use Rattle.std.proofs.Common.{◌≡◌, ℕ, zero, suc, ◌+◌, ◌-◌, ◌<◌, ◌≤◌, [], ◌∷◌, ◌++◌, map, reverse, length, get_or, take, drop, sym, refl, ap, ◌∙◌, ap₂, arith}
use mathlib.Core.List.{reverse-cons}
use Rattle.std.specs.List.{AllByRecursion}
use Rattle.curves.specs.Pieces.{row}

pub row_length : {A : Type 0} (g : ℕ → A) (s m : ℕ) → length (row g s m) ≡ m
row_length g s zero = refl
row_length g s (suc m) = ap suc (row_length g (suc s) m)

pub row_shift : {A : Type 0} (g : ℕ → A) (s m : ℕ) → row g (suc s) m ≡ row (λ i. g (suc i)) s m
row_shift g s zero = refl
row_shift g s (suc m) = ap (λ l. g (suc s) ∷ l) (row_shift g (suc s) m)

pub row_same : {A : Type 0} (g h : ℕ → A) (s m : ℕ) → ((i : ℕ) → s ≤ i → i < s + m → g i ≡ h i) → row g s m ≡ row h s m
row_same g h s zero e = refl
row_same g h s (suc m) e = ap₂ (λ x l. x ∷ l) (e s (omega arith) (omega arith)) (row_same g h (suc s) m (λ i p q. e i (omega arith) (omega arith)))

pub row_take : {A : Type 0} (g : ℕ → A) (s m k : ℕ) → m ≤ k → row g s m ≡ take m (row g s k)
row_take g s zero k h = refl
row_take g s (suc m) zero h = absurd (omega arith)
row_take g s (suc m) (suc k) h = ap (λ l. g s ∷ l) (row_take g (suc s) m k (omega arith))

pub row_drop : {A : Type 0} (g : ℕ → A) (s m k : ℕ) → m ≤ k → row g (m + s) (k - m) ≡ drop m (row g s k)
row_drop g s zero k h = let a : 0 + s ≡ s = omega arith in let b : k - 0 ≡ k = omega arith in ap₂ (row g) a b
row_drop g s (suc m) zero h = absurd (omega arith)
row_drop g s (suc m) (suc k) h =
    let a : suc m + s ≡ m + suc s = omega arith in
    let b : suc k - suc m ≡ k - m = omega arith in
    ap₂ (row g) a b ∙ row_drop g (suc s) m k (omega arith)

pub all_row : {A : Type 0} (P : A → Type 0) (g : ℕ → A) (s m : ℕ) → ((i : ℕ) → s ≤ i → i < s + m → P (g i)) → AllByRecursion P (row g s m)
all_row P g s zero h = tt
all_row P g s (suc m) h = (h s (omega arith) (omega arith), all_row P g (suc s) m (λ i p q. h i (omega arith) (omega arith)))

-- what stands at a place of a row
pub row_at : {A : Type 0} (g : ℕ → A) (s m i : ℕ) (d : A) → i < m → get_or (row g s m) i d ≡ g (s + i)
row_at g s zero i d h = absurd (omega arith)
row_at g s (suc m) zero d h = let e : s ≡ s + 0 = omega arith in ap g e
row_at g s (suc m) (suc i) d h = let e : suc s + i ≡ s + suc i = omega arith in row_at g (suc s) m i d (omega arith) ∙ ap g e

pub row_map : {A B : Type 0} (h : A → B) (g : ℕ → A) (s m : ℕ) → map h (row g s m) ≡ row (λ i. h (g i)) s m
row_map h g s zero = refl
row_map h g s (suc m) = ap (λ l. h (g s) ∷ l) (row_map h g (suc s) m)

row_push : {A : Type 0} (g : ℕ → A) (s m : ℕ) → row g s (suc m) ≡ row g s m ++ (g (s + m) ∷ [])
row_push g s zero = let e : s ≡ s + 0 = omega arith in ap (λ (i : ℕ). g i ∷ []) e
row_push g s (suc m) = let e : suc s + m ≡ s + suc m = omega arith in ap (λ l. g s ∷ l) (row_push g (suc s) m ∙ ap (λ (i : ℕ). row g (suc s) m ++ (g i ∷ [])) e)

-- a row counted down from k is one counted up, read backwards
pub row_reverse : {A : Type 0} (g : ℕ → A) (k m : ℕ) → m ≤ k → row (λ i. g (k - suc i)) 0 m ≡ reverse (row g (k - m) m)
row_reverse g k zero h = refl
row_reverse g k (suc m) h =
    let first : 0 + m ≡ m = omega arith in
    let next : k - m ≡ suc (k - suc m) = omega arith in
    row_push (λ i. g (k - suc i)) 0 m ∙ ap (λ (i : ℕ). row (λ i. g (k - suc i)) 0 m ++ (g (k - suc i) ∷ [])) first
    ∙ ap (λ l. l ++ (g (k - suc m) ∷ [])) (row_reverse g k m (omega arith) ∙ ap (λ (i : ℕ). reverse (row g i m)) next)
    ∙ sym (reverse-cons (g (k - suc m)) (row g (suc (k - suc m)) m))
