-- Sums and products over lists.
use Rattle.std.proofs.Common.{◌≡◌, ℕ, ◌+◌, ◌*◌, ◌^◌, ◌<◌, List, [], ◌∷◌, ◌++◌, map, reverse, sym, refl, ap, ◌∙◌, zero-lt-suc, mul-pos, arith, pow-add}
use mathlib.Core.List.{reverse-cons}
use native.Mathlib.Nat.{pow-zero}
use Rattle.std.specs.List.{AllByRecursion}
use Rattle.arith.specs.Sums.{total, product}
use Rattle.arith.specs.Rivals.{pieces}

module _ {X : Type 0} where
  pub total_scale : (c : ℕ) (f : X → ℕ) (xs : List X) → total (λ x. c * f x) xs ≡ c * total f xs
  total_scale c f [] = omega arith
  total_scale c f (x ∷ xs) = omega (arith, total_scale c f xs)

  pub total_same : (f g : X → ℕ) → ((x : X) → f x ≡ g x) → (xs : List X) → total f xs ≡ total g xs
  total_same f g e [] = refl
  total_same f g e (x ∷ xs) = rw (e x, total_same f g e xs)

  pub total_append : (f : X → ℕ) (xs ys : List X) → total f (xs ++ ys) ≡ total f xs + total f ys
  total_append f [] ys = omega arith
  total_append f (x ∷ xs) ys = omega (arith, total_append f xs ys)

  pub total_reverse : (f : X → ℕ) (xs : List X) → total f (reverse xs) ≡ total f xs
  total_reverse f [] = refl
  total_reverse f (x ∷ xs) = rw reverse-cons (omega (arith, total_append f (reverse xs) (x ∷ []), total_reverse f xs))

  pub total_pieces : (f : X → ℕ) (bs : List (List X)) → total f (pieces bs) ≡ total (λ b. total f b) bs
  total_pieces f [] = refl
  total_pieces f (b ∷ bs) = omega (arith, total_append f b (pieces bs), total_pieces f bs)

  pub product_append : (f : X → ℕ) (xs ys : List X) → product f (xs ++ ys) ≡ product f xs * product f ys
  product_append f [] ys = omega arith
  product_append f (x ∷ xs) ys = rw (product_append f xs ys) (omega arith)

  pub product_pieces : (f : X → ℕ) (bs : List (List X)) → product f (pieces bs) ≡ product (λ b. product f b) bs
  product_pieces f [] = refl
  product_pieces f (b ∷ bs) = product_append f b (pieces bs) ∙ ap (λ p. product f b * p) (product_pieces f bs)

  pub product_mul : (f g : X → ℕ) (xs : List X) → product (λ x. f x * g x) xs ≡ product f xs * product g xs
  product_mul f g [] = refl
  product_mul f g (x ∷ xs) = rw (product_mul f g xs) (omega arith)

  pub product_same : (f g : X → ℕ) (xs : List X) → AllByRecursion (λ x. f x ≡ g x) xs → product f xs ≡ product g xs
  product_same f g [] h = refl
  product_same f g (x ∷ xs) h = rw (h.0, product_same f g xs h.1)

  pub product_pos : (f : X → ℕ) (xs : List X) → AllByRecursion (λ x. 0 < f x) xs → 0 < product f xs
  product_pos f [] h = zero-lt-suc 0
  product_pos f (x ∷ xs) h = mul-pos h.0 (product_pos f xs h.1)

  pub product_pow : (c : ℕ) (f : X → ℕ) (xs : List X) → product (λ x. c ^ f x) xs ≡ c ^ total f xs
  product_pow c f [] = sym (pow-zero c)
  product_pow c f (x ∷ xs) = ap (λ p. c ^ f x * p) (product_pow c f xs) ∙ sym (pow-add c (f x) (total f xs))

  -- what holds of everything holds of each element
  pub all_of : (P : X → Type 0) → ((x : X) → P x) → (xs : List X) → AllByRecursion P xs
  all_of P h [] = tt
  all_of P h (x ∷ xs) = (h x, all_of P h xs)

module _ {X Y : Type 0} (g : X → Y) where
  pub total_map : (f : Y → ℕ) (xs : List X) → total f (map g xs) ≡ total (λ x. f (g x)) xs
  total_map f [] = refl
  total_map f (x ∷ xs) = ap (λ z. f (g x) + z) (total_map f xs)

  pub product_map : (f : Y → ℕ) (xs : List X) → product f (map g xs) ≡ product (λ x. f (g x)) xs
  product_map f [] = refl
  product_map f (x ∷ xs) = ap (λ z. f (g x) * z) (product_map f xs)
