-- Lists read in a direction, and what holds of each element and of neighbours.
use Rattle.std.proofs.Common.{◌≡◌, ℕ, List, [], ◌∷◌, ◌++◌, map, reverse, refl}
use mathlib.Core.List.{reverse_aux, reverse-append, reverse-cons}
use Rattle.std.specs.List.{AllByRecursion}
use Rattle.std.proofs.ByRecursion.{All-append}
use Rattle.arith.specs.Sums.{total}
use Rattle.arith.specs.Rivals.{Direction, falling, rising, along, pieces, Next, Chain}
use Rattle.arith.proofs.Sums.{total_reverse}

module _ {X : Type 0} (P : X → Type 0) where
  pub all_left : (xs ys : List X) → AllByRecursion P (xs ++ ys) → AllByRecursion P xs
  all_left [] ys h = tt
  all_left (x ∷ xs) ys h = (h.0, all_left xs ys h.1)

  pub all_right : (xs ys : List X) → AllByRecursion P (xs ++ ys) → AllByRecursion P ys
  all_right [] ys h = h
  all_right (x ∷ xs) ys h = all_right xs ys h.1

  pub all_reverse : (xs : List X) → AllByRecursion P xs → AllByRecursion P (reverse xs)
  all_reverse [] h = tt
  all_reverse (x ∷ xs) h = rw reverse-cons (All-append P (reverse xs) (x ∷ []) (all_reverse xs h.1) (h.0, tt))

  pub all_along : (direction : Direction) (xs : List X) → AllByRecursion P xs → AllByRecursion P (along direction xs)
  all_along falling xs h = h
  all_along rising xs h = all_reverse xs h

  -- a chain in R is one in S, where R says S of elements of which P holds
  pub chain_weaker : (R S : X → X → Type 0) → ((x y : X) → P x → P y → R x y → S x y) → (xs : List X) → AllByRecursion P xs → Chain R xs → Chain S xs
  chain_weaker R S f [] h c = tt
  chain_weaker R S f (x ∷ xs) h c = (next xs h.1 c.0, chain_weaker R S f xs h.1 c.1)
    where
      next : (ys : List X) → AllByRecursion P ys → Next R x ys → Next S x ys
      next [] g n = tt
      next (y ∷ ys) g n = f x y h.0 g.0 n

module _ {X : Type 0} (R : X → X → Type 0) where
  pub chain_left : (xs ys : List X) → Chain R (xs ++ ys) → Chain R xs
  chain_left [] ys h = tt
  chain_left (x ∷ xs) ys h = (next xs h.0, chain_left xs ys h.1)
    where
      next : (zs : List X) → Next R x (zs ++ ys) → Next R x zs
      next [] g = tt
      next (z ∷ zs) g = g

  pub chain_right : (xs ys : List X) → Chain R (xs ++ ys) → Chain R ys
  chain_right [] ys h = h
  chain_right (x ∷ xs) ys h = chain_right xs ys h.1

  -- each block of a chain is a chain
  pub chain_blocks : (direction : Direction) (bs : List (List X)) → Chain R (along direction (pieces bs)) → AllByRecursion (λ b. Chain R (along direction b)) bs
  chain_blocks direction [] h = tt
  chain_blocks falling (b ∷ bs) h = (chain_left b (pieces bs) h, chain_blocks falling bs (chain_right b (pieces bs) h))
  chain_blocks rising (b ∷ bs) h =
      let e = rw (reverse-append b (pieces bs)) at h in
      (chain_right (reverse (pieces bs)) (reverse b) e, chain_blocks rising bs (chain_left (reverse (pieces bs)) (reverse b) e))

module _ {X Y : Type 0} (g : X → Y) where
  pub reverse_map : (xs : List X) → reverse (map g xs) ≡ map g (reverse xs)
  reverse_map xs = onto xs []
    where
      onto : (xs ys : List X) → reverse_aux (map g xs) (map g ys) ≡ map g (reverse_aux xs ys)
      onto [] ys = refl
      onto (x ∷ xs) ys = onto xs (x ∷ ys)

  pub along_map : (direction : Direction) (xs : List X) → along direction (map g xs) ≡ map g (along direction xs)
  along_map falling xs = refl
  along_map rising xs = reverse_map xs

  pub all_unmap : (P : Y → Type 0) (xs : List X) → AllByRecursion P (map g xs) → AllByRecursion (λ x. P (g x)) xs
  all_unmap P [] h = tt
  all_unmap P (x ∷ xs) h = (h.0, all_unmap P xs h.1)

  pub chain_unmap : (R : Y → Y → Type 0) (xs : List X) → Chain R (map g xs) → Chain (λ x y. R (g x) (g y)) xs
  chain_unmap R [] h = tt
  chain_unmap R (x ∷ xs) h = (next xs h.0, chain_unmap R xs h.1)
    where
      next : (ys : List X) → Next R (g x) (map g ys) → Next (λ x y. R (g x) (g y)) x ys
      next [] n = tt
      next (y ∷ ys) n = n

pub total_along : {X : Type 0} (f : X → ℕ) (direction : Direction) (xs : List X) → total f (along direction xs) ≡ total f xs
total_along f falling xs = refl
total_along f rising xs = total_reverse f xs
