-- No rival with the same turning gap has a larger product than the blocks of the two fits beside it.
use Rattle.std.proofs.Common.{◌≡◌, ◌+◌, ◌<◌, List, [], ◌∷◌, ◌++◌, map, reverse, length, ap, ◌∙◌, arith}
use mathlib.Core.List.{map-append, reverse_aux}
use Rattle.std.specs.List.{zip, AllByRecursion}
use Rattle.std.proofs.ByRecursion.{All-append}
use Rattle.arith.specs.Fractions.{Fraction, AtMost, whole}
use Rattle.arith.specs.Rivals.{Piece, pooled, falling, rising, along, Solid, pieces, Next, Chain, Rated, expected, rival_product, fit_product}
use Rattle.arith.specs.Sums.{total}
use Rattle.arith.proofs.Chains.{all_left, all_right}
use Rattle.arith.proofs.Rivals.{pooled_rated, Falls, Suits, no_likelier, dealt, pieces_dealt, dealt_pooled, dealt_some, dealt_failures, dealt_suits}
use Rattle.arith.proofs.Sums.{total_append}
use Rattle.curves.proofs.Parts.{pieces_append}
use Rattle.curves.proofs.Solids.{solid_one}

-- a chain read backwards
module _ {X : Type 0} (R : X → X → Type 0) where
  abbrev Onto : List X → List X → Type 0
  Onto [] acc = Unit {0}
  Onto (x ∷ xs) acc = Next (λ y z. R z y) x acc

  onto_next : (x : X) (xs acc : List X) → Next R x xs → Onto xs (x ∷ acc)
  onto_next x [] acc h = tt
  onto_next x (y ∷ ys) acc h = h

  chain_aux : (xs acc : List X) → Chain R xs → Chain (λ x y. R y x) acc → Onto xs acc → Chain (λ x y. R y x) (reverse_aux xs acc)
  chain_aux [] acc h g o = g
  chain_aux (x ∷ xs) acc h g o = chain_aux xs (x ∷ acc) h.1 (o, g) (onto_next x xs acc h.0)

  onto_none : (xs : List X) → Onto xs []
  onto_none [] = tt
  onto_none (x ∷ xs) = tt

  chain_reverse : (xs : List X) → Chain R xs → Chain (λ x y. R y x) (reverse xs)
  chain_reverse xs h = chain_aux xs [] h tt (onto_none xs)

-- lb and rb are the parts that the blocks on the two sides pool, and rm is the rate of the trough between them
module _ (lb rb : List (List Piece)) (trough : Piece) (none : trough.failures ≡ 0) (rl rr : List Fraction) (rm : Fraction)
    (le : length rl ≡ length (pieces lb)) (re : length rr ≡ length (pieces rb)) where
  parts : List (List Rated)
  parts = dealt lb rl ++ ((trough, rm) ∷ []) ∷ dealt rb rr

  parts_rated : pieces parts ≡ zip (pieces lb) rl ++ (trough, rm) ∷ zip (pieces rb) rr
  unfolding parts
  parts_rated =
      pieces_append (dealt lb rl) (((trough, rm) ∷ []) ∷ dealt rb rr)
      ∙ (λ i. pieces_dealt lb rl i ++ (trough, rm) ∷ pieces_dealt rb rr i)

  all_suit : AllByRecursion (λ b. Solid (along falling b)) lb → AllByRecursion (λ b. Solid (along rising b)) rb → Chain Falls (along falling rl) → Chain Falls (along rising rr) → AllByRecursion Suits parts
  unfolding parts
  all_suit ls rs lf rf =
      All-append Suits (dealt lb rl) (((trough, rm) ∷ []) ∷ dealt rb rr)
      (dealt_suits lb rl le falling ls lf) ((falling, solid_one falling trough, (tt, tt)), dealt_suits rb rr re rising rs rf)

  pub not_likelier : AllByRecursion (λ b. Solid (along falling b)) lb → AllByRecursion (λ b. Solid (along rising b)) rb → Chain Falls rl → Chain AtMost rr
      → AllByRecursion (λ r. 0 < r.denominator) (rl ++ rm ∷ rr)
      → AtMost (expected (zip (pieces lb) rl ++ (trough, rm) ∷ zip (pieces rb) rr)) (whole ((pooled (pieces lb)).failures + (pooled (pieces rb)).failures))
      → AtMost (rival_product (zip (pieces lb) rl ++ (trough, rm) ∷ zip (pieces rb) rr)) (fit_product (map pooled lb ++ pooled (trough ∷ []) ∷ map pooled rb))
  unfolding parts
  not_likelier ls rs lf rf ds few =
      rw (parts_rated, blocks) at (no_likelier parts some (all_suit ls rs lf (chain_reverse AtMost rr rf)) (rw (failures, parts_rated) few))
    where
      blocks : map pooled_rated parts ≡ map pooled lb ++ pooled (trough ∷ []) ∷ map pooled rb
      blocks =
          map-append pooled_rated (dealt lb rl) (((trough, rm) ∷ []) ∷ dealt rb rr)
          ∙ (λ i. dealt_pooled lb rl le i ++ pooled (trough ∷ []) ∷ dealt_pooled rb rr re i)

      some : AllByRecursion (λ (x : Rated). 0 < x.1.denominator) (pieces parts)
      some =
          let right = all_right (λ r. 0 < r.denominator) rl (rm ∷ rr) ds in
          rw (pieces_append (dealt lb rl) (((trough, rm) ∷ []) ∷ dealt rb rr))
          (All-append (λ (x : Rated). 0 < x.1.denominator) (pieces (dealt lb rl)) ((trough, rm) ∷ pieces (dealt rb rr))
          (dealt_some lb rl le (all_left (λ r. 0 < r.denominator) rl (rm ∷ rr) ds)) (right.0, dealt_some rb rr re right.1))

      failures : total (λ x. x.0.failures) (pieces parts) ≡ (pooled (pieces lb)).failures + (pooled (pieces rb)).failures
      failures =
          ap (λ l. total (λ x. x.0.failures) l) (pieces_append (dealt lb rl) (((trough, rm) ∷ []) ∷ dealt rb rr))
          ∙ total_append (λ x. x.0.failures) (pieces (dealt lb rl)) ((trough, rm) ∷ pieces (dealt rb rr))
          ∙ omega (arith, none, dealt_failures lb rl le, dealt_failures rb rr re)
