-- The two rules agree, and the blocks tile the pieces.
use Rattle.std.proofs.Common.{◌≡◌, ℕ, suc, ◌+◌, ◌-◌, ◌<◌, ◌≤◌, Bool, true, List, [], ◌∷◌, reverse, length, sym, refl, ap, ◌∙◌, subst, inl, inr, arith}
use mathlib.Core.List.{reverse_aux}
use Rattle.std.proofs.lemmas.Bool.{cases_lt, and_from}
use Rattle.isotonic.specs.declared.blocks.Block.{Block}
use Rattle.isotonic.specs.Laws.{Laws}
use Rattle.isotonic.specs.MaxMin.{run, greatest, level, rising, min_max}
use Rattle.isotonic.specs.Stacks.{stacked}
use Rattle.isotonic.proofs.Towers.{Solid, Above, Tower}
use Rattle.isotonic.specs.Theorems.{RulesAgree, BelowNext, Tiles, BlocksTile}
use Rattle.isotonic.proofs.Means.{Means, same, least_under, least_over, greatest_over, greatest_under, both_over, both_under, front, back}
use Rattle.isotonic.proofs.Fit.{fit_over, fit_under, above_under, left_of, Under}
use Rattle.isotonic.proofs.Pieces.{means, tower_blocks}
use Rattle.isotonic.proofs.Pushed.{stack_tower}

module _ {V : Type 0} {leq : V → V → Bool} {over : ℕ → ℕ → V} {n : ℕ} (m : Means leq over n) where
  pub dual_over : (s e i : ℕ) → s ≤ i → i < e → e ≤ n → Solid leq over s e → ((x : ℕ) → e < x → x ≤ n → leq (over s e) (over e x) ≡ true) → leq (over s e) (min_max leq over n i) ≡ true
  dual_over s e i p q r solid right =
      least_over m.order (λ k. greatest leq (λ a. over a (suc (i + k))) i) (over s e) (n - suc i)
      (λ j h. m.order.trans _ _ _ (each j h) (greatest_over m.order (λ a. over a (suc (i + j))) i s p))
    where
      each : (j : ℕ) → j ≤ n - suc i → leq (over s e) (over s (suc (i + j))) ≡ true
      each j h =
          elim (cases_lt e (suc (i + j))) [
            | inl l ↦ both_over m s e (suc (i + j)) (over s e) (omega arith) l (omega arith) (same m.order _) (right (suc (i + j)) l (omega arith))
            | inr l ↦ front m s e (suc (i + j)) solid (omega arith) l r
          ]

  pub dual_under : (s e i : ℕ) → s ≤ i → i < e → e ≤ n → Solid leq over s e → ((a : ℕ) → a < s → leq (over a s) (over s e) ≡ true) → leq (min_max leq over n i) (over s e) ≡ true
  dual_under s e i p q r solid left =
      m.order.trans _ _ _
      (least_under m.order (λ k. greatest leq (λ a. over a (suc (i + k))) i) (n - suc i) (e - suc i) (omega arith))
      (greatest_under m.order (λ a. over a (suc (i + (e - suc i)))) (over s e) i ends)
    where
      to_e : suc (i + (e - suc i)) ≡ e
      to_e = omega arith

      under : (a : ℕ) → a ≤ i → leq (over a e) (over s e) ≡ true
      under a h =
          elim (cases_lt a s) [
            | inl l ↦ both_under m a s e (over s e) l (omega arith) r (left a l) (same m.order _)
            | inr l ↦ back m s e a solid l (omega arith) r
          ]

      ends : (a : ℕ) → a ≤ i → leq (over a (suc (i + (e - suc i)))) (over s e) ≡ true
      ends a h = subst (λ (x : ℕ). leq (over a x) (over s e) ≡ true) (sym to_e) (under a h)

  -- all that begins where a tower ends lies over the top
  abbrev Over : ℕ → List (Block V) → Type 0
  Over hi [] = Unit {0}
  Over hi (b ∷ bs) = (x : ℕ) → hi < x → x ≤ n → leq b.element (over hi x) ≡ true

  over_end : (bs : List (Block V)) → Over n bs
  over_end [] = tt
  over_end (b ∷ bs) = λ x p q. absurd (omega arith)

  module _ (b : Block V) (bs : List (Block V)) (hi : ℕ) (t : Tower leq over hi (b ∷ bs)) (r : hi ≤ n) (right : Over hi (b ∷ bs)) where
    v_right : (x : ℕ) → hi < x → x ≤ n → leq (over b.first hi) (over hi x) ≡ true
    v_right x p q = subst (λ (w : V). leq w (over hi x) ≡ true) t.0.is (right x p q)

    v_left : (a : ℕ) → a < b.first → leq (over a b.first) (over b.first hi) ≡ true
    v_left =
        left_of m bs b.first (over b.first hi) t.2 (omega (arith, t.0.some))
        (subst (λ (w : V). Under m w bs) t.0.is (above_under m b.element bs t.1))

    here_agree : (i : ℕ) → b.first ≤ i → i < hi → level leq (rising leq over n i) (min_max leq over n i) ≡ true
    here_agree i p q =
        and_from _ _
        (m.order.trans _ _ _ (fit_under m b.first hi i p q r t.0.solid v_left) (dual_over b.first hi i p q r t.0.solid v_right))
        (m.order.trans _ _ _ (dual_under b.first hi i p q r t.0.solid v_left) (fit_over m b.first hi i p q r t.0.solid v_right))

    here_level : (i : ℕ) → b.first ≤ i → i ≤ b.last → level leq (rising leq over n i) b.element ≡ true
    here_level i p q =
        let e = t.0.ends in
        subst (λ (w : V). level leq (rising leq over n i) w ≡ true) (sym t.0.is)
        (and_from _ _ (fit_under m b.first hi i p (omega arith) r t.0.solid v_left) (fit_over m b.first hi i p (omega arith) r t.0.solid v_right))

    over_all : (x : ℕ) → b.first < x → x ≤ n → leq b.element (over b.first x) ≡ true
    over_all x p q =
        subst (λ (w : V). leq w (over b.first x) ≡ true) (sym t.0.is)
        (elim (cases_lt hi x) [
          | inl l ↦ both_over m b.first hi x (over b.first hi) t.0.some l q (same m.order _) (v_right x l q)
          | inr l ↦ front m b.first hi x t.0.solid p l r
        ])

    over_next : (cs : List (Block V)) → Above leq over b.element cs → Over b.first cs
    over_next [] h = tt
    over_next (d ∷ ds) h = λ x p q. m.order.trans _ _ _ (m.order.total _ _ h) (over_all x p q)

  tower_agrees : (bs : List (Block V)) (hi : ℕ) → Tower leq over hi bs → hi ≤ n → Over hi bs → (i : ℕ) → i < hi → level leq (rising leq over n i) (min_max leq over n i) ≡ true
  tower_agrees [] hi t r right i h = absurd (omega arith)
  tower_agrees (b ∷ bs) hi t r right i h =
      elim (cases_lt i b.first) [
        | inl l ↦ tower_agrees bs b.first t.2 (omega (arith, t.0.some)) (over_next b bs hi t r right bs t.1) i l
        | inr l ↦ here_agree b bs hi t r right i l h
      ]

  pub all_agree : (bs : List (Block V)) → Tower leq over n bs → (i : ℕ) → i < n → level leq (rising leq over n i) (min_max leq over n i) ≡ true
  all_agree bs t = tower_agrees bs n t (omega arith) (over_end bs)

  -- what has been laid down lies over the top of what is still to come
  abbrev Onto : List (Block V) → List (Block V) → Type 0
  Onto [] done = Unit {0}
  Onto (b ∷ bs) done = BelowNext leq over n b done

  onto_next : (b : Block V) (bs done : List (Block V)) → Above leq over b.element bs → Onto bs (b ∷ done)
  onto_next b [] done h = tt
  onto_next b (c ∷ cs) done h = h

  tower_tiles : (bs : List (Block V)) (hi : ℕ) (done : List (Block V)) → Tower leq over hi bs → hi ≤ n → Over hi bs → Onto bs done → Tiles leq over n hi done → Tiles leq over n 0 (reverse_aux bs done)
  tower_tiles [] hi done t r right on tiles = subst (λ (k : ℕ). Tiles leq over n k done) t tiles
  tower_tiles (b ∷ bs) hi done t r right on tiles =
      let e = t.0.ends in
      let s = t.0.some in
      tower_tiles bs b.first (b ∷ done) t.2 (omega arith) (over_next b bs hi t r right bs t.1) (onto_next b bs done t.1)
      (refl, omega arith, t.0.is ∙ ap (over b.first) (sym e), here_level b bs hi t r right, on, subst (λ (k : ℕ). Tiles leq over n k done) (sym e) tiles)

  onto_none : (bs : List (Block V)) → Onto bs []
  onto_none [] = tt
  onto_none (b ∷ bs) = tt

  pub all_tile : (bs : List (Block V)) → Tower leq over n bs → Tiles leq over n 0 (reverse bs)
  all_tile bs t = tower_tiles bs n [] t (omega arith) (over_end bs) (onto_none bs) refl

pub rules_agree : {V : Type 0} {leq : V → V → Bool} {joined : V → V → V} {bulk : V → ℕ} → Laws leq joined bulk → RulesAgree leq joined bulk
rules_agree {leq = leq} {joined = joined} laws xs light d i h =
    let t = stack_tower laws xs light d in
    all_agree (means laws xs light d) (stacked leq joined xs) (t d) i h

pub blocks_tile : {V : Type 0} {leq : V → V → Bool} {joined : V → V → V} {bulk : V → ℕ} → Laws leq joined bulk → BlocksTile leq joined bulk
blocks_tile {leq = leq} {joined = joined} laws xs light some d =
    let t = stack_tower laws xs light d in
    subst (λ bs. Tiles leq (run joined d xs) (length xs) 0 bs) (tower_blocks laws xs (stacked leq joined xs) some light t) (all_tile (means laws xs light d) (stacked leq joined xs) (t d))
