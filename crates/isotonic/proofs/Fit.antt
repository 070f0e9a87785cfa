-- The blocks of a tower over all pieces are the blocks of the rising fit.
use Rattle.std.proofs.Common.{◌≡◌, ℕ, zero, suc, ◌+◌, ◌-◌, ◌<◌, ◌≤◌, Bool, true, false, List, [], ◌∷◌, reverse, sym, refl, ap, ◌∙◌, subst, inl, inr, arith}
use mathlib.Core.List.{reverse_aux}
use Rattle.std.proofs.lemmas.Bool.{cases_Bool, cases_lt, cond-true, cond-false, both_ways, and_from, and_right}
use Rattle.isotonic.specs.declared.blocks.Block.{Block}
use Rattle.isotonic.specs.MaxMin.{level, least_from, rising, block, in_front, last_blocks}
use Rattle.isotonic.proofs.Towers.{Solid, Stands, Above, Tower}
use Rattle.isotonic.proofs.Means.{Means, same, least_under, least_over, greatest_over, greatest_under, both_over, both_under, front, back}

module _ {V : Type 0} {leq : V → V → Bool} {over : ℕ → ℕ → V} {n : ℕ} (m : Means leq over n) where
  -- the value of a solid run is the fit at each of its pieces, where all that ends before it lies under it, and all that begins after it over it
  pub fit_over : (s e i : ℕ) → s ≤ i → i < e → e ≤ n → Solid leq over s e → ((x : ℕ) → e < x → x ≤ n → leq (over s e) (over e x) ≡ true) → leq (over s e) (rising leq over n i) ≡ true
  fit_over s e i p q r solid right =
      m.order.trans _ _ _
      (least_over m.order (λ k. over s (suc (i + k))) (over s e) (n - suc i) each)
      (greatest_over m.order (λ a. least_from leq over n a i) i s p)
    where
      each : (j : ℕ) → j ≤ n - suc i → leq (over s e) (over s (suc (i + j))) ≡ true
      each j h =
          elim (cases_lt e (suc (i + j))) [
            | inl l ↦ both_over m s e (suc (i + j)) (over s e) (omega arith) l (omega arith) (same m.order _) (right (suc (i + j)) l (omega arith))
            | inr l ↦ front m s e (suc (i + j)) solid (omega arith) l r
          ]

  pub fit_under : (s e i : ℕ) → s ≤ i → i < e → e ≤ n → Solid leq over s e → ((a : ℕ) → a < s → leq (over a s) (over s e) ≡ true) → leq (rising leq over n i) (over s e) ≡ true
  fit_under s e i p q r solid left =
      greatest_under m.order (λ a. least_from leq over n a i) (over s e) i
      (λ a h. m.order.trans _ _ _ (least_under m.order (λ k. over a (suc (i + k))) (n - suc i) (e - suc i) (omega arith)) (ends a h))
    where
      to_e : suc (i + (e - suc i)) ≡ e
      to_e = omega arith

      under : (a : ℕ) → a ≤ i → leq (over a e) (over s e) ≡ true
      under a h =
          elim (cases_lt a s) [
            | inl l ↦ both_under m a s e (over s e) l (omega arith) r (left a l) (same m.order _)
            | inr l ↦ back m s e a solid l (omega arith) r
          ]

      ends : (a : ℕ) → a ≤ i → leq (over a (suc (i + (e - suc i)))) (over s e) ≡ true
      ends a h = subst (λ (x : ℕ). leq (over a x) (over s e) ≡ true) (sym to_e) (under a h)

  -- the top of the stack lies under v
  abbrev pub Under : V → List (Block V) → Type 0
  Under v [] = Unit {0}
  Under v (t ∷ ts) = leq t.element v ≡ true

  pub above_under : (v : V) (bs : List (Block V)) → Above leq over v bs → Under v bs
  above_under v [] h = tt
  above_under v (t ∷ ts) h = m.order.total _ _ h

  pub under_more : (v w : V) (bs : List (Block V)) → Under v bs → leq v w ≡ true → Under w bs
  under_more v w [] h k = tt
  under_more v w (t ∷ ts) h k = m.order.trans _ _ _ h k

  -- all that ends with a tower lies under what its top lies under
  pub left_of : (bs : List (Block V)) (hi : ℕ) (c : V) → Tower leq over hi bs → hi ≤ n → Under c bs → (a : ℕ) → a < hi → leq (over a hi) c ≡ true
  left_of [] hi c t r u a h = absurd (omega arith)
  left_of (b ∷ bs) hi c t r u a h =
      elim (cases_lt a b.first) [
        | inl l ↦
            both_under m a b.first hi c l t.0.some r
            (left_of bs b.first c t.2 (omega (arith, t.0.some)) (under_more b.element c bs (above_under b.element bs t.1) u) a l)
            top
        | inr l ↦ m.order.trans _ _ _ (back m b.first hi a t.0.solid l h r) top
      ]
    where
      top : leq (over b.first hi) c ≡ true
      top = subst (λ (v : V). leq v c ≡ true) t.0.is u

  -- the blocks of the pieces from i on
  abbrev pub from : ℕ → List (Block V)
  from i = last_blocks leq over (rising leq over n) n (n - i)

  from_step : (i : ℕ) → i < n → from i ≡ in_front leq over (rising leq over n) i (from (suc i))
  from_step i h =
      ap (last_blocks leq over (rising leq over n) n) one_more ∙ ap (λ (k : ℕ). in_front leq over (rising leq over n) k (from (suc i))) it
    where
      one_more : n - i ≡ suc (n - suc i)
      one_more = omega arith

      it : n - suc (n - suc i) ≡ i
      it = omega arith

  in_front_apart : (i : ℕ) (bs : List (Block V)) → level leq (rising leq over n i) (rising leq over n (suc i)) ≡ false → in_front leq over (rising leq over n) i bs ≡ block over i i ∷ bs
  in_front_apart i [] h = refl
  in_front_apart i (b ∷ bs) h = cond-false _ _ _ h

  in_front_level : (i : ℕ) (b : Block V) (bs : List (Block V)) → level leq (rising leq over n i) (rising leq over n (suc i)) ≡ true → in_front leq over (rising leq over n) i (b ∷ bs) ≡ block over i b.last ∷ bs
  in_front_level i b bs h = cond-true _ _ _ h

  past_end : (i : ℕ) → n ≤ i → from i ≡ []
  past_end i h = ap (last_blocks leq over (rising leq over n) n) none_left
    where
      none_left : n - i ≡ 0
      none_left = omega arith

  last_of : (l : ℕ) → l < n → (suc l < n → level leq (rising leq over n l) (rising leq over n (suc l)) ≡ false) → from l ≡ block over l l ∷ from (suc l)
  last_of l r apart =
      elim (cases_lt (suc l) n) [
        | inl h ↦ from_step l r ∙ in_front_apart l (from (suc l)) (apart h)
        | inr h ↦
            from_step l r ∙ ap (in_front leq over (rising leq over n) l) (past_end (suc l) h)
            ∙ ap (λ (bs : List (Block V)). block over l l ∷ bs) (sym (past_end (suc l) h))
      ]

  -- pieces with level fits make one block
  one_block : (s l : ℕ) → l < n → ((i : ℕ) → s ≤ i → i < l → level leq (rising leq over n i) (rising leq over n (suc i)) ≡ true) → (suc l < n → level leq (rising leq over n l) (rising leq over n (suc l)) ≡ false) → (d i : ℕ) → i + d ≡ l → s ≤ i → from i ≡ block over i l ∷ from (suc l)
  one_block s l r inside apart zero i h p =
      subst (λ (j : ℕ). from j ≡ block over j l ∷ from (suc l)) l_is_i (last_of l r apart)
    where
      l_is_i : l ≡ i
      l_is_i = omega arith
  one_block s l r inside apart (suc d) i h p =
      from_step i (omega arith)
      ∙ ap (in_front leq over (rising leq over n) i) (one_block s l r inside apart d (suc i) (omega arith) (omega arith))
      ∙ in_front_level i (block over (suc i) l) (from (suc l)) (inside i p (omega arith))

  abbrev Right : ℕ → List (Block V) → Type 0
  Right hi [] = Unit {0}
  Right hi (b ∷ bs) = (x : ℕ) → hi < x → x ≤ n → leq b.element (over hi x) ≡ true

  abbrev Apart : ℕ → List (Block V) → Type 0
  Apart hi [] = Unit {0}
  Apart hi (b ∷ bs) = hi < n → leq (rising leq over n hi) b.element ≡ false

  not_true : (t : Bool) → (t ≡ true → ⊥) → t ≡ false
  not_true t h = elim (cases_Bool t) [ inl y ↦ absurd (h y) | inr f ↦ f ]

  same_block : (b : Block V) (hi : ℕ) → Stands leq over b hi → block over b.first b.last ≡ b
  same_block b hi st =
      λ i. record { first = b.first; last = b.last; element = whole i }
    where
      whole : over b.first (suc b.last) ≡ b.element
      whole = ap (over b.first) st.ends ∙ sym st.is

  module _ (b : Block V) (bs : List (Block V)) (hi : ℕ) (t : Tower leq over hi (b ∷ bs)) (r : hi ≤ n) (right : Right hi (b ∷ bs)) (apart : Apart hi (b ∷ bs)) where
    abbrev v : V
    v = over b.first hi

    v_right : (x : ℕ) → hi < x → x ≤ n → leq v (over hi x) ≡ true
    v_right x p q = subst (λ (w : V). leq w (over hi x) ≡ true) t.0.is (right x p q)

    v_left : (a : ℕ) → a < b.first → leq (over a b.first) v ≡ true
    v_left =
        left_of bs b.first v t.2 (omega (arith, t.0.some))
        (subst (λ (w : V). Under w bs) t.0.is (above_under b.element bs t.1))

    at_least : (i : ℕ) → b.first ≤ i → i < hi → leq v (rising leq over n i) ≡ true
    at_least i p q = fit_over b.first hi i p q r t.0.solid v_right

    at_most : (i : ℕ) → b.first ≤ i → i < hi → leq (rising leq over n i) v ≡ true
    at_most i p q = fit_under b.first hi i p q r t.0.solid v_left

    inside : (i : ℕ) → b.first ≤ i → i < b.last → level leq (rising leq over n i) (rising leq over n (suc i)) ≡ true
    inside i p q =
        let e = t.0.ends in
        and_from _ _ (m.order.trans _ _ _ (at_most i p (omega arith)) (at_least (suc i) (omega arith) (omega arith)))
        (m.order.trans _ _ _ (at_most (suc i) (omega arith) (omega arith)) (at_least i p (omega arith)))

    beyond : suc b.last < n → level leq (rising leq over n b.last) (rising leq over n (suc b.last)) ≡ false
    beyond h =
        let e = t.0.ends in
        let s = t.0.some in
        and_right _ _ (not_true _ (λ g. both_ways _ (apart (subst (λ (x : ℕ). x < n) e h))
        (subst (λ (w : V). leq (rising leq over n hi) w ≡ true) (sym t.0.is)
        (m.order.trans _ _ _ (subst (λ (x : ℕ). leq (rising leq over n x) (rising leq over n b.last) ≡ true) e g) (at_most b.last (omega arith) (omega arith))))))

    pub block_first : from b.first ≡ b ∷ from hi
    block_first =
        let e = t.0.ends in
        let s = t.0.some in
        one_block b.first b.last (omega arith) inside beyond (b.last - b.first) b.first (omega arith) (omega arith)
        ∙ ap (λ (x : Block V). x ∷ from (suc b.last)) (same_block b hi t.0)
        ∙ ap (λ (x : ℕ). b ∷ from x) e

    -- all from the block's first piece on lies over the block
    over_all : (x : ℕ) → b.first < x → x ≤ n → leq b.element (over b.first x) ≡ true
    over_all x p q =
        subst (λ (w : V). leq w (over b.first x) ≡ true) (sym t.0.is)
        (elim (cases_lt hi x) [
          | inl l ↦ both_over m b.first hi x v t.0.some l q (same m.order _) (v_right x l q)
          | inr l ↦ front m b.first hi x t.0.solid p l r
        ])

    fit_first : leq b.element (rising leq over n b.first) ≡ true
    fit_first = subst (λ (w : V). leq w (rising leq over n b.first) ≡ true) (sym t.0.is) (at_least b.first (omega arith) t.0.some)

    right_next : (cs : List (Block V)) → Above leq over b.element cs → Right b.first cs
    right_next [] h = tt
    right_next (d ∷ ds) h = λ x p q. m.order.trans _ _ _ (m.order.total _ _ h) (over_all x p q)

    apart_next : (cs : List (Block V)) → Above leq over b.element cs → Apart b.first cs
    apart_next [] h = tt
    apart_next (d ∷ ds) h = λ _. not_true _ (λ g. both_ways _ h (m.order.trans _ _ _ fit_first g))

  walk : (bs : List (Block V)) (hi : ℕ) → Tower leq over hi bs → hi ≤ n → Right hi bs → Apart hi bs → reverse_aux bs (from hi) ≡ from 0
  walk [] hi t r right apart = ap from t
  walk (b ∷ bs) hi t r right apart =
      ap (reverse_aux bs) (sym (block_first b bs hi t r right apart))
      ∙ walk bs b.first t.2 (omega (arith, t.0.some)) (right_next b bs hi t r right apart bs t.1) (apart_next b bs hi t r right apart bs t.1)

  right_end : (bs : List (Block V)) → Right n bs
  right_end [] = tt
  right_end (b ∷ bs) = λ x p q. absurd (omega arith)

  apart_end : (bs : List (Block V)) → Apart n bs
  apart_end [] = tt
  apart_end (b ∷ bs) = λ h. absurd (omega arith)

  -- a tower over all pieces is the rising fit
  pub tower_fits : (bs : List (Block V)) → Tower leq over n bs → reverse bs ≡ last_blocks leq over (rising leq over n) n n
  tower_fits bs t =
      ap (reverse_aux bs) (sym (past_end n (omega arith)))
      ∙ walk bs n t (omega arith) (right_end bs) (apart_end bs)
      ∙ ap (last_blocks leq over (rising leq over n) n) whole
    where
      whole : n - 0 ≡ n
      whole = omega arith
