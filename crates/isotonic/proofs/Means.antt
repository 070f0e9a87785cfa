-- An order with means: what holds of two neighbouring runs of pieces, and of their parts.
use Rattle.std.proofs.Common.{◌≡◌, ℕ, zero, suc, ◌<◌, ◌≤◌, Bool, true, false, sym, subst, inl, inr, arith}
use Rattle.std.proofs.lemmas.Bool.{cases_Bool, cases_lt, cases_order, cond_both}
use Rattle.isotonic.specs.MaxMin.{least, greatest}
use Rattle.isotonic.proofs.Towers.{Solid}

pub record Ordered {V : Type 0} (leq : V → V → Bool) : Type 0 where
  pub total : (x y : V) → leq x y ≡ false → leq y x ≡ true
  pub trans : (x y z : V) → leq x y ≡ true → leq y z ≡ true → leq x z ≡ true

-- two neighbours, joined, lie between the two
pub record Means {V : Type 0} (leq : V → V → Bool) (over : ℕ → ℕ → V) (n : ℕ) : Type 0 where
  pub order : Ordered leq
  pub up : (a b e : ℕ) → a < b → b < e → e ≤ n → leq (over a b) (over b e) ≡ true → (leq (over a b) (over a e) ≡ true) × (leq (over a e) (over b e) ≡ true)
  pub down : (a b e : ℕ) → a < b → b < e → e ≤ n → leq (over b e) (over a b) ≡ true → (leq (over b e) (over a e) ≡ true) × (leq (over a e) (over a b) ≡ true)

module _ {V : Type 0} {leq : V → V → Bool} (o : Ordered leq) where
  pub same : (x : V) → leq x x ≡ true
  same x = elim (cases_Bool (leq x x)) [ inl t ↦ t | inr f ↦ o.total x x f ]

  -- the least lies under each, and over what lies under each
  pub least_under : (f : ℕ → V) (k j : ℕ) → j ≤ k → leq (least leq f k) (f j) ≡ true
  least_under f zero j h = rw (zero_is j h) (same (f 0))
    where
      zero_is : (i : ℕ) → i ≤ 0 → i ≡ 0
      zero_is i g = omega arith
  least_under f (suc k) j h =
      elim (cases_lt j (suc k)) [
        | inl l ↦ cond_both (leq (least leq f k) (f (suc k))) (least leq f k) (f (suc k)) (λ v. leq v (f j) ≡ true)
            (λ _. least_under f k j (omega arith))
            (λ g. o.trans _ _ _ (o.total _ _ g) (least_under f k j (omega arith)))
        | inr l ↦ cond_both (leq (least leq f k) (f (suc k))) (least leq f k) (f (suc k)) (λ v. leq v (f j) ≡ true)
            (λ t. subst (λ (i : ℕ). leq (least leq f k) (f i) ≡ true) (top l) t)
            (λ _. subst (λ (i : ℕ). leq (f (suc k)) (f i) ≡ true) (top l) (same _))
      ]
    where
      top : suc k ≤ j → suc k ≡ j
      top g = omega arith

  pub least_over : (f : ℕ → V) (c : V) (k : ℕ) → ((j : ℕ) → j ≤ k → leq c (f j) ≡ true) → leq c (least leq f k) ≡ true
  least_over f c zero h = h 0 (omega arith)
  least_over f c (suc k) h =
      cond_both (leq (least leq f k) (f (suc k))) (least leq f k) (f (suc k)) (λ v. leq c v ≡ true)
      (λ _. least_over f c k (λ j l. h j (omega arith)))
      (λ _. h (suc k) (omega arith))

  pub greatest_over : (f : ℕ → V) (k j : ℕ) → j ≤ k → leq (f j) (greatest leq f k) ≡ true
  greatest_over f zero j h = rw (zero_is j h) (same (f 0))
    where
      zero_is : (i : ℕ) → i ≤ 0 → i ≡ 0
      zero_is i g = omega arith
  greatest_over f (suc k) j h =
      elim (cases_lt j (suc k)) [
        | inl l ↦ cond_both (leq (f (suc k)) (greatest leq f k)) (greatest leq f k) (f (suc k)) (λ v. leq (f j) v ≡ true)
            (λ _. greatest_over f k j (omega arith))
            (λ g. o.trans _ _ _ (greatest_over f k j (omega arith)) (o.total _ _ g))
        | inr l ↦ cond_both (leq (f (suc k)) (greatest leq f k)) (greatest leq f k) (f (suc k)) (λ v. leq (f j) v ≡ true)
            (λ t. subst (λ (i : ℕ). leq (f i) (greatest leq f k) ≡ true) (top l) t)
            (λ _. subst (λ (i : ℕ). leq (f i) (f (suc k)) ≡ true) (top l) (same _))
      ]
    where
      top : suc k ≤ j → suc k ≡ j
      top g = omega arith

  pub greatest_under : (f : ℕ → V) (c : V) (k : ℕ) → ((j : ℕ) → j ≤ k → leq (f j) c ≡ true) → leq (greatest leq f k) c ≡ true
  greatest_under f c zero h = h 0 (omega arith)
  greatest_under f c (suc k) h =
      cond_both (leq (f (suc k)) (greatest leq f k)) (greatest leq f k) (f (suc k)) (λ v. leq v c ≡ true)
      (λ _. greatest_under f c k (λ j l. h j (omega arith)))
      (λ _. h (suc k) (omega arith))

module _ {V : Type 0} {leq : V → V → Bool} {over : ℕ → ℕ → V} {n : ℕ} (m : Means leq over n) where
  -- what lies under two neighbours lies under the two joined
  pub both_over : (a b e : ℕ) (c : V) → a < b → b < e → e ≤ n → leq c (over a b) ≡ true → leq c (over b e) ≡ true → leq c (over a e) ≡ true
  both_over a b e c p q r h k =
      elim (cases_Bool (leq (over a b) (over b e))) [
        | inl t ↦ m.order.trans _ _ _ h (m.up a b e p q r t).0
        | inr f ↦ m.order.trans _ _ _ k (m.down a b e p q r (m.order.total _ _ f)).0
      ]

  pub both_under : (a b e : ℕ) (c : V) → a < b → b < e → e ≤ n → leq (over a b) c ≡ true → leq (over b e) c ≡ true → leq (over a e) c ≡ true
  both_under a b e c p q r h k =
      elim (cases_Bool (leq (over a b) (over b e))) [
        | inl t ↦ m.order.trans _ _ _ (m.up a b e p q r t).1 k
        | inr f ↦ m.order.trans _ _ _ (m.down a b e p q r (m.order.total _ _ f)).1 h
      ]

  -- the front of a solid run lies over it, and its back under it
  pub front : (s e k : ℕ) → Solid leq over s e → s < k → k ≤ e → e ≤ n → leq (over s e) (over s k) ≡ true
  front s e k solid p q r =
      elim (cases_lt k e) [
        | inl l ↦ (m.down s k e p l r (solid k p l)).1
        | inr l ↦ subst (λ (i : ℕ). leq (over s e) (over s i) ≡ true) (meet l) (same m.order _)
      ]
    where
      meet : e ≤ k → e ≡ k
      meet l = omega arith

  pub back : (s e k : ℕ) → Solid leq over s e → s ≤ k → k < e → e ≤ n → leq (over k e) (over s e) ≡ true
  back s e k solid p q r =
      elim (cases_lt s k) [
        | inl l ↦ (m.down s k e l q r (solid k l q)).0
        | inr l ↦ subst (λ (i : ℕ). leq (over i e) (over s e) ≡ true) (meet l) (same m.order _)
      ]
    where
      meet : k ≤ s → s ≡ k
      meet l = omega arith

  pub solid_one : (s : ℕ) → Solid leq over s (suc s)
  solid_one s k p q = absurd (omega arith)

  -- two solid neighbours that do not rise are solid together
  pub solid_joined : (s t e : ℕ) → s < t → t < e → e ≤ n → Solid leq over s t → Solid leq over t e → leq (over t e) (over s t) ≡ true → Solid leq over s e
  solid_joined s t e p q r left right falls k l g =
      elim (cases_order k t) [
        | inl eq ↦ subst (λ (i : ℕ). leq (over i e) (over s i) ≡ true) (sym eq) falls
        | inr u ↦ elim u [
          | inl lt ↦
              both_under k t e (over s k) lt q r (left k l lt)
              (m.order.trans _ _ _ falls (front s t k left l (omega arith) (omega arith)))
          | inr gt ↦
              both_over s t k (over k e) p gt (omega arith)
              (m.order.trans _ _ _ (back t e k right (omega arith) g r) falls)
              (right k gt g)
        ]
      ]
