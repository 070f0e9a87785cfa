-- The list of failure ages: one more at the next failure age, none where there are no failures.
use Rattle.std.proofs.Common.{◌≡◌, ℕ, zero, suc, ◌+◌, ◌<◌, ◌≤◌, Bool, true, false, cond, ltb, List, [], ◌∷◌, ◌++◌, length, take, drop, set, sym, refl, ap, ◌∙◌, subst, ap₂, inl, inr, arith, append_assoc}
use Rattle.std.proofs.lemmas.List.{append-nil, take-append-drop, length_push, take_more_set, drop-set-lt, drop-drop}
use Rattle.std.specs.List.{filter, sum_by}
use Rattle.std.proofs.lemmas.List.Elements.{filter-append}
use Rattle.std.proofs.lemmas.List.Sums.{sum_by-append}
use Rattle.std.proofs.lemmas.Bool.{lt-ltb, le-ltb, cond-true, cond-false, cases_lt}
use Rattle.sources.specs.Ticks.{upto}
use Rattle.sources.specs.Ages.{ages, ages_above}
use Rattle.sources.specs.Tallies.{flat, upto_zero, upto_suc}
use Rattle.sources.specs.Gaps.{gap, gaps_from}
use Rattle.sources.specs.declared.gaps.Gap.{Gap}

pub ages_zero : (f : ℕ → ℕ) → ages f 0 ≡ []
unfolding ages
ages_zero f = refl

ages_suc : (f : ℕ → ℕ) (t : ℕ) → ages f (suc t) ≡ ages f t ++ cond (ltb 0 (f (suc t))) (suc t ∷ []) []
unfolding ages
ages_suc f t = refl

pub ages_none : (f : ℕ → ℕ) (t : ℕ) → f (suc t) ≡ 0 → ages f (suc t) ≡ ages f t
ages_none f t e = ages_suc f t ∙ ap (λ x. ages f t ++ x) (cond-false _ _ _ (le-ltb 0 (f (suc t)) (omega arith))) ∙ append-nil (ages f t)

pub ages_more : (f : ℕ → ℕ) (t : ℕ) → 0 < f (suc t) → ages f (suc t) ≡ ages f t ++ (suc t ∷ [])
ages_more f t p = ages_suc f t ∙ ap (λ x. ages f t ++ x) (cond-true _ _ _ (lt-ltb 0 (f (suc t)) p))

pub ages_flat : (f : ℕ → ℕ) (a b : ℕ) → a ≤ b → ((u : ℕ) → a < u → u ≤ b → f u ≡ 0) → ages f b ≡ ages f a
ages_flat f a b h q = flat (ages f) f (ages_none f) a b h q

pub ages_hop : (f : ℕ → ℕ) (a t : ℕ) → a < t → 0 < f t → ((u : ℕ) → a < u → u < t → f u ≡ 0) → ages f t ≡ ages f a ++ (t ∷ [])
ages_hop f a zero h p q = absurd (omega arith)
ages_hop f a (suc m) h p q = ages_more f m p ∙ ap (λ xs. xs ++ (suc m ∷ [])) (ages_flat f a m (omega arith) (λ u l n. q u l (omega arith)))

-- as many ages as failures at most
pub ages_few : (f : ℕ → ℕ) (t : ℕ) → length (ages f t) ≤ upto f t
ages_few f zero = omega (arith, ap length (ages_zero f))
ages_few f (suc t) = go (f (suc t)) refl (ages_few f t)
  where
    go : (k : ℕ) → f (suc t) ≡ k → length (ages f t) ≤ upto f t → length (ages f (suc t)) ≤ upto f (suc t)
    go zero e ih = omega (arith, ap length (ages_none f t e), upto_suc f t)
    go (suc k) e ih = omega (arith, ap length (ages_more f t (omega arith)), length_push (ages f t) (suc t), upto_suc f t)

-- ---- the failure ages above an age

late_one : (x t : ℕ) (b : Bool) → t ≤ x → filter (λ u. ltb x u) (cond b (t ∷ []) []) ≡ []
late_one x t false h = refl
late_one x t true h = cond-false _ (t ∷ []) [] (le-ltb x t h)

early_one : (x t : ℕ) (b : Bool) → x < t → filter (λ u. ltb x u) (cond b (t ∷ []) []) ≡ cond b (t ∷ []) []
early_one x t false h = refl
early_one x t true h = cond-true _ (t ∷ []) [] (lt-ltb x t h)

above_suc : (f : ℕ → ℕ) (x t : ℕ) → ages_above f x (suc t) ≡ ages_above f x t ++ filter (λ u. ltb x u) (cond (ltb 0 (f (suc t))) (suc t ∷ []) [])
above_suc f x t = ap (filter (λ u. ltb x u)) (ages_suc f t) ∙ filter-append (λ u. ltb x u) (ages f t) _

above_late : (f : ℕ → ℕ) (x t : ℕ) → t ≤ x → ages_above f x t ≡ []
above_late f x zero h = ap (filter (λ u. ltb x u)) (ages_zero f)
above_late f x (suc t) h = above_suc f x t ∙ ap₂ (λ a b. a ++ b) (above_late f x t (omega arith)) (late_one x (suc t) _ h)

-- all of them are above 0
pub above_zero : (f : ℕ → ℕ) (t : ℕ) → ages_above f 0 t ≡ ages f t
above_zero f zero = above_late f 0 0 (omega arith) ∙ sym (ages_zero f)
above_zero f (suc t) = above_suc f 0 t ∙ ap₂ (λ a b. a ++ b) (above_zero f t) (early_one 0 (suc t) _ (omega arith)) ∙ sym (ages_suc f t)

-- none is left where no age has failures
pub above_none : (f : ℕ → ℕ) (x t : ℕ) → ((u : ℕ) → x < u → u ≤ t → f u ≡ 0) → ages_above f x t ≡ []
above_none f x t q = elim (cases_lt x t) [
  | inl h ↦ ap (filter (λ u. ltb x u)) (ages_flat f x t (omega arith) q) ∙ above_late f x x (omega arith)
  | inr h ↦ above_late f x t h
]

-- the next failure age, and those above it
pub above_next : (f : ℕ → ℕ) (x a t : ℕ) → x < a → 0 < f a → ((u : ℕ) → x < u → u < a → f u ≡ 0) → a ≤ t → ages_above f x t ≡ a ∷ ages_above f a t
above_next f x a zero h p q l = absurd (omega arith)
above_next f x a (suc m) h p q l = elim (cases_lt m a) [
  | inl g ↦ (let e : suc m ≡ a = omega arith in
      subst (λ t. ages_above f x t ≡ a ∷ ages_above f a t) (sym e) (
      ap (filter (λ u. ltb x u)) (ages_hop f x a h p q) ∙ filter-append (λ u. ltb x u) (ages f x) (a ∷ [])
      ∙ ap₂ (λ v w. v ++ w) (above_late f x x (omega arith)) (cond-true _ (a ∷ []) [] (lt-ltb x a h))
      ∙ ap (λ v. a ∷ v) (sym (above_late f a a (omega arith)))
      ))
  | inr g ↦ above_suc f x m
      ∙ ap₂ (λ v w. v ++ w) (above_next f x a m h p q g) (early_one x (suc m) _ (omega arith) ∙ sym (early_one a (suc m) _ (omega arith)))
      ∙ ap (λ v. a ∷ v) (sym (above_suc f a m))
]

-- the failures at all failure ages
pub sum_ages : (f : ℕ → ℕ) (t : ℕ) → sum_by f (ages f t) ≡ upto f t
sum_ages f zero = ap (sum_by f) (ages_zero f) ∙ sym (upto_zero f)
sum_ages f (suc t) = go (f (suc t)) refl (sum_ages f t)
  where
    go : (k : ℕ) → f (suc t) ≡ k → sum_by f (ages f t) ≡ upto f t → sum_by f (ages f (suc t)) ≡ upto f (suc t)
    go zero e ih = omega (arith, ap (sum_by f) (ages_none f t e), upto_suc f t)
    go (suc k) e ih = omega (arith, ap (sum_by f) (ages_more f t (omega arith)), sum_by-append f (ages f t) (suc t ∷ []), upto_suc f t)

-- ---- the last of a list, or d

abbrev pub final : ℕ → List ℕ → ℕ
final d [] = d
final d (x ∷ xs) = final x xs

-- ---- the gaps

pub rest_stays : (k : ℕ) (m m' : List Gap) (v : Gap) → drop k m ≡ drop k m' → drop (k + 1) (set m k v) ≡ drop (k + 1) m'
rest_stays k m m' v e = drop-set-lt (k + 1) m k v (omega arith) ∙ sym (drop-drop 1 k m) ∙ ap (drop 1) e ∙ drop-drop 1 k m'

-- the first k gaps of the ages of a list stand in memory m, which was m'; the gaps of the ages that are left come after them, the first from an age
pub record Written (n f : ℕ → ℕ) (all : List ℕ) (m' m : List Gap) (k from : ℕ) (left : List ℕ) : Type 0 where
  pub number : k + length left ≡ length all
  pub written : take k m ++ gaps_from n f from left ≡ gaps_from n f 0 all
  pub rest : drop k m ≡ drop k m'

module _ {n f : ℕ → ℕ} {all : List ℕ} {m' m : List Gap} {k from : ℕ} where
  -- one gap more is written
  pub written_more : (t i k' : ℕ) (xs left : List ℕ) (v : Gap) → Written n f all m' m k from xs → xs ≡ t ∷ left → i ≡ k → k' ≡ k + 1 → length all ≤ length m → v ≡ gap n f from t
      → Written n f all m' (set m i v) k' t left
  written_more t i k' xs left v w e a b h p =
      let room : k < length m = omega (arith, w.number, ap length e) in
      record {
        number = omega (arith, w.number, ap length e);
        written = rw (a, b, take_more_set m k v room, p, append_assoc) (rw e at w.written);
        rest = rw (a, b) (rest_stays k m m' v w.rest);
      }

  -- none is left
  pub written_all : (left : List ℕ) → Written n f all m' m k from left → left ≡ [] → m ≡ gaps_from n f 0 all ++ drop (length all) m'
  written_all left w e =
      let k : k ≡ length all = omega (arith, w.number, ap length e) in
      sym (take-append-drop _ m) ∙ ap₂ (λ x y. x ++ y) (sym (append-nil _) ∙ (rw e at w.written)) w.rest ∙ ap (λ i. gaps_from n f 0 all ++ drop i m') k
