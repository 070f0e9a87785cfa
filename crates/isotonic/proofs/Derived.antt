-- The laws of a kind in the forms that the proofs use.
use Rattle.std.proofs.Common.{◌≡◌, ℕ, ◌+◌, ◌≤◌, Bool, true, sym, subst, inl, inr, arith}
use Rattle.std.proofs.lemmas.Bool.{cases_Bool, cases_lt}
use Rattle.isotonic.specs.Laws.{Laws, limit}

module _ {V : Type 0} {leq : V → V → Bool} {joined : V → V → V} {bulk : V → ℕ} (laws : Laws leq joined bulk) where
  -- of two elements that do not fall, the pooled one lies between them
  pub mean_up : (x y : V) → bulk x + bulk y ≤ limit → leq x y ≡ true → (leq x (joined x y) ≡ true) × (leq (joined x y) y ≡ true)
  mean_up x y h k =
      elim (cases_Bool (leq y x)) [
        | inl e ↦ let same = laws.equal x y h k e in (same.0, laws.trans _ _ _ same.1 k)
        | inr b ↦ let apart = laws.between_up x y h b in (laws.total _ _ apart.0, laws.total _ _ apart.1)
      ]

  -- of two elements that do not rise, the pooled one lies between them
  pub mean_down : (x y : V) → bulk x + bulk y ≤ limit → leq y x ≡ true → (leq y (joined x y) ≡ true) × (leq (joined x y) x ≡ true)
  mean_down x y h k =
      elim (cases_Bool (leq x y)) [
        | inl e ↦ let same = laws.equal x y h e k in (laws.trans _ _ _ k same.0, same.1)
        | inr b ↦ let apart = laws.between_down x y h b in (laws.total _ _ apart.1, laws.total _ _ apart.0)
      ]

  -- pooling adds no bulk, within the limit and past it
  pub bulk_joined : (x y : V) → bulk (joined x y) ≤ bulk x + bulk y
  bulk_joined x y =
      elim (cases_lt limit (bulk x + bulk y)) [
        | inl l ↦ subst (λ (z : V). bulk z ≤ bulk x + bulk y) (sym (laws.past_limit x y l)) (omega arith)
        | inr l ↦ laws.bulk_within x y l
      ]
