-- What a kind of element that can be pooled owes.
use Rattle.std.specs.Prelude.{◌≡◌, ℕ, ◌+◌, ◌<◌, ◌≤◌, Bool, true, false}

-- the total bulk up to which pooling adds; past it, pooling answers the first element
abbrev pub limit : ℕ
limit = 2147483648

-- the laws of an order, a pooling and a bulk
pub record Laws {V : Type 0} (leq : V → V → Bool) (joined : V → V → V) (bulk : V → ℕ) : Type 0 where
  -- the order is total: where x is not at most y, y is at most x
  pub total : (x y : V) → leq x y ≡ false → leq y x ≡ true
  pub trans : (x y z : V) → leq x y ≡ true → leq y z ≡ true → leq x z ≡ true
  pub assoc : (x y z : V) → bulk x + bulk y + bulk z ≤ limit → joined (joined x y) z ≡ joined x (joined y z)
  -- x lies below y: the pooled value lies strictly between
  pub between_up : (x y : V) → bulk x + bulk y ≤ limit → leq y x ≡ false → (leq (joined x y) x ≡ false) × (leq y (joined x y) ≡ false)
  -- x lies above y: the pooled value lies strictly between
  pub between_down : (x y : V) → bulk x + bulk y ≤ limit → leq x y ≡ false → (leq x (joined x y) ≡ false) × (leq (joined x y) y ≡ false)
  -- x and y are equal in value: the pooled value is theirs
  pub equal : (x y : V) → bulk x + bulk y ≤ limit → leq x y ≡ true → leq y x ≡ true → (leq x (joined x y) ≡ true) × (leq (joined x y) x ≡ true)
  pub bulk_within : (x y : V) → bulk x + bulk y ≤ limit → bulk (joined x y) ≤ bulk x + bulk y
  pub past_limit : (x y : V) → limit < bulk x + bulk y → joined x y ≡ x

-- pooling in either order: no law of a kind, and true of rates and shares
abbrev pub Commutes : {V : Type 0} → (V → V → V) → (V → ℕ) → Type 0
Commutes {V = V} joined bulk = (x y : V) → bulk x + bulk y ≤ limit → joined x y ≡ joined y x
