-- The laws of a kind whose elements are ratios.
use Rattle.std.specs.Prelude.{◌≡◌, ℕ, ◌+◌, ◌*◌, ◌<◌, ◌≤◌, Bool}
use Rattle.std.proofs.Common.{sym, ap, ◌∙◌, mul_right_comm, mul-add, add-mul, mul-le-mul_right, le_of_mul-le-mul_right, arith}
use Rattle.std.proofs.lemmas.Bool.{leb-true, leb-false, le-leb, lt-leb, cond-true, cond-false}
use Rattle.isotonic.specs.Laws.{Laws, limit, Commutes}
use Rattle.isotonic.proofs.Falling.{turned_laws}
use Rattle.pooling.specs.Ratios.{ratio_leq, within_limit}
use Rattle.pooling.specs.Turns.{unturned, turned_leq, turned_joined, turned_bulk}
use Rattle.pooling.specs.declared.kinds.Turned.{Turned}

-- a / b ≤ c / d ≤ e / f
chain : (a b c d e f : ℕ) → 0 < d → a * d ≤ c * b → c * f ≤ e * d → a * f ≤ e * b
chain a b c d e f pos h k =
    let p : a * d * f ≤ c * b * f = mul-le-mul_right f h in
    let q : c * f * b ≤ e * d * b = mul-le-mul_right b k in
    let r : a * f * d ≤ e * b * d = omega (arith, p, q, mul_right_comm a d f, mul_right_comm c b f, mul_right_comm e d b) in
    le_of_mul-le-mul_right r pos

pub within_is : {V : Type 0} (bulk : V → ℕ) (sum : V → V → V) (x y : V) → bulk x + bulk y ≤ limit → within_limit bulk sum x y ≡ sum x y
within_is bulk sum x y h = cond-true _ _ _ (le-leb (bulk x + bulk y) limit h)

pub past_is : {V : Type 0} (bulk : V → ℕ) (sum : V → V → V) (x y : V) → limit < bulk x + bulk y → within_limit bulk sum x y ≡ x
past_is bulk sum x y h = cond-false _ _ _ (lt-leb (bulk x + bulk y) limit h)

-- what a kind of ratios is: its parts and wholes add up, and tell its elements apart
pub record Adds {V : Type 0} (part whole bulk : V → ℕ) (sum : V → V → V) : Type 0 where
  pub some : (x : V) → 0 < whole x
  pub part_sum : (x y : V) → part (sum x y) ≡ part x + part y
  pub whole_sum : (x y : V) → whole (sum x y) ≡ whole x + whole y
  pub bulk_sum : (x y : V) → bulk (sum x y) ≡ bulk x + bulk y
  pub same : (x y : V) → part x ≡ part y → whole x ≡ whole y → x ≡ y

module _ {V : Type 0} {part whole bulk : V → ℕ} {sum : V → V → V} (adds : Adds part whole bulk sum) where
  joined_is : (x y : V) → bulk x + bulk y ≤ limit → within_limit bulk sum x y ≡ sum x y
  joined_is = within_is bulk sum

  sum_assoc : (x y z : V) → sum (sum x y) z ≡ sum x (sum y z)
  sum_assoc x y z =
      adds.same _ _
      (omega (arith, adds.part_sum (sum x y) z, adds.part_sum x y, adds.part_sum x (sum y z), adds.part_sum y z))
      (omega (arith, adds.whole_sum (sum x y) z, adds.whole_sum x y, adds.whole_sum x (sum y z), adds.whole_sum y z))

  pub ratio_commutes : Commutes (within_limit bulk sum) bulk
  ratio_commutes x y h =
      joined_is x y h
      ∙ adds.same _ _ (omega (arith, adds.part_sum x y, adds.part_sum y x)) (omega (arith, adds.whole_sum x y, adds.whole_sum y x))
      ∙ sym (joined_is y x (omega arith))

  pub ratio_laws : Laws (ratio_leq part whole) (within_limit bulk sum) bulk
  ratio_laws = record {
    total = λ x y h. le-leb _ _ (omega (arith, leb-false _ _ h));
    trans = λ x y z h k. le-leb _ _ (chain (part x) (whole x) (part y) (whole y) (part z) (whole z) (adds.some y) (leb-true _ _ h) (leb-true _ _ k));
    assoc = λ x y z h.
        let xy = joined_is x y (omega arith) in
        let yz = joined_is y z (omega arith) in
        let l = joined_is (sum x y) z (omega (arith, adds.bulk_sum x y)) in
        let r = joined_is x (sum y z) (omega (arith, adds.bulk_sum y z)) in
        ap (λ (w : V). within_limit bulk sum w z) xy ∙ l ∙ sum_assoc x y z ∙ sym r ∙ ap (λ (w : V). within_limit bulk sum x w) (sym yz);
    between_up = λ x y h k.
        let d = leb-false _ _ k in
        rw (joined_is x y h) (
          lt-leb _ _ (rw (adds.part_sum x y, adds.whole_sum x y, mul-add, add-mul) (omega arith)),
          lt-leb _ _ (rw (adds.part_sum x y, adds.whole_sum x y, mul-add, add-mul) (omega arith)),
        );
    between_down = λ x y h k.
        let d = leb-false _ _ k in
        rw (joined_is x y h) (
          lt-leb _ _ (rw (adds.part_sum x y, adds.whole_sum x y, mul-add, add-mul) (omega arith)),
          lt-leb _ _ (rw (adds.part_sum x y, adds.whole_sum x y, mul-add, add-mul) (omega arith)),
        );
    equal = λ x y h k l.
        let d = leb-true _ _ k in
        let e = leb-true _ _ l in
        rw (joined_is x y h) (
          le-leb _ _ (rw (adds.part_sum x y, adds.whole_sum x y, mul-add, add-mul) (omega arith)),
          le-leb _ _ (rw (adds.part_sum x y, adds.whole_sum x y, mul-add, add-mul) (omega arith)),
        );
    bulk_within = λ x y h. rw (joined_is x y h) (omega (arith, adds.bulk_sum x y));
    past_limit = past_is bulk sum;
  }

-- an element, for the turned order
abbrev turn : {V : Type 0} → V → Turned V
turn v = record { 0 = v }

-- a kind in the turned order keeps the laws: they are those of its elements, turned
pub unturned_laws : {V : Type 0} {leq : V → V → Bool} {joined : V → V → V} {bulk : V → ℕ} → Laws leq joined bulk → Laws (turned_leq leq) (turned_joined joined) (turned_bulk bulk)
unturned_laws laws =
    let of = turned_laws laws in
    record {
      total = λ x y. of.total (unturned x) (unturned y);
      trans = λ x y z. of.trans (unturned x) (unturned y) (unturned z);
      assoc = λ x y z h. ap turn (of.assoc (unturned x) (unturned y) (unturned z) h);
      between_up = λ x y. of.between_up (unturned x) (unturned y);
      between_down = λ x y. of.between_down (unturned x) (unturned y);
      equal = λ x y. of.equal (unturned x) (unturned y);
      bulk_within = λ x y. of.bulk_within (unturned x) (unturned y);
      past_limit = λ x y h. ap turn (of.past_limit (unturned x) (unturned y) h);
    }
