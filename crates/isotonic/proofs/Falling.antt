-- The falling fit by its own rule is the rising fit in the turned order.
use Rattle.std.proofs.Common.{◌≡◌, ℕ, zero, suc, ◌+◌, ◌-◌, ◌<◌, ◌≤◌, Bool, true, cond, List, [], ◌∷◌, length, sum_by, sym, refl, ap, ◌∙◌, subst, inl, inr, arith}
use Rattle.std.proofs.lemmas.Bool.{cases_Bool, both_ways, and_from, and_parts}
use Rattle.isotonic.specs.declared.blocks.Block.{Block}
use Rattle.isotonic.specs.Laws.{Laws, limit}
use Rattle.isotonic.specs.MaxMin.{run, least, greatest, greater, lesser, level, rising, min_max, falling, block, in_front, last_blocks, rising_blocks, falling_blocks}
use Rattle.isotonic.specs.Theorems.{turned, FallingTurns}
use Rattle.isotonic.proofs.Agree.{rules_agree}

pub turned_laws : {V : Type 0} {leq : V → V → Bool} {joined : V → V → V} {bulk : V → ℕ} → Laws leq joined bulk → Laws (turned leq) joined bulk
turned_laws laws = record {
  total = λ x y h. laws.total y x h;
  trans = λ x y z h k. laws.trans z y x k h;
  assoc = laws.assoc;
  between_up = laws.between_down;
  between_down = laws.between_up;
  equal = λ x y l h k. let same = laws.equal x y l k h in (same.1, same.0);
  bulk_within = laws.bulk_within;
  past_limit = laws.past_limit;
}

module _ {V : Type 0} (leq : V → V → Bool) where
  least_turned : (f : ℕ → V) (k : ℕ) → least (turned leq) f k ≡ greatest leq f k
  least_turned f zero = refl
  least_turned f (suc k) = ap (λ (z : V). greater leq z (f (suc k))) (least_turned f k)

  greatest_turned : (f : ℕ → V) (k : ℕ) → greatest (turned leq) f k ≡ least leq f k
  greatest_turned f zero = refl
  greatest_turned f (suc k) = ap (λ (z : V). lesser leq z (f (suc k))) (greatest_turned f k)

  -- the falling rule is the min-max rule in the turned order
  pub falling_is : (over : ℕ → ℕ → V) (n i : ℕ) → min_max (turned leq) over n i ≡ falling leq over n i
  falling_is over n i =
      least_turned (λ k. greatest (turned leq) (λ a. over a (suc (i + k))) i) (n - suc i)
      ∙ (λ j. greatest leq (λ k. greatest_turned (λ a. over a (suc (i + k))) i j) (n - suc i))

  module _ (trans : (x y z : V) → leq x y ≡ true → leq y z ≡ true → leq x z ≡ true) where
    level_moves : (x y u w : V) → level leq x u ≡ true → level leq y w ≡ true → level leq x y ≡ true → level leq u w ≡ true
    level_moves x y u w p q r =
        let a = and_parts (leq x u) (leq u x) p in
        let b = and_parts (leq y w) (leq w y) q in
        let c = and_parts (leq x y) (leq y x) r in
        and_from (leq u w) (leq w u) (trans u x w a.1 (trans x y w c.0 b.0)) (trans w y u b.1 (trans y x u c.1 a.0))

level_turns : {V : Type 0} (leq : V → V → Bool) (x y : V) → level leq x y ≡ true → level leq y x ≡ true
level_turns leq x y p = let a = and_parts (leq x y) (leq y x) p in and_from (leq y x) (leq x y) a.1 a.0

same_test : (s t : Bool) → (s ≡ true → t ≡ true) → (t ≡ true → s ≡ true) → s ≡ t
same_test s t f g =
    elim (cases_Bool s) [
      | inl p ↦ p ∙ sym (f p)
      | inr p ↦ elim (cases_Bool t) [
        | inl q ↦ absurd (both_ways s p (g q))
        | inr q ↦ p ∙ sym q
      ]
    ]

module _ {V : Type 0} {leq : V → V → Bool} {joined : V → V → V} {bulk : V → ℕ} (laws : Laws leq joined bulk) (xs : List V) (light : sum_by bulk xs ≤ limit) (d : V) where
  abbrev over : ℕ → ℕ → V
  over = run joined d xs

  abbrev n : ℕ
  n = length xs

  abbrev fall : ℕ → V
  fall = falling leq over n

  abbrev rise : ℕ → V
  rise = rising (turned leq) over n

  -- the fit by the falling rule equals that of the rising rule in the turned order
  agrees : (i : ℕ) → i < n → level leq (fall i) (rise i) ≡ true
  agrees i h = subst (λ (v : V). level leq v (rise i) ≡ true) (falling_is leq over n i) (rules_agree (turned_laws laws) xs light d i h)

  same_level : (i : ℕ) → suc i < n → level leq (fall i) (fall (suc i)) ≡ level (turned leq) (rise i) (rise (suc i))
  same_level i h =
      same_test _ _
      (λ p. level_turns leq _ _ (level_moves leq laws.trans _ _ _ _ (agrees i (omega arith)) (agrees (suc i) h) p))
      (λ p. level_moves leq laws.trans _ _ _ _ (level_turns leq _ _ (agrees i (omega arith))) (level_turns leq _ _ (agrees (suc i) h)) (level_turns (turned leq) _ _ p))

  front_same : (i : ℕ) (bs : List (Block V)) → level leq (fall i) (fall (suc i)) ≡ level (turned leq) (rise i) (rise (suc i)) → in_front leq over fall i bs ≡ in_front (turned leq) over rise i bs
  front_same i [] e = refl
  front_same i (b ∷ bs) e = ap (λ (t : Bool). cond t (block over i b.last ∷ bs) (block over i i ∷ b ∷ bs)) e

  pub blocks_same : (k : ℕ) → k ≤ n → last_blocks leq over fall n k ≡ last_blocks (turned leq) over rise n k
  blocks_same zero h = refl
  blocks_same (suc zero) h = refl
  blocks_same (suc (suc k)) h =
      ap (in_front leq over fall (n - suc (suc k))) (blocks_same (suc k) (omega arith))
      ∙ front_same (n - suc (suc k)) (last_blocks (turned leq) over rise n (suc k)) (same_level (n - suc (suc k)) (omega arith))

pub falling_turns : {V : Type 0} {leq : V → V → Bool} {joined : V → V → V} {bulk : V → ℕ} → Laws leq joined bulk → FallingTurns leq joined bulk
unfolding rising_blocks falling_blocks
falling_turns laws [] light = refl
falling_turns laws (x ∷ xs) light = blocks_same laws (x ∷ xs) light x (length (x ∷ xs)) (omega arith)
