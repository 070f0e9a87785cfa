-- A pass over the pieces of a side, and the turning gap with the greatest score.
use Rattle.std.proofs.Common.{◌≡◌, ◌⊎◌, ℕ, ◌+◌, ◌-◌, ◌*◌, ◌<◌, ◌≤◌, List, length, get_or, set, ℤ, pos, ◌+ℤ◌, ◌≤ℤ◌, ◌<ℤ◌, sym, ap, ◌∙◌, subst, inl, inr, arith, get_or-set_other, get_or-set_same, w64, SFits, to_z, of_z}
use Rattle.std.proofs.lemmas.Int.{ints}
use Rattle.std.proofs.lemmas.Bool.{cases_lt}
use Rattle.pooling.specs.Scores.{Within}
use Rattle.pooling.proofs.Summed.{score_bound}
use Rattle.curves.specs.Curves.{best_gap}
use Rattle.curves.proofs.Best.{gap_is_best}

-- ---- sums of scores in 64 bits

-- a score is kept
pub kept_is : (a : ℤ) → Within score_bound a → to_z w64 (of_z w64 a) ≡ a
kept_is a (p, p') = omega (arith, ints)

-- the difference of two scores
abbrev pub Apart : ℤ → Type 0
Apart d = Within (2 * score_bound) d

pub apart : (a b d : ℤ) → Within score_bound a → Within score_bound b → a ≡ b +ℤ d → Apart d
apart a b d (p, p') (q, q') e = (omega (arith, ints), omega (arith, ints))

-- it can be added to one score or to two
pub both_fit : (a d : ℤ) → Within score_bound a → Apart d → SFits w64 (to_z w64 (of_z w64 a) +ℤ to_z w64 (of_z w64 d))
both_fit a d (p, p') (q, q') = omega (arith, ints)

pub both_are : (a d : ℤ) → Within score_bound a → Apart d → to_z w64 (of_z w64 (to_z w64 (of_z w64 a) +ℤ to_z w64 (of_z w64 d))) ≡ a +ℤ d
both_are a d (p, p') (q, q') = omega (arith, ints)

pub three_fit : (a b d : ℤ) → Within score_bound a → Within score_bound b → Apart d → SFits w64 (to_z w64 (of_z w64 a) +ℤ to_z w64 (of_z w64 (to_z w64 (of_z w64 b) +ℤ to_z w64 (of_z w64 d))))
three_fit a b d (p, p') (q, q') (r, r') = omega (arith, ints)

pub three_are : (a b d : ℤ) → Within score_bound a → Within score_bound b → Apart d
    → to_z w64 (of_z w64 (to_z w64 (of_z w64 a) +ℤ to_z w64 (of_z w64 (to_z w64 (of_z w64 b) +ℤ to_z w64 (of_z w64 d))))) ≡ a +ℤ (b +ℤ d)
three_are a b d (p, p') (q, q') (r, r') = omega (arith, ints)

-- a row of values of f, with one more
pub row_more : (row : List ℤ) (f : ℕ → ℤ) (i : ℕ) (v : ℤ) → i < length row → ((j : ℕ) → j < i → get_or row j (pos 0) ≡ f j) → v ≡ f i → (j : ℕ) → j ≤ i → get_or (set row i v) j (pos 0) ≡ f j
row_more row f i v room known is j h =
    elim (cases_lt j i) [
      | inl l ↦ get_or-set_other row i j v (pos 0) (omega arith) ∙ known j l
      | inr l ↦ subst (λ (k : ℕ). get_or (set row i v) k (pos 0) ≡ f k) (same l) (get_or-set_same row i v (pos 0) room ∙ is)
    ]
  where
    same : i ≤ j → i ≡ j
    same l = omega arith

-- ---- the greatest score

-- t is the earliest of lo .. n at which f is greatest among them, and s is its value there
pub record Greatest (f : ℕ → ℤ) (lo n t : ℕ) (s : ℤ) : Type 0 where
  pub from : lo ≤ t
  pub to : t ≤ n
  pub value : s ≡ f t
  pub greatest : (k : ℕ) → lo ≤ k → k ≤ n → f k ≤ℤ s
  pub earliest : (k : ℕ) → lo ≤ k → k < t → f k <ℤ s

same_place : (lo k : ℕ) → lo ≤ k → k ≤ lo → lo ≡ k
same_place lo k l g = omega arith

-- one place before them is as great, and is taken
taken : (f : ℕ → ℤ) (lo n t : ℕ) (s v : ℤ) → lo < n → Greatest f (lo + 1) n t s → v ≡ f lo → s ≤ℤ v → Greatest f lo n lo v
taken f lo n t s v p best e h = record {
  from = omega arith;
  to = omega arith;
  value = e;
  greatest = λ k l r.
      elim (cases_lt lo k) [
        | inl g ↦ omega (arith, ints, best.greatest k (omega arith) r, h)
        | inr g ↦ subst (λ (i : ℕ). f i ≤ℤ v) (same_place lo k l g) (omega (arith, ints, e))
      ];
  earliest = λ k l r. absurd (omega arith);
}

-- or is less, and is passed over
kept : (f : ℕ → ℤ) (lo n t : ℕ) (s v : ℤ) → Greatest f (lo + 1) n t s → v ≡ f lo → v <ℤ s → Greatest f lo n t s
kept f lo n t s v best e h = record {
  from = omega (arith, best.from);
  to = best.to;
  value = best.value;
  greatest = λ k l r.
      elim (cases_lt lo k) [
        | inl g ↦ best.greatest k (omega arith) r
        | inr g ↦ subst (λ (i : ℕ). f i ≤ℤ s) (same_place lo k l g) (omega (arith, ints, e, h))
      ];
  earliest = λ k l r.
      elim (cases_lt lo k) [
        | inl g ↦ best.earliest k (omega arith) r
        | inr g ↦ subst (λ (i : ℕ). f i <ℤ s) (same_place lo k l g) (omega (arith, ints, e, h))
      ];
}

-- the earliest of 0 to k with the greatest score is the best gap, which is counted from 1
pub greatest_is_best : (f : ℕ → ℤ) (k t : ℕ) (s : ℤ) → Greatest f 0 k t s → t + 1 ≡ best_gap (λ j. f (j - 1)) k
greatest_is_best f k t s g =
    let b = gap_is_best (λ j. f (j - 1)) k in
    let own : t + 1 - 1 ≡ t = omega arith in
    elim (cases_lt (t + 1) (best_gap (λ j. f (j - 1)) k)) [
      | inl l ↦ absurd (omega (arith, ints, b.3 (t + 1) (omega arith) l, ap f own, g.value, g.greatest (best_gap (λ j. f (j - 1)) k - 1) (omega arith) (omega (arith, b.1))))
      | inr l ↦ elim (cases_lt (best_gap (λ j. f (j - 1)) k) (t + 1)) [
        | inl m ↦ absurd (omega (arith, ints, b.2 (t + 1) (omega arith) (omega (arith, g.to)), ap f own, g.value, g.earliest (best_gap (λ j. f (j - 1)) k - 1) (omega arith) (omega (arith, b.0))))
        | inr m ↦ omega arith
      ]
    ]

-- ---- the pass from the right

-- Of k pieces, `done` are in, from the right; f has the scores of the fronts, which the places still ahead of the pass hold. The others hold the scores of the backs, which b has.
pub record Passed (k : ℕ) (f b : ℕ → ℤ) (row : List ℤ) (done t : ℕ) (s : ℤ) : Type 0 where
  pub backs : (j : ℕ) → j ≤ done → get_or row (k - j) (pos 0) ≡ b j
  pub ahead : (j : ℕ) → j + done < k → get_or row j (pos 0) ≡ f j
  pub best : Greatest (λ i. f i +ℤ b (k - i)) (k - done) k t s

module _ (k : ℕ) (f b : ℕ → ℤ) where
  abbrev sum : ℕ → ℤ
  sum i = f i +ℤ b (k - i)

  pub pass_start : (row : List ℤ) (s : ℤ) → b 0 ≡ pos 0 → k < length row → ((j : ℕ) → j ≤ k → get_or row j (pos 0) ≡ f j) → s ≡ get_or row k (pos 0) → Passed k f b (set row k (pos 0)) 0 k s
  pass_start row s first room known e = record {
    backs = λ j h.
        subst (λ (i : ℕ). get_or (set row k (pos 0)) (k - i) (pos 0) ≡ b i) (same_place 0 j (omega arith) h)
        (ap (λ (i : ℕ). get_or (set row k (pos 0)) i (pos 0)) all ∙ get_or-set_same row k (pos 0) (pos 0) room ∙ sym first);
    ahead = λ j h. get_or-set_other row k j (pos 0) (pos 0) (omega arith) ∙ known j (omega arith);
    best = record {
      from = omega arith;
      to = omega arith;
      value = value;
      greatest = λ i l r. subst (λ (j : ℕ). sum j ≤ℤ s) (same_place k i (omega arith) r) (omega (arith, ints, value));
      earliest = λ i l r. absurd (omega arith);
    };
  }
    where
      all : k - 0 ≡ k
      all = omega arith

      none : k - k ≡ 0
      none = omega arith

      value : s ≡ sum k
      value = omega (arith, ints, e, known k (omega arith), ap b none, first)

  pub pass_more : (row : List ℤ) (done t t' : ℕ) (s s' v w : ℤ) → done < k → k < length row → Passed k f b row done t s → v ≡ b (done + 1) → w ≡ get_or row (k - 1 - done) (pos 0) +ℤ v
      → ((s ≤ℤ w) × (t' ≡ k - 1 - done) × (s' ≡ w)) ⊎ ((w <ℤ s) × (t' ≡ t) × (s' ≡ s)) → Passed k f b (set row (k - 1 - done) v) (done + 1) t' s'
  pass_more row done t t' s s' v w p room was is total chosen = record {
    backs = λ j l.
        elim (cases_lt done j) [
          | inl g ↦
              subst (λ (i : ℕ). get_or (set row (k - 1 - done) v) (k - i) (pos 0) ≡ b i) (same_place (done + 1) j (omega arith) l)
              (ap (λ (i : ℕ). get_or (set row (k - 1 - done) v) i (pos 0)) (sym here) ∙ get_or-set_same row (k - 1 - done) v (pos 0) (omega arith) ∙ is)
          | inr g ↦ get_or-set_other row (k - 1 - done) (k - j) v (pos 0) (omega arith) ∙ was.backs j g
        ];
    ahead = λ j l. get_or-set_other row (k - 1 - done) j v (pos 0) (omega arith) ∙ was.ahead j (omega arith);
    best =
        elim chosen [
          | inl (le, there, e) ↦
              subst (λ (i : ℕ). Greatest sum (k - (done + 1)) k i s') (sym (there ∙ here))
              (subst (Greatest sum (k - (done + 1)) k (k - (done + 1))) (sym e) (taken sum (k - (done + 1)) k t s w (omega arith) before value le))
          | inr (lt, there, e) ↦
              subst (λ (i : ℕ). Greatest sum (k - (done + 1)) k i s') (sym there) (subst (Greatest sum (k - (done + 1)) k t) (sym e) (kept sum (k - (done + 1)) k t s w before value lt))
        ];
  }
    where
      here : k - 1 - done ≡ k - (done + 1)
      here = omega arith

      next : k - done ≡ k - (done + 1) + 1
      next = omega arith

      back : k - (k - (done + 1)) ≡ done + 1
      back = omega arith

      before : Greatest sum (k - (done + 1) + 1) k t s
      before = subst (λ (i : ℕ). Greatest sum i k t s) next was.best

      value : w ≡ sum (k - (done + 1))
      value = omega (arith, ints, total, was.ahead (k - 1 - done) (omega arith), ap f here, is, ap b back)

  pub pass_end : (row : List ℤ) (done t : ℕ) (s : ℤ) → k ≤ done → Passed k f b row done t s → t + 1 ≡ best_gap (λ j. sum (j - 1)) k
  pass_end row done t s h was = greatest_is_best sum k t s (subst (λ (i : ℕ). Greatest sum i k t s) none was.best)
    where
      none : k - done ≡ 0
      none = omega arith
