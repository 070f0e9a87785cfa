-- What a stack holds once pieces are put on it.
use Rattle.std.proofs.Common.{◌≡◌, ℕ, zero, suc, ◌+◌, ◌-◌, ◌<◌, ◌≤◌, Bool, true, false, cond, List, [], ◌∷◌, ◌++◌, reverse, length, get_or, take, sum_by, sym, refl, ap, ◌∙◌, subst, add-one, arith}
use Rattle.std.proofs.lemmas.List.{take_more, take_all, length-take-le, get_or_default, get_or_read, reverse-append}
use Rattle.std.proofs.lemmas.Bool.{cond_both, cond-true, cond-false}
use Rattle.isotonic.specs.declared.blocks.Block.{Block}
use Rattle.isotonic.specs.Laws.{Laws, limit}
use Rattle.isotonic.specs.MaxMin.{run, rising_blocks}
use Rattle.isotonic.specs.Stacks.{merged, lone, pushed, stacked_on, stacked, stack_in}
use Rattle.isotonic.proofs.Towers.{Solid, Above, Tower, Holds}
use Rattle.isotonic.proofs.Means.{solid_one, solid_joined}
use Rattle.isotonic.proofs.Pieces.{run_one, run_joined, means, tower_blocks}

module _ {V : Type 0} (leq : V → V → Bool) (joined : V → V → V) where
  pushed_none : (b : Block V) → pushed leq joined [] b ≡ b ∷ []
  unfolding pushed
  pushed_none b = refl

  pushed_some : (t : Block V) (ts : List (Block V)) (b : Block V) → pushed leq joined (t ∷ ts) b ≡ cond (leq b.element t.element) (pushed leq joined ts (merged joined t b)) (b ∷ t ∷ ts)
  unfolding pushed
  pushed_some t ts b = refl

  stacked_push : (bs : List (Block V)) (i : ℕ) (xs : List V) (x : V) → stacked_on leq joined bs i (xs ++ (x ∷ [])) ≡ pushed leq joined (stacked_on leq joined bs i xs) (lone (i + length xs) x)
  unfolding stacked_on
  stacked_push bs i [] x = ap (λ (k : ℕ). pushed leq joined bs (lone k x)) none
    where
      none : i ≡ i + 0
      none = omega arith
  stacked_push bs i (y ∷ ys) x =
      stacked_push (pushed leq joined bs (lone i y)) (suc i) ys x
      ∙ ap (λ (k : ℕ). pushed leq joined (stacked_on leq joined (pushed leq joined bs (lone i y)) (suc i) ys) (lone k x)) one
    where
      one : suc i + length ys ≡ i + length (y ∷ ys)
      one = omega arith

  pub stacked_none : stacked leq joined [] ≡ []
  unfolding stacked_on
  stacked_none = refl

  -- one more piece
  pub stacked_more : (xs : List V) (i : ℕ) (d : V) → i < length xs → stacked leq joined (take (i + 1) xs) ≡ pushed leq joined (stacked leq joined (take i xs)) (lone i (get_or xs i d))
  stacked_more xs i d h =
      ap (stacked leq joined) (take_more xs i d h) ∙ stacked_push [] 0 (take i xs) (get_or xs i d)
      ∙ ap (λ (k : ℕ). pushed leq joined (stacked leq joined (take i xs)) (lone k (get_or xs i d))) all
    where
      all : 0 + length (take i xs) ≡ i
      all = omega (arith, length-take-le i xs (omega arith))

  -- the height grows by one at most
  pub pushed_height : (bs : List (Block V)) (b : Block V) → length (pushed leq joined bs b) ≤ suc (length bs)
  unfolding pushed
  pushed_height [] b = omega arith
  pushed_height (t ∷ ts) b =
      cond_both (leq b.element t.element) (pushed leq joined ts (merged joined t b)) (b ∷ t ∷ ts) (λ cs. length cs ≤ suc (suc (length ts)))
      (λ _. omega (arith, pushed_height ts (merged joined t b)))
      (λ _. omega arith)

-- while a block is merged with those at the top: it is pooled of its pieces, and solid, and the stack has the pieces before it
record Carry {V : Type 0} (leq : V → V → Bool) (joined : V → V → V) (xs : List V) (bs : List (Block V)) (b : Block V) : Type 0 where
  some : b.first ≤ b.last
  is : (d : V) → b.element ≡ run joined d xs b.first (suc b.last)
  solid : (d : V) → Solid leq (run joined d xs) b.first (suc b.last)
  tower : Holds leq joined xs b.first bs

module _ {V : Type 0} {leq : V → V → Bool} {joined : V → V → V} {bulk : V → ℕ} (laws : Laws leq joined bulk) (xs : List V) (light : sum_by bulk xs ≤ limit) where
  carry_start : (bs : List (Block V)) (i : ℕ) (x : V) → i < length xs → x ≡ get_or xs i x → Holds leq joined xs i bs → Carry leq joined xs bs (lone i x)
  carry_start bs i x h e t = record {
    some = omega arith;
    is = λ d. get_or_read xs i x h e d ∙ sym (run_one laws xs light d i h);
    solid = λ d. solid_one (means laws xs light d) i;
    tower = t;
  }

  carry_merged : (t : Block V) (bs : List (Block V)) (b : Block V) → b.last < length xs → Carry leq joined xs (t ∷ bs) b → leq b.element t.element ≡ true → Carry leq joined xs bs (merged joined t b)
  carry_merged t bs b h c f = record {
    some = omega (arith, (c.tower b.element).0.some, c.some);
    is = λ d. both (c.tower d).0.is (c.is d) ∙ sym (run_joined laws xs light d t.first b.first (suc b.last) (c.tower d).0.some (omega (arith, c.some)) (omega arith));
    solid = λ d. solid_joined (means laws xs light d) t.first b.first (suc b.last) (c.tower d).0.some (omega (arith, c.some)) (omega arith)
        (c.tower d).0.solid (c.solid d) (fall d);
    tower = λ d. (c.tower d).2;
  }
    where
      both : {x y u w : V} → x ≡ y → u ≡ w → joined x u ≡ joined y w
      both p q = λ i. joined (p i) (q i)

      fall : (d : V) → leq (run joined d xs b.first (suc b.last)) (run joined d xs t.first b.first) ≡ true
      fall d =
          subst (λ (w : V). leq w (run joined d xs t.first b.first) ≡ true) (c.is d) (subst (λ (w : V). leq b.element w ≡ true) (c.tower d).0.is f)

  carry_end : (bs : List (Block V)) (b : Block V) (d : V) → Carry leq joined xs bs b → Above leq (run joined d xs) b.element bs → Tower leq (run joined d xs) (suc b.last) (b ∷ bs)
  carry_end bs b d c f = (record { some = omega (arith, c.some); ends = refl; is = c.is d; solid = c.solid d }, f, c.tower d)

  pushed_holds : (bs : List (Block V)) (b : Block V) → b.last < length xs → Carry leq joined xs bs b → Holds leq joined xs (suc b.last) (pushed leq joined bs b)
  unfolding pushed
  pushed_holds [] b h c = λ d. carry_end [] b d c tt
  pushed_holds (t ∷ ts) b h c =
      cond_both (leq b.element t.element) (pushed leq joined ts (merged joined t b)) (b ∷ t ∷ ts) (Holds leq joined xs (suc b.last))
      (λ y. pushed_holds ts (merged joined t b) h (carry_merged t ts b h c y))
      (λ f d. carry_end (t ∷ ts) b d c f)

  stack_holds : (e : V) (k : ℕ) → k ≤ length xs → Holds leq joined xs k (stacked leq joined (take k xs))
  stack_holds e zero h = subst (λ (bs : List (Block V)). Holds leq joined xs 0 bs) (sym (stacked_none leq joined)) (λ d. refl)
  stack_holds e (suc k) h =
      subst (λ (bs : List (Block V)). Holds leq joined xs (suc k) bs) (sym (stacked_more leq joined xs k e (omega arith)) ∙ ap (λ (j : ℕ). stacked leq joined (take j xs)) (add-one k))
      (pushed_holds (stacked leq joined (take k xs)) (lone k (get_or xs k e)) h
      (carry_start (stacked leq joined (take k xs)) k (get_or xs k e) h (get_or_default xs k e (get_or xs k e) h) (stack_holds e k (omega arith))))

  pub stack_tower : (e : V) → Holds leq joined xs (length xs) (stacked leq joined xs)
  stack_tower e =
      subst (λ (ys : List V). Holds leq joined xs (length xs) (stacked leq joined ys)) (take_all (length xs) xs (omega arith)) (stack_holds e (length xs) (omega arith))

-- the stack of all pieces, from the bottom, is the rising fit
pub stacked_fits : {V : Type 0} {leq : V → V → Bool} {joined : V → V → V} {bulk : V → ℕ} → Laws leq joined bulk → (xs : List V) → sum_by bulk xs ≤ limit → reverse (stacked leq joined xs) ≡ rising_blocks leq joined xs
unfolding rising_blocks stacked_on
stacked_fits laws [] light = refl
stacked_fits {leq = leq} {joined = joined} laws (x ∷ xs) light = tower_blocks laws (x ∷ xs) (stacked leq joined (x ∷ xs)) (omega arith) light (stack_tower laws (x ∷ xs) light x)

-- the top of a stack in memory
pub top_is : {X : Type 0} (xs : List X) (h : ℕ) (x : X) → 0 < h → h ≤ length xs → x ≡ get_or xs (h - 1) x → stack_in xs h ≡ x ∷ stack_in xs (h - 1)
top_is xs h x p q e =
    ap (λ k. reverse (take k xs)) whole ∙ ap reverse (take_more xs (h - 1) x (omega arith)) ∙ reverse-append (take (h - 1) xs) _
    ∙ ap (λ y. y ∷ reverse (take (h - 1) xs)) (sym e)
  where
    whole : h ≡ h - 1 + 1
    whole = omega arith

-- a block put on a stack in memory: a turn of the loop, and its two ends
module _ {V : Type 0} (leq : V → V → Bool) (joined : V → V → V) (ms : List (Block V)) (h : ℕ) (b : Block V) where
  module _ (top : Block V) (some : 0 < h) (within : h ≤ length ms) (read : top ≡ get_or ms (h - 1) top) where
    pub push_turn : leq b.element top.element ≡ true → pushed leq joined (stack_in ms h) b ≡ pushed leq joined (stack_in ms (h - 1)) (merged joined top b)
    push_turn t = ap (λ bs. pushed leq joined bs b) (top_is ms h top some within read) ∙ pushed_some leq joined top (stack_in ms (h - 1)) b ∙ cond-true _ _ _ t

    pub push_over : leq b.element top.element ≡ false → pushed leq joined (stack_in ms h) b ≡ b ∷ stack_in ms h
    push_over f =
        ap (λ bs. pushed leq joined bs b) (top_is ms h top some within read) ∙ pushed_some leq joined top (stack_in ms (h - 1)) b ∙ cond-false _ _ _ f
        ∙ ap (λ bs. b ∷ bs) (sym (top_is ms h top some within read))

  pub push_bottom : h ≤ 0 → pushed leq joined (stack_in ms h) b ≡ b ∷ stack_in ms h
  push_bottom p = subst (λ (k : ℕ). pushed leq joined (stack_in ms k) b ≡ b ∷ stack_in ms k) none (pushed_none leq joined b)
    where
      none : 0 ≡ h
      none = omega arith
