-- A list read backwards: its falling stack is the rising fit, counted from the other end.
use Rattle.std.proofs.Common.{◌≡◌, ℕ, suc, ◌+◌, ◌-◌, ◌<◌, ◌≤◌, Bool, true, List, [], ◌∷◌, map, reverse, length, take, drop, sum_by, sym, refl, ap, ◌∙◌, subst, arith}
use mathlib.Core.List.{reverse_aux}
use Rattle.std.proofs.lemmas.List.{take_at, drop_at, take-append-drop, drop-take, length-take-le, length-drop, length-reverse, reverse-append, reverse-reverse}
use Rattle.std.proofs.lemmas.List.Sums.{sum_by-cons, sum_by_push, sum_by-take-le, sum_by-take-drop}
use Rattle.isotonic.specs.declared.blocks.Block.{Block}
use Rattle.isotonic.specs.Laws.{Laws, limit, Commutes}
use Rattle.isotonic.specs.MaxMin.{pooled, run, rising_blocks}
use Rattle.isotonic.specs.Theorems.{turned, RisingMirrors}
use Rattle.isotonic.proofs.Towers.{Solid, Stands, Above, Tower}
use Rattle.isotonic.specs.Stacks.{stacked_on, stacked, mirrored}
use Rattle.isotonic.proofs.Falling.{turned_laws, falling_turns}
use Rattle.isotonic.proofs.Pieces.{bulk_pooled, pooled_append, tower_blocks}
use Rattle.isotonic.proofs.Pushed.{stack_tower, stacked_fits}

-- the first m of a list read backwards are its last m, read backwards
pub take_reverse : {X : Type 0} (xs : List X) (m : ℕ) → m ≤ length xs → take m (reverse xs) ≡ reverse (drop (length xs - m) xs)
take_reverse xs m h =
    ap (λ ys. take m (reverse ys)) (sym (take-append-drop (length xs - m) xs))
    ∙ ap (take m) (reverse-append (take (length xs - m) xs) (drop (length xs - m) xs))
    ∙ take_at (reverse (drop (length xs - m) xs)) (reverse (take (length xs - m) xs)) m long
  where
    long : length (reverse (drop (length xs - m) xs)) ≡ m
    long = length-reverse (drop (length xs - m) xs) ∙ length-drop (length xs - m) xs ∙ rest
      where
        rest : length xs - (length xs - m) ≡ m
        rest = omega arith

pub drop_reverse : {X : Type 0} (xs : List X) (m : ℕ) → m ≤ length xs → drop m (reverse xs) ≡ reverse (take (length xs - m) xs)
drop_reverse xs m h =
    ap (λ ys. drop m (reverse ys)) (sym (take-append-drop (length xs - m) xs))
    ∙ ap (drop m) (reverse-append (take (length xs - m) xs) (drop (length xs - m) xs))
    ∙ drop_at (reverse (drop (length xs - m) xs)) (reverse (take (length xs - m) xs)) m long
  where
    long : length (reverse (drop (length xs - m) xs)) ≡ m
    long = length-reverse (drop (length xs - m) xs) ∙ length-drop (length xs - m) xs ∙ rest
      where
        rest : length xs - (length xs - m) ≡ m
        rest = omega arith

-- the part from a on and before b of a list read backwards
part_reverse : {X : Type 0} (xs : List X) (a b : ℕ) → a < b → b ≤ length xs → take (b - a) (drop a (reverse xs)) ≡ reverse (take (b - a) (drop (length xs - b) xs))
part_reverse xs a b p q =
    ap (take (b - a)) (drop_reverse xs a (omega arith))
    ∙ take_reverse (take (length xs - a) xs) (b - a) (rw long (omega arith))
    ∙ ap (λ k. reverse (drop (k - (b - a)) (take (length xs - a) xs))) long
    ∙ ap (λ k. reverse (drop k (take (length xs - a) xs))) start
    ∙ ap (λ k. reverse (drop (length xs - b) (take k xs))) whole
    ∙ ap reverse (drop-take (length xs - b) (b - a) xs)
  where
    long : length (take (length xs - a) xs) ≡ length xs - a
    long = length-take-le (length xs - a) xs (omega arith)

    start : length xs - a - (b - a) ≡ length xs - b
    start = omega arith

    whole : length xs - a ≡ (length xs - b) + (b - a)
    whole = omega arith

pub sumBy_reverse : {X : Type 0} (f : X → ℕ) (xs : List X) → sum_by f (reverse xs) ≡ sum_by f xs
sumBy_reverse f [] = refl
sumBy_reverse f (x ∷ xs) =
    ap (sum_by f) (reverse-append (x ∷ []) xs) ∙ sum_by_push f (reverse xs) x
    ∙ (let e : sum_by f (reverse xs) + f x ≡ sum_by f (x ∷ xs) = omega (arith, sumBy_reverse f xs, sum_by-cons f x xs) in e)

module _ {V : Type 0} {leq : V → V → Bool} {joined : V → V → V} {bulk : V → ℕ} (laws : Laws leq joined bulk) (commutes : Commutes joined bulk) where
  -- a list read backwards pools to the same
  pub pooled_reverse : (d : V) (xs : List V) → sum_by bulk xs ≤ limit → pooled joined d (reverse xs) ≡ pooled joined d xs
  pooled_reverse d [] h = refl
  pooled_reverse d (x ∷ []) h = refl
  pooled_reverse d (x ∷ y ∷ ys) h =
      ap (pooled joined d) (reverse-append (x ∷ []) (y ∷ ys))
      ∙ pooled_append laws d (reverse (y ∷ ys)) (x ∷ []) (rw (length-reverse (y ∷ ys)) (omega arith)) (omega arith)
      (omega (arith, sumBy_reverse bulk (y ∷ ys), sum_by-cons bulk x (y ∷ ys), sum_by-cons bulk x []))
      ∙ ap (λ (v : V). joined v x) (pooled_reverse d (y ∷ ys) (omega (arith, sum_by-cons bulk x (y ∷ ys))))
      ∙ commutes (pooled joined d (y ∷ ys)) x (omega (arith, bulk_pooled laws d (y ∷ ys) (omega arith), sum_by-cons bulk x (y ∷ ys)))

  module _ (xs : List V) (light : sum_by bulk xs ≤ limit) (d : V) where
    abbrev over : ℕ → ℕ → V
    over = run joined d xs

    abbrev back : ℕ → ℕ → V
    back = run joined d (reverse xs)

    abbrev n : ℕ
    n = length xs

    pub run_reverse : (a b : ℕ) → a < b → b ≤ n → back a b ≡ over (n - b) (n - a)
    run_reverse a b p q =
        ap (pooled joined d) (part_reverse xs a b p q)
        ∙ pooled_reverse d (take (b - a) (drop (n - b) xs)) (omega (arith, sum_by-take-le bulk (drop (n - b) xs) (b - a), sum_by-take-drop bulk xs (n - b)))
        ∙ ap (λ (k : ℕ). pooled joined d (take k (drop (n - b) xs))) size
      where
        size : b - a ≡ n - a - (n - b)
        size = omega arith

    mirror_solid : (s e : ℕ) → s < e → e ≤ n → Solid (turned leq) back s e → Solid leq over (n - e) (n - s)
    mirror_solid s e p q solid k g l =
        subst (λ (v : V). leq v (over (n - e) k) ≡ true) (run_reverse s (n - k) (omega arith) (omega arith) ∙ ap (λ (j : ℕ). over j (n - s)) there)
        (subst (λ (v : V). leq (back s (n - k)) v ≡ true) (run_reverse (n - k) e (omega arith) q ∙ ap (λ (j : ℕ). over (n - e) j) there)
        (solid (n - k) (omega arith) (omega arith)))
      where
        there : n - (n - k) ≡ k
        there = omega arith

    mirror_stands : (b : Block V) (hi : ℕ) → hi ≤ n → Stands (turned leq) back b hi → Stands leq over (mirrored n b) (n - b.first)
    mirror_stands b hi q st =
        let e = st.ends in
        let s = st.some in
        let f : n - hi ≡ n - suc b.last = omega arith in
        record {
          some = omega arith;
          ends = omega arith;
          is = st.is ∙ run_reverse b.first hi s q ∙ ap (λ (j : ℕ). over j (n - b.first)) f;
          solid = subst (λ (j : ℕ). Solid leq over j (n - b.first)) f (mirror_solid b.first hi s q st.solid);
        }

    -- what has been laid down lies strictly under the next
    abbrev Onto : List (Block V) → List (Block V) → Type 0
    Onto [] done = Unit {0}
    Onto (b ∷ bs) done = Above leq over b.element done

    onto_next : (b : Block V) (bs done : List (Block V)) → Above (turned leq) back b.element bs → Onto bs (mirrored n b ∷ done)
    onto_next b [] done h = tt
    onto_next b (c ∷ cs) done h = h

    mirror_tower : (bs : List (Block V)) (hi : ℕ) (done : List (Block V)) → hi ≤ n → Tower (turned leq) back hi bs → Onto bs done → Tower leq over (n - hi) done → Tower leq over n (reverse_aux (map (mirrored n) bs) done)
    mirror_tower [] hi done q t on low = subst (λ (k : ℕ). Tower leq over k done) all low
      where
        all : n - hi ≡ n
        all = omega (arith, t)
    mirror_tower (b ∷ bs) hi done q t on low =
        let e = t.0.ends in
        let s = t.0.some in
        let f : n - hi ≡ n - suc b.last = omega arith in
        mirror_tower bs b.first (mirrored n b ∷ done) (omega arith) t.2 (onto_next b bs done t.1)
        (mirror_stands b hi q t.0, on, subst (λ (k : ℕ). Tower leq over k done) f low)

    onto_none : (bs : List (Block V)) → Onto bs []
    onto_none [] = tt
    onto_none (b ∷ bs) = tt

    whole_tower : (bs : List (Block V)) → Tower (turned leq) back n bs → Tower leq over n (reverse (map (mirrored n) bs))
    whole_tower bs t = mirror_tower bs n [] (omega arith) t (onto_none bs) none
      where
        none : n - n ≡ 0
        none = omega arith

  -- the falling stack of the list read backwards, from the top, is the rising fit counted from the other end
  pub mirror_fits : (xs : List V) → sum_by bulk xs ≤ limit → map (mirrored (length xs)) (stacked (turned leq) joined (reverse xs)) ≡ rising_blocks leq joined xs
  unfolding rising_blocks stacked_on
  mirror_fits [] light = refl
  mirror_fits (x ∷ xs) light =
      let s = stacked (turned leq) joined (reverse (x ∷ xs)) in
      let held = stack_tower (turned_laws laws) (reverse (x ∷ xs)) (omega (arith, sumBy_reverse bulk (x ∷ xs))) x in
      sym (reverse-reverse (map (mirrored (length (x ∷ xs))) s))
      ∙ tower_blocks laws (x ∷ xs) (reverse (map (mirrored (length (x ∷ xs))) s)) (omega arith) light
      (λ d. whole_tower (x ∷ xs) light d s (subst (λ (k : ℕ). Tower (turned leq) (run joined d (reverse (x ∷ xs))) k s) (length-reverse (x ∷ xs)) (held d)))

map_onto : {X Y : Type 0} (f : X → Y) (xs ys : List X) → map f (reverse_aux xs ys) ≡ reverse_aux (map f xs) (map f ys)
map_onto f [] ys = refl
map_onto f (x ∷ xs) ys = map_onto f xs (x ∷ ys)

pub rising_mirrors : {V : Type 0} {leq : V → V → Bool} {joined : V → V → V} {bulk : V → ℕ} → Laws leq joined bulk → RisingMirrors leq joined bulk
rising_mirrors {leq = leq} {joined = joined} {bulk = bulk} laws commutes xs light =
    let s = stacked (turned leq) joined (reverse xs) in
    let back : sum_by bulk (reverse xs) ≤ limit = omega (arith, sumBy_reverse bulk xs) in
    sym (mirror_fits laws commutes xs light)
    ∙ ap (map (mirrored (length xs))) (sym (reverse-reverse s))
    ∙ map_onto (mirrored (length xs)) (reverse s) []
    ∙ ap (λ bs. reverse (map (mirrored (length xs)) bs)) (stacked_fits (turned_laws laws) (reverse xs) back ∙ sym (falling_turns laws (reverse xs) back))
