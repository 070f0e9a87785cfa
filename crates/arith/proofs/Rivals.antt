-- No rival is likelier than the fit: proof of specs/Rivals.antt.
use Rattle.std.proofs.Common.{◌≡◌, ℕ, ◌*◌, ◌/◌, ◌^◌, ◌<◌, ◌≤◌, List, [], ◌∷◌, ◌++◌, map, length, take, drop, sym, refl, ap, ◌∙◌, le_of_eq, le_of_suc-le-suc, not-suc-le-zero, mul-le-mul_right, mul_assoc, le_of_mul-le-mul_right, arith, length-append, length-drop}
use mathlib.Core.List.{map-map}
use native.Mathlib.Nat.{one-le-pow}
use Rattle.std.specs.List.{zip, AllByRecursion}
use Rattle.std.proofs.ByRecursion.{All-weaker}
use Rattle.std.proofs.lemmas.List.{take-map}
use Rattle.std.proofs.lemmas.Slice.Zip.{firsts-zip, seconds-zip}
use Rattle.arith.specs.Sums.{total, product}
use Rattle.arith.specs.Fractions.{Fraction, AtMost, whole}
use Rattle.arith.specs.Rivals.{Piece, pooled, Direction, along, Solid, pieces, Chain, Rated, expected_in, expected, rival_product, fit_product, NoRivalIsLikelier}
use Rattle.arith.proofs.Powers.{mul_pow}
use Rattle.arith.proofs.Sums.{total_same, total_map, product_same, product_mul, product_map, product_pow, all_of}
use Rattle.arith.proofs.Chains.{all_left, all_right, all_along, chain_weaker, chain_blocks, along_map, all_unmap, chain_unmap}
use Rattle.arith.proofs.Blocks.{Fronts, Follows, follows, blocks_best}
use Rattle.arith.proofs.Fractions.{Divides, over_common, sum_pos, sum_divides, sum_numerator}

abbrev d : Rated → ℕ
d x = x.0.failures

abbrev t : Rated → ℕ
t x = x.0.exposure

abbrev p : Rated → ℕ
p x = x.1.numerator

abbrev q : Rated → ℕ
q x = x.1.denominator

-- a block of rated pieces, pooled
abbrev pub pooled_rated : List Rated → Piece
pooled_rated b = pooled (map (λ x. x.0) b)

-- the rates fall
abbrev pub Falls : Fraction → Fraction → Type 0
Falls r s = AtMost s r

-- A block has a direction of its own, along which it is solid and its rates fall.
abbrev pub Suits : List Rated → Type 0
Suits b = (direction : Direction) × Solid (along direction (map (λ x. x.0) b)) × Chain (λ x y. Falls x.1 y.1) (along direction b)

-- the rate of x in units of 1 / Q
rate_over : ℕ → Rated → ℕ
rate_over Q x = p x * (Q / q x)

solid_fronts : (a : Rated → ℕ) (xs : List Rated) → Solid (map (λ x. x.0) xs) → Fronts d t a xs
solid_fronts a xs h k =
    rw (take-map (λ (x : Rated). x.0) k xs, total_map (λ (x : Rated). x.0) (λ x. x.failures) (take k xs), total_map (λ (x : Rated). x.0) (λ x. x.exposure) (take k xs), total_map (λ (x : Rated). x.0) (λ x. x.failures) xs, total_map (λ (x : Rated). x.0) (λ x. x.exposure) xs)
    at (h k)

all_follow : (Q : ℕ) (bs : List (List Rated)) → AllByRecursion (λ x. Divides Q (q x)) (pieces bs) → AllByRecursion Suits bs → AllByRecursion (Follows d t (rate_over Q)) bs
unfolding rate_over
all_follow Q [] g h = tt
all_follow Q (b ∷ bs) g h = (
  follows d t (rate_over Q) h.0.0 b
      (solid_fronts (rate_over Q) (along h.0.0 b) (rw (← (along_map (λ (x : Rated). x.0) h.0.0 b)) h.0.1))
      (chain_weaker (λ x. Divides Q (q x)) _ _ (λ x y dx dy l. over_common (p y) (p x) (q x) (q y) Q dx dy l)
      (along h.0.0 b) (all_along _ h.0.0 b (all_left _ b (pieces bs) g)) h.0.2),
  all_follow Q bs (all_right _ b (pieces bs) g) h.1,
)

-- the sums of each block, in a product over blocks
product_pooled : (g : ℕ → ℕ → ℕ) (bs : List (List Rated)) → product (λ b. g (total t b) (total d b)) bs ≡ product (λ x. g x.exposure x.failures) (map pooled_rated bs)
product_pooled g bs =
    product_same _ _ bs (all_of _ (λ (b : List Rated).
    rw (total_map (λ (x : Rated). x.0) (λ x. x.exposure) b, total_map (λ (x : Rated). x.0) (λ x. x.failures) b)) bs)
    ∙ sym (product_map pooled_rated (λ x. g x.exposure x.failures) bs)

-- No rates have a larger product than the blocks, where each block has a direction of its own.
pub no_likelier : (bs : List (List Rated))
    → AllByRecursion (λ x. 0 < q x) (pieces bs)
    → AllByRecursion Suits bs
    → AtMost (expected (pieces bs)) (whole (total d (pieces bs)))
    → AtMost (rival_product (pieces bs)) (fit_product (map pooled_rated bs))
unfolding rate_over
no_likelier bs some suits few =
    rw (← (product_pooled (λ x y. x ^ y) bs), ← (product_pooled (λ x y. y ^ y) bs))
    (conclude (product (λ b. total t b ^ total d b) bs) (product (λ x. p x ^ d x) xs) (product (λ b. total d b ^ total d b) bs) (product (λ x. q x ^ d x) xs)
    (product (λ x. rate_over Q x ^ d x) xs) (Q ^ total d xs)
    (blocks_best d t (rate_over Q) bs Q (all_follow Q bs all_divide suits) total_expected)
    rates (one-le-pow (total d xs) Q (sum_pos expected_in xs some)))
  where
    xs : List Rated
    xs = pieces bs

    Q : ℕ
    Q = (expected xs).denominator

    all_divide : AllByRecursion (λ x. Divides Q (q x)) xs
    all_divide = sum_divides expected_in xs some

    total_expected : total (λ x. rate_over Q x * t x) xs ≤ Q * total d xs
    total_expected =
        let e = sum_numerator expected_in xs some in
        let g = total_same (λ x. rate_over Q x * t x) (λ x. p x * t x * (Q / q x)) (λ x. swap (p x) (Q / q x) (t x)) xs in
        omega arith
      where
        swap : (a b c : ℕ) → a * b * c ≡ a * c * b
        swap a b c = omega arith

    rates : product (λ x. rate_over Q x ^ d x) xs * product (λ x. q x ^ d x) xs ≡ product (λ x. p x ^ d x) xs * Q ^ total d xs
    rates =
        sym (product_mul (λ x. rate_over Q x ^ d x) (λ x. q x ^ d x) xs)
        ∙ product_same _ (λ x. p x ^ d x * Q ^ d x) xs (All-weaker _ _ (λ x f.
        sym (mul_pow (rate_over Q x) (q x) (d x)) ∙ ap (λ z. z ^ d x) (mul_assoc (p x) (Q / q x) (q x) ∙ ap (λ z. p x * z) f.1) ∙ mul_pow (p x) Q (d x)) xs all_divide)
        ∙ product_mul (λ x. p x ^ d x) (λ x. Q ^ d x) xs
        ∙ ap (λ z. product (λ x. p x ^ d x) xs * z) (product_pow Q d xs)

    conclude : (pt pp pd pq pa qn : ℕ) → pt * pa ≤ pd * qn → pa * pq ≡ pp * qn → 0 < qn → pp * pt ≤ pd * pq
    conclude pt pp pd pq pa qn h e pos = le_of_mul-le-mul_right {k = qn} (omega (arith, mul-le-mul_right pq h, ap (λ z. pt * z) e)) pos

-- rates dealt out to blocks, in order
abbrev pub dealt : List (List Piece) → List Fraction → List (List Rated)
dealt [] rs = []
dealt (b ∷ bs) rs = zip b rs ∷ dealt bs (drop (length b) rs)

zipped_append : (xs ys : List Piece) (rs : List Fraction) → zip (xs ++ ys) rs ≡ zip xs rs ++ zip ys (drop (length xs) rs)
zipped_append [] ys rs = refl
zipped_append (x ∷ xs) [] [] = refl
zipped_append (x ∷ xs) (y ∷ ys) [] = refl
zipped_append (x ∷ xs) ys (r ∷ rs) = ap (λ l. (x, r) ∷ l) (zipped_append xs ys rs)

pub pieces_dealt : (bs : List (List Piece)) (rs : List Fraction) → pieces (dealt bs rs) ≡ zip (pieces bs) rs
pieces_dealt [] rs = refl
pieces_dealt (b ∷ bs) rs = ap (λ l. zip b rs ++ l) (pieces_dealt bs (drop (length b) rs)) ∙ sym (zipped_append b (pieces bs) rs)

firsts : (xs : List Piece) (rs : List Fraction) → length xs ≤ length rs → map (λ x. x.0) (zip xs rs) ≡ xs
firsts [] rs h = refl
firsts (x ∷ xs) [] h = absurd (not-suc-le-zero h)
firsts (x ∷ xs) (r ∷ rs) h = ap (λ l. x ∷ l) (firsts xs rs (le_of_suc-le-suc h))

-- without their rates the blocks are as they were
pub dealt_firsts : (bs : List (List Piece)) (rs : List Fraction) → length (pieces bs) ≤ length rs → map (λ b. map (λ x. x.0) b) (dealt bs rs) ≡ bs
dealt_firsts [] rs h = refl
dealt_firsts (b ∷ bs) rs h =
    let e = length-append b (pieces bs) in
    let g = length-drop (length b) rs in
    rw (firsts b rs (omega arith), dealt_firsts bs (drop (length b) rs) (omega arith))

module _ (bs : List (List Piece)) (rs : List Fraction) (each : length rs ≡ length (pieces bs)) where
  pub dealt_pooled : map pooled_rated (dealt bs rs) ≡ map pooled bs
  dealt_pooled = sym (map-map pooled (λ b. map (λ x. x.0) b) (dealt bs rs)) ∙ ap (λ l. map pooled l) (dealt_firsts bs rs (le_of_eq (sym each)))

  pub dealt_some : AllByRecursion (λ r. 0 < r.denominator) rs → AllByRecursion (λ x. 0 < q x) (pieces (dealt bs rs))
  dealt_some h = rw (pieces_dealt bs rs) (all_unmap (λ x. x.1) (λ r. 0 < r.denominator) (zip (pieces bs) rs) (rw (seconds-zip (pieces bs) rs each) h))

  pub dealt_failures : total d (pieces (dealt bs rs)) ≡ (pooled (pieces bs)).failures
  dealt_failures = rw (pieces_dealt bs rs, ← (total_map (λ (x : Rated). x.0) (λ x. x.failures) (zip (pieces bs) rs)), firsts-zip (pieces bs) rs each)

  -- rates that fall along solid blocks suit them
  pub dealt_suits : (direction : Direction) → AllByRecursion (λ b. Solid (along direction b)) bs → Chain Falls (along direction rs) → AllByRecursion Suits (dealt bs rs)
  dealt_suits direction solid falls = both (dealt bs rs)
      (all_unmap (λ b. map (λ x. x.0) b) (λ b. Solid (along direction b)) (dealt bs rs) (rw (dealt_firsts bs rs (le_of_eq (sym each))) solid))
      (chain_blocks (λ x y. Falls x.1 y.1) direction (dealt bs rs)
      (rw (pieces_dealt bs rs) (chain_unmap (λ x. x.1) Falls (along direction z) (rw (← (along_map (λ x. x.1) direction z), seconds-zip (pieces bs) rs each) falls))))
    where
      z : List Rated
      z = zip (pieces bs) rs

      both : (cs : List (List Rated)) → AllByRecursion (λ b. Solid (along direction (map (λ x. x.0) b))) cs → AllByRecursion (λ b. Chain (λ x y. Falls x.1 y.1) (along direction b)) cs → AllByRecursion Suits cs
      both [] f g = tt
      both (c ∷ cs) f g = ((direction, f.0, g.0), both cs f.1 g.1)

pub no_rival_is_likelier : NoRivalIsLikelier
no_rival_is_likelier direction bs rs solid rival =
    rw (pieces_dealt bs rs, dealt_pooled bs rs rival.each)
    at (no_likelier (dealt bs rs)
    (dealt_some bs rs rival.each rival.denominators)
    (dealt_suits bs rs rival.each direction solid rival.monotone)
    (rw (dealt_failures bs rs rival.each, pieces_dealt bs rs) rival.expects_no_more))
