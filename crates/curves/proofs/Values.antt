-- The blocks of a fit tile its pieces, have the max-min values, and move strictly in its direction.
use Rattle.std.proofs.Common.{◌≡◌, ℕ, suc, ◌*◌, ◌<◌, ◌≤◌, true, false, List, [], ◌∷◌, map, length, sum_by, sym, refl, subst, inl, inr, arith}
use Rattle.std.specs.List.{AllByRecursion}
use Rattle.std.proofs.lemmas.Bool.{cases_Bool, and_parts, and_from, leb-false}
use Rattle.arith.specs.Rivals.{Piece, Direction, falling, rising, Next, Chain}
use Rattle.isotonic.specs.declared.blocks.Block.{Block}
use Rattle.isotonic.specs.Laws.{limit}
use Rattle.isotonic.specs.MaxMin as fits
use Rattle.isotonic.specs.MaxMin.{run, level, rising_blocks, falling_blocks}
use Rattle.isotonic.specs.Theorems.{turned, BelowNext, Tiles}
use Rattle.isotonic.proofs.Agree.{rules_agree, blocks_tile}
use Rattle.isotonic.proofs.Falling.{falling_is}
use Rattle.pooling.specs.Kinds.{rate_part, rate_whole, rate_leq, rate_joined, rate_bulk}
use Rattle.pooling.specs.declared.rates.Rate.{Rate}
use Rattle.curves.specs.Pieces.{rate_of}
use Rattle.curves.specs.Theorems.{Above, HasValues}
use Rattle.curves.proofs.Parts.{rate_laws, order, order_laws, fit, fit_rises, weight, Exposed, rates_light}

-- the max-min value at a piece
abbrev pub value : Direction → (ℕ → ℕ → Rate) → ℕ → ℕ → Rate
value rising over n = fits.rising rate_leq over n
value falling over n = fits.falling rate_leq over n

level_self : (x : Rate) → level rate_leq x x ≡ true
level_self x = let e : rate_leq x x ≡ true = elim (cases_Bool (rate_leq x x)) [ inl t ↦ t | inr f ↦ rate_laws.total x x f ] in and_from _ _ e e

-- what is level with the same is level
level_both : (direction : Direction) (x y z : Rate) → level (order direction) x y ≡ true → level (order direction) x z ≡ true → level rate_leq y z ≡ true
level_both rising x y z h k =
    let a = and_parts (rate_leq x y) (rate_leq y x) h in
    let b = and_parts (rate_leq x z) (rate_leq z x) k in
    and_from _ _ (rate_laws.trans y x z a.1 b.0) (rate_laws.trans z x y b.1 a.0)
level_both falling x y z h k =
    let a = and_parts (rate_leq y x) (rate_leq x y) h in
    let b = and_parts (rate_leq z x) (rate_leq x z) k in
    and_from _ _ (rate_laws.trans y x z a.0 b.1) (rate_laws.trans z x y b.0 a.1)

module _ (xs : List Rate) (light : sum_by rate_bulk xs ≤ limit) (d : Rate) where
  -- the rising fit in the order of the direction has the max-min values
  agrees : (direction : Direction) (i : ℕ) → i < length xs
      → level (order direction) (fits.rising (order direction) (run rate_joined d xs) (length xs) i) (value direction (run rate_joined d xs) (length xs) i) ≡ true
  agrees rising i h = level_self (fits.rising rate_leq (run rate_joined d xs) (length xs) i)
  agrees falling i h =
      subst (λ (v : Rate). level (turned rate_leq) (fits.rising (turned rate_leq) (run rate_joined d xs) (length xs) i) v ≡ true) (falling_is rate_leq (run rate_joined d xs) (length xs) i)
      (rules_agree (order_laws falling) xs light d i h)

-- blocks from lo to before hi, none of which overlaps the next or leaves a gap
abbrev pub Tiled : ℕ → List (Block Rate) → ℕ → Type 0
Tiled lo [] hi = lo ≡ hi
Tiled lo (b ∷ bs) hi = (b.first ≡ lo) × Tiled (suc b.last) bs hi

-- from block to block the rate moves strictly in the direction
abbrev pub Moves : Direction → Block Rate → Block Rate → Type 0
Moves falling b c = Above b c
Moves rising b c = Above c b

pub record Laid (direction : Direction) (xs : List Rate) (bs : List (Block Rate)) : Type 0 where
  pub tiled : Tiled 0 bs (length xs)
  pub values : (d : Rate) → AllByRecursion (HasValues (value direction (run rate_joined d xs) (length xs))) bs
  pub moves : Chain (Moves direction) bs

module _ (direction : Direction) (over : ℕ → ℕ → Rate) (n : ℕ) where
  tiles_tiled : (lo : ℕ) (bs : List (Block Rate)) → Tiles (order direction) over n lo bs → Tiled lo bs n
  tiles_tiled lo [] t = t
  tiles_tiled lo (b ∷ bs) t = (t.0, tiles_tiled (suc b.last) bs t.5)

  tiles_values : ((i : ℕ) → i < n → level (order direction) (fits.rising (order direction) over n i) (value direction over n i) ≡ true)
      → (lo : ℕ) (bs : List (Block Rate)) → Tiles (order direction) over n lo bs → (lo ≤ n) × AllByRecursion (HasValues (value direction over n)) bs
  tiles_values agree lo [] t = (omega (arith, t), tt)
  tiles_values agree lo (b ∷ bs) t =
      let rest = tiles_values agree (suc b.last) bs t.5 in
      let r = rest.0 in
      (omega (arith, t.0, t.1), ((λ i p q. level_both direction _ _ _ (agree i (omega arith)) (t.3 i p q)), rest.1))

  moves : (dir : Direction) (x y : Block Rate) → order dir y.element x.element ≡ false → Moves dir x y
  moves rising x y h = leb-false (rate_part y.element * rate_whole x.element) (rate_part x.element * rate_whole y.element) h
  moves falling x y h = leb-false (rate_part x.element * rate_whole y.element) (rate_part y.element * rate_whole x.element) h

  tiles_move : (lo : ℕ) (bs : List (Block Rate)) → Tiles (order direction) over n lo bs → Chain (Moves direction) bs
  tiles_move lo [] t = tt
  tiles_move lo (b ∷ bs) t = (next bs t.4, tiles_move (suc b.last) bs t.5)
    where
      next : (cs : List (Block Rate)) → BelowNext (order direction) over n b cs → Next (Moves direction) b cs
      next [] h = tt
      next (c ∷ cs) h = moves direction b c h

none_fit : (direction : Direction) → fit direction [] ≡ []
unfolding rising_blocks falling_blocks
none_fit falling = refl
none_fit rising = refl

fit_laid : (direction : Direction) (xs : List Rate) → sum_by rate_bulk xs ≤ limit → Laid direction xs (fit direction xs)
fit_laid direction [] light = subst (Laid direction []) (sym (none_fit direction)) (record { tiled = refl; values = λ d. tt; moves = tt })
fit_laid direction (x ∷ xs) light =
    let tiles = blocks_tile (order_laws direction) (x ∷ xs) light (omega arith) in
    subst (Laid direction (x ∷ xs)) (sym (fit_rises direction (x ∷ xs) light)) (record {
      tiled = tiles_tiled direction (run rate_joined x (x ∷ xs)) (length (x ∷ xs)) 0 _ (tiles x);
      values = λ d. (tiles_values direction (run rate_joined d (x ∷ xs)) (length (x ∷ xs)) (agrees (x ∷ xs) light d direction) 0 _ (tiles d)).1;
      moves = tiles_move direction (run rate_joined x (x ∷ xs)) (length (x ∷ xs)) 0 _ (tiles x);
    })

pub pieces_laid : (direction : Direction) (ps : List Piece) → Exposed ps → weight ps ≤ limit → Laid direction (map rate_of ps) (fit direction (map rate_of ps))
pieces_laid direction ps h light = fit_laid direction (map rate_of ps) (rates_light ps h light)
