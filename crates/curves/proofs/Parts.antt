-- The blocks of a fit pool parts of the pieces, each of which holds together. By the stack that has the same blocks.
use Rattle.std.proofs.Common.{◌≡◌, ℕ, suc, ◌+◌, ◌*◌, ◌<◌, ◌≤◌, max, Bool, true, List, [], ◌∷◌, ◌++◌, map, reverse, sum_by, sym, refl, ap, ◌∙◌, subst, ap₂, subst₂, arith}
use mathlib.Core.List.{reverse-cons}
use Rattle.std.specs.List.{AllByRecursion}
use Rattle.std.proofs.lemmas.List.{append-nil, append_assoc}
use Rattle.std.proofs.lemmas.List.Sums.{sum_by-cons}
use Rattle.std.proofs.lemmas.Bool.{cond_both, leb-true}
use Rattle.arith.specs.Rivals.{Piece, pooled, Direction, falling, rising, along, Solid, pieces}
use Rattle.arith.proofs.Chains.{all_reverse, reverse_map}
use Rattle.arith.proofs.Sums.{total_append}
use Rattle.isotonic.specs.declared.blocks.Block.{Block}
use Rattle.isotonic.specs.Laws.{Laws, limit}
use Rattle.isotonic.specs.MaxMin.{rising_blocks, falling_blocks}
use Rattle.isotonic.specs.Stacks.{merged, lone, pushed, stacked_on, stacked}
use Rattle.isotonic.specs.Theorems.{turned}
use Rattle.isotonic.proofs.Falling.{turned_laws, falling_turns}
use Rattle.isotonic.proofs.Pushed.{stacked_fits}
use Rattle.pooling.specs.Kinds.{rate_part, rate_whole, rate_leq, rate_sum, rate_joined, rate_bulk}
use Rattle.pooling.specs.declared.rates.Rate.{Rate}
use Rattle.pooling.specs.Laws.{ratio_laws, within_is}
use Rattle.pooling.specs.Same.{rates_add}
use Rattle.curves.specs.Pieces.{rate_of}
use Rattle.curves.proofs.Solids.{Pools, solid_joined, solid_one}

pub rate_laws : Laws rate_leq rate_joined rate_bulk
rate_laws = ratio_laws rates_add

-- a rate, or a block, as a piece
abbrev pub rate_piece : Rate → Piece
rate_piece x = record { failures = rate_part x; exposure = rate_whole x }

abbrev pub block_piece : Block Rate → Piece
block_piece b = rate_piece b.element

-- the order in which a fit rises
abbrev pub order : Direction → Rate → Rate → Bool
order rising = rate_leq
order falling = turned rate_leq

abbrev pub fit : Direction → List Rate → List (Block Rate)
fit rising xs = rising_blocks rate_leq rate_joined xs
fit falling xs = falling_blocks rate_leq rate_joined xs

pub order_laws : (direction : Direction) → Laws (order direction) rate_joined rate_bulk
order_laws rising = rate_laws
order_laws falling = turned_laws rate_laws

pub fit_rises : (direction : Direction) (xs : List Rate) → sum_by rate_bulk xs ≤ limit → fit direction xs ≡ rising_blocks (order direction) rate_joined xs
fit_rises rising xs light = refl
fit_rises falling xs light = falling_turns rate_laws xs light

-- failures and exposure of pieces together
abbrev pub weight : List Piece → ℕ
weight ps = (pooled ps).failures + (pooled ps).exposure

weight_append : (ps qs : List Piece) → weight (ps ++ qs) ≡ weight ps + weight qs
weight_append ps qs = omega (arith, total_append (λ x. x.failures) ps qs, total_append (λ x. x.exposure) ps qs)

pub weight_rates : (xs : List Rate) → weight (map rate_piece xs) ≡ sum_by rate_bulk xs
weight_rates [] = refl
weight_rates (x ∷ xs) = omega (arith, weight_rates xs, sum_by-cons rate_bulk x xs)

module _ (direction : Direction) where
  -- a block beside the pieces that it pools
  pub record Held (b : Block Rate) (part : List Piece) : Type 0 where
    pub is : block_piece b ≡ pooled part
    pub solid : Solid (along direction part)

  -- blocks beside their parts
  abbrev Cut : List (Block Rate) → List (List Piece) → Type 0
  Cut [] [] = Unit {0}
  Cut [] (l ∷ ls) = ⊥
  Cut (b ∷ bs) [] = ⊥
  Cut (b ∷ bs) (l ∷ ls) = Held b l × Cut bs ls

  -- the pieces of parts that lie on a stack, the last first
  abbrev laid : List (List Piece) → List Piece
  laid [] = []
  laid (l ∷ ls) = laid ls ++ l

  pools : (d : Direction) (x y : Rate) → order d y x ≡ true → Pools d (rate_piece x) (rate_piece y)
  pools rising x y h = leb-true (rate_part y * rate_whole x) (rate_part x * rate_whole y) h
  pools falling x y h = leb-true (rate_part x * rate_whole y) (rate_part y * rate_whole x) h

  exposed : (b : Block Rate) (l : List Piece) → Held b l → 0 < (pooled l).exposure
  exposed b l h = subst (λ (p : Piece). 0 < p.exposure) h.is b.element.exposed

  held_merged : (t b : Block Rate) (m l : List Piece) → Held t m → Held b l → weight m + weight l ≤ limit → order direction b.element t.element ≡ true → Held (merged rate_joined t b) (m ++ l)
  held_merged t b m l ht hb light test = record {
    is = ap rate_piece (within_is rate_bulk rate_sum t.element b.element (rw (ap weigh ht.is, ap weigh hb.is) light))
        ∙ ap₂ plus ht.is hb.is
        ∙ (λ i. record { failures = sym (total_append (λ x. x.failures) m l) i; exposure = sym (total_append (λ x. x.exposure) m l) i });
    solid = solid_joined direction m l (exposed t m ht) (exposed b l hb) ht.solid hb.solid
        (subst₂ (Pools direction) ht.is hb.is (pools direction t.element b.element test));
  }
    where
      weigh : Piece → ℕ
      weigh p = p.failures + p.exposure

      plus : Piece → Piece → Piece
      plus p q = record { failures = p.failures + q.failures; exposure = p.exposure + q.exposure }

  -- what a stack is, once something is put on it
  abbrev Onto : List (Block Rate) → List Piece → Type 0
  Onto bs ps = (ms : List (List Piece)) × Cut bs ms × (laid ms ≡ ps)

  put : (bs : List (Block Rate)) (ls : List (List Piece)) (b : Block Rate) (l : List Piece) → Cut bs ls → Held b l → weight (laid ls) + weight l ≤ limit → Onto (pushed (order direction) rate_joined bs b) (laid ls ++ l)
  unfolding pushed
  put [] [] b l cut held light = (l ∷ [], (held, tt), refl)
  put [] (m ∷ ms) b l cut held light = absurd cut
  put (t ∷ ts) [] b l cut held light = absurd cut
  put (t ∷ ts) (m ∷ ms) b l cut held light =
      let w = weight_append (laid ms) m in
      let v = weight_append m l in
      cond_both (order direction b.element t.element) (pushed (order direction) rate_joined ts (merged rate_joined t b)) (b ∷ t ∷ ts) (λ bs. Onto bs (laid ms ++ m ++ l))
      (λ test.
      let on = put ts ms (merged rate_joined t b) (m ++ l) cut.1 (held_merged t b m l cut.0 held (omega arith) test) (omega arith) in
      (on.0, on.1, on.2 ∙ sym (append_assoc (laid ms) m l)))
      (λ _. (l ∷ m ∷ ms, (held, cut), refl))

  held_one : (i : ℕ) (x : Rate) → Held (lone i x) (rate_piece x ∷ [])
  held_one i x = record { is = λ j. record { failures = none (rate_part x) j; exposure = none (rate_whole x) j }; solid = solid_one direction (rate_piece x) }
    where
      none : (n : ℕ) → n ≡ n + 0
      none n = omega arith

  put_one : (bs : List (Block Rate)) (ps : List Piece) (i : ℕ) (x : Rate) → Onto bs ps → weight ps + rate_bulk x ≤ limit → Onto (pushed (order direction) rate_joined bs (lone i x)) (ps ++ rate_piece x ∷ [])
  put_one bs ps i x on light =
      subst (λ qs. Onto (pushed (order direction) rate_joined bs (lone i x)) (qs ++ rate_piece x ∷ [])) on.2
      (put bs on.0 (lone i x) (rate_piece x ∷ []) on.1 (held_one i x) (rw on.2 (omega arith)))

  put_all : (xs : List Rate) (bs : List (Block Rate)) (ps : List Piece) (i : ℕ) → Onto bs ps → weight ps + sum_by rate_bulk xs ≤ limit → Onto (stacked_on (order direction) rate_joined bs i xs) (ps ++ map rate_piece xs)
  unfolding stacked_on
  put_all [] bs ps i on light = subst (Onto bs) (sym (append-nil ps)) on
  put_all (x ∷ xs) bs ps i on light =
      let e = sum_by-cons rate_bulk x xs in
      let w = weight_append ps (rate_piece x ∷ []) in
      subst (Onto (stacked_on (order direction) rate_joined (pushed (order direction) rate_joined bs (lone i x)) (suc i) xs)) (append_assoc ps (rate_piece x ∷ []) (map rate_piece xs))
      (put_all xs (pushed (order direction) rate_joined bs (lone i x)) (ps ++ rate_piece x ∷ []) (suc i) (put_one bs ps i x on (omega arith)) (omega arith))

  -- the parts of the pieces
  pub record Parts (bs : List (Block Rate)) (ps : List Piece) : Type 0 where
    pub parts : List (List Piece)
    pub sums : map block_piece bs ≡ map pooled parts
    pub solid : AllByRecursion (λ l. Solid (along direction l)) parts
    pub whole : pieces parts ≡ ps

  cut_sums : (bs : List (Block Rate)) (ls : List (List Piece)) → Cut bs ls → map block_piece bs ≡ map pooled ls
  cut_sums [] [] cut = refl
  cut_sums [] (l ∷ ls) cut = absurd cut
  cut_sums (b ∷ bs) [] cut = absurd cut
  cut_sums (b ∷ bs) (l ∷ ls) cut = ap₂ (λ x xs. x ∷ xs) cut.0.is (cut_sums bs ls cut.1)

  cut_solid : (bs : List (Block Rate)) (ls : List (List Piece)) → Cut bs ls → AllByRecursion (λ l. Solid (along direction l)) ls
  cut_solid [] [] cut = tt
  cut_solid [] (l ∷ ls) cut = absurd cut
  cut_solid (b ∷ bs) [] cut = absurd cut
  cut_solid (b ∷ bs) (l ∷ ls) cut = (cut.0.solid, cut_solid bs ls cut.1)

pub pieces_append : {X : Type 0} (bs cs : List (List X)) → pieces (bs ++ cs) ≡ pieces bs ++ pieces cs
pieces_append [] cs = refl
pieces_append (b ∷ bs) cs = ap (λ l. b ++ l) (pieces_append bs cs) ∙ sym (append_assoc b (pieces bs) (pieces cs))

laid_pieces : (direction : Direction) (ls : List (List Piece)) → pieces (reverse ls) ≡ laid direction ls
laid_pieces direction [] = refl
laid_pieces direction (l ∷ ls) =
    ap pieces (reverse-cons l ls) ∙ pieces_append (reverse ls) (l ∷ []) ∙ ap₂ (λ x y. x ++ y) (laid_pieces direction ls) (append-nil l)

fit_parts : (direction : Direction) (xs : List Rate) → sum_by rate_bulk xs ≤ limit → Parts direction (fit direction xs) (map rate_piece xs)
fit_parts direction xs light =
    let s = stacked (order direction) rate_joined xs in
    let on = put_all direction xs [] [] 0 ([], tt, refl) (omega arith) in
    subst (λ bs. Parts direction bs (map rate_piece xs)) (stacked_fits (order_laws direction) xs light ∙ sym (fit_rises direction xs light))
    (record {
      parts = reverse on.0;
      sums = sym (reverse_map block_piece s) ∙ ap reverse (cut_sums direction s on.0 on.1) ∙ reverse_map pooled on.0;
      solid = all_reverse (λ l. Solid (along direction l)) on.0 (cut_solid direction s on.0 on.1);
      whole = laid_pieces direction on.0 ∙ on.2;
    })

-- pieces with exposure
abbrev pub Exposed : List Piece → Type 0
Exposed ps = AllByRecursion (λ x. 0 < x.exposure) ps

pub rates_are : (ps : List Piece) → Exposed ps → map rate_piece (map rate_of ps) ≡ ps
rates_are [] h = refl
rates_are (p ∷ ps) h = ap₂ (λ x xs. x ∷ xs) (λ i. record { failures = p.failures; exposure = same i }) (rates_are ps h.1)
  where
    same : max 1 p.exposure ≡ p.exposure
    same = omega (arith, h.0)

pub rates_light : (ps : List Piece) → Exposed ps → weight ps ≤ limit → sum_by rate_bulk (map rate_of ps) ≤ limit
rates_light ps h light = omega (arith, weight_rates (map rate_of ps), ap weight (rates_are ps h))

pub pieces_parts : (direction : Direction) (ps : List Piece) → Exposed ps → weight ps ≤ limit → Parts direction (fit direction (map rate_of ps)) ps
pieces_parts direction ps h light = subst (λ qs. Parts direction (fit direction (map rate_of ps)) qs) (rates_are ps h) (fit_parts direction (map rate_of ps) (rates_light ps h light))
