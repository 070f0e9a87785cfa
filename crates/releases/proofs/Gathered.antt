-- Rows with trials, gathered one by one.
use Rattle.std.proofs.Common.{◌≡◌, ℕ, ◌+◌, ◌<◌, ◌≤◌, Bool, true, false, cond, ltb, List, [], ◌∷◌, ◌++◌, map, length, get_or, take, Some, None, filter, sym, refl, ap, ◌∙◌, arith}
use Rattle.std.specs.List.{enumerate_from}
use Rattle.std.proofs.lemmas.List.Elements.{filter-append}
use Rattle.std.proofs.lemmas.List.{append-nil, map-append, map_more, take_all, length-map, length-take-le}
use Rattle.pooling.specs.Ratios.{Ratio}
use Rattle.pooling.specs.Kinds.{share_ratio}
use Rattle.pooling.specs.declared.shares.Share.{Share}
use Rattle.releases.specs.declared.rows.Row.{Row}
use Rattle.releases.specs.declared.pieces.Pieces.{Pieces}
use Rattle.releases.specs.Sheets.{row_ratio, row_share}
use Rattle.releases.specs.Pieces.{piece_shares, piece_releases}
use Rattle.releases.specs.Growths.{tried, tried_shares, tried_releases}

abbrev pub front : List Row → ℕ → List Ratio
front rows i = map row_ratio (take i rows)

-- of the first i rows, those with trials are pieces
pub record Gathered (rows : List Row) (pieces : Pieces) (i : ℕ) : Type 0 where
  pub low : pieces.count ≤ i
  pub shares_are : map share_ratio (piece_shares pieces) ≡ tried_shares (front rows i)
  pub releases_are : piece_releases pieces ≡ tried_releases (front rows i)

-- a row has a share where it has trials
no_trials : (t : Bool) (r : Ratio) → None ≡ cond t (Some r) None → t ≡ false
no_trials true r e = let z : ◌≡◌ {A = ℕ} 0 1 = cc in absurd (omega arith)
no_trials false r e = refl

some_trials : (t : Bool) (r s : Ratio) → Some s ≡ cond t (Some r) None → (t ≡ true) × (s ≡ r)
some_trials true r s e = (refl, cc)
some_trials false r s e = let z : ◌≡◌ {A = ℕ} 0 1 = cc in absurd (omega arith)

pub share_trials : (share : Share) (row : Row) → Some (share_ratio share) ≡ row_share (row_ratio row) → share_ratio share ≡ row_ratio row
share_trials share row e = (some_trials (ltb 0 row.trials) (row_ratio row) (share_ratio share) e).1

enumerate_push : {X : Type 0} (j : ℕ) (xs : List X) (x : X) → enumerate_from j (xs ++ (x ∷ [])) ≡ enumerate_from j xs ++ ((j + length xs, x) ∷ [])
enumerate_push j [] x = ap (λ (k : ℕ). (k, x) ∷ []) none
  where
    none : j ≡ j + 0
    none = omega arith
enumerate_push j (y ∷ ys) x = ap (λ ps. (j, y) ∷ ps) (enumerate_push (j + 1) ys x ∙ ap (λ (k : ℕ). enumerate_from (j + 1) ys ++ ((k, x) ∷ [])) one)
  where
    one : j + 1 + length ys ≡ j + length (y ∷ ys)
    one = omega arith

abbrev has_trials : ℕ × Ratio → Bool
has_trials p = ltb 0 p.1.whole

module _ (rows : List Row) (i : ℕ) (row : Row) (within : i < length rows) (read : row ≡ get_or rows i row) where
  tried_more : tried (front rows (i + 1)) ≡ tried (front rows i) ++ cond (ltb 0 row.trials) ((i + 1, row_ratio row) ∷ []) []
  tried_more =
      ap tried (map_more row_ratio rows i row within ∙ ap (λ (r : Row). front rows i ++ (row_ratio r ∷ [])) (sym read))
      ∙ ap (filter has_trials) (enumerate_push 1 (front rows i) (row_ratio row))
      ∙ filter-append has_trials (enumerate_from 1 (front rows i)) ((1 + length (front rows i), row_ratio row) ∷ [])
      ∙ ap (λ (k : ℕ). tried (front rows i) ++ cond (ltb 0 row.trials) ((k, row_ratio row) ∷ []) []) number
    where
      number : 1 + length (front rows i) ≡ i + 1
      number = omega (arith, length-map (take i rows) row_ratio, length-take-le i rows (omega arith))

  module _ (pieces : Pieces) (g : Gathered rows pieces i) where
    pub gather_skip : None ≡ row_share (row_ratio row) → Gathered rows pieces (i + 1)
    gather_skip none = record {
      low = omega (arith, g.low);
      shares_are = g.shares_are ∙ ap (map (λ p. p.1)) same;
      releases_are = g.releases_are ∙ ap (map (λ p. p.0)) same;
    }
      where
        same : tried (front rows i) ≡ tried (front rows (i + 1))
        same =
            sym (append-nil (tried (front rows i)))
            ∙ ap (λ t. tried (front rows i) ++ cond t ((i + 1, row_ratio row) ∷ []) []) (sym (no_trials (ltb 0 row.trials) (row_ratio row) none))
            ∙ sym tried_more

    pub gather_take : (share : Share) (after : Pieces) → Some (share_ratio share) ≡ row_share (row_ratio row) → after.count ≡ pieces.count + 1 → piece_shares after ≡ piece_shares pieces ++ (share ∷ []) → piece_releases after ≡ piece_releases pieces ++ ((i + 1) ∷ []) → Gathered rows after (i + 1)
    gather_take share after some count shares releases = record {
      low = omega (arith, g.low, count);
      shares_are =
          ap (map share_ratio) shares ∙ map-append share_ratio (piece_shares pieces) (share ∷ [])
          ∙ (λ t. g.shares_are t ++ (trials.1 t ∷ [])) ∙ sym (map-append (λ p. p.1) (tried (front rows i)) ((i + 1, row_ratio row) ∷ [])) ∙ ap (map (λ p. p.1)) (sym more);
      releases_are =
          releases ∙ ap (λ xs. xs ++ ((i + 1) ∷ [])) g.releases_are
          ∙ sym (map-append (λ p. p.0) (tried (front rows i)) ((i + 1, row_ratio row) ∷ [])) ∙ ap (map (λ p. p.0)) (sym more);
    }
      where
        trials : (ltb 0 row.trials ≡ true) × (share_ratio share ≡ row_ratio row)
        trials = some_trials (ltb 0 row.trials) (row_ratio row) (share_ratio share) some

        more : tried (front rows (i + 1)) ≡ tried (front rows i) ++ ((i + 1, row_ratio row) ∷ [])
        more = tried_more ∙ ap (λ t. tried (front rows i) ++ cond t ((i + 1, row_ratio row) ∷ []) []) trials.0

pub gather_start : (rows : List Row) (pieces : Pieces) → pieces.count ≡ 0 → Gathered rows pieces 0
gather_start rows pieces none = record {
  low = omega arith;
  shares_are = ap (λ (k : ℕ). map share_ratio (take k pieces.shares)) none;
  releases_are = ap (λ (k : ℕ). take k pieces.releases) none;
}

-- all rows
module _ (rows : List Row) (pieces : Pieces) (i : ℕ) (all : length rows ≤ i) (g : Gathered rows pieces i) where
  whole : front rows i ≡ map row_ratio rows
  whole = ap (map row_ratio) (take_all i rows all)

  pub gathered_shares : map share_ratio (piece_shares pieces) ≡ tried_shares (map row_ratio rows)
  gathered_shares = g.shares_are ∙ ap tried_shares whole

  pub gathered_releases : piece_releases pieces ≡ tried_releases (map row_ratio rows)
  gathered_releases = g.releases_are ∙ ap tried_releases whole
