-- A note on a row of the sheet.
use Rattle.std.proofs.Common.{◌≡◌, ℕ, ◌-◌, ◌<◌, ◌≤◌, false, ◌||◌, eqb, ltb, List, map, length, get_or, set, None, sym, ap, ◌∙◌, arith}
use Rattle.std.proofs.lemmas.List.{get_or-map, map-set}
use Rattle.std.proofs.lemmas.Bool.{cond-false}
use Rattle.pooling.specs.Ratios.{Ratio}
use Rattle.pooling.specs.Pooling.{unless_refused}
use Rattle.releases.specs.declared.rows.Row.{Row}
use Rattle.releases.specs.Limits.{row_count}
use Rattle.releases.specs.Sheets.{row_ratio, no_trials, row_of, row_noted, row_refusal, note_refusal, noted_rows}

module _ (rows : List Row) (release successes trials : ℕ) (seen : Row) (full : length rows ≡ row_count) (low : 0 < release) (high : release ≤ row_count) where
  abbrev row : Row
  row = get_or rows (release - 1) seen

  row_is : row_of (map row_ratio rows) release ≡ row_ratio row
  row_is = get_or-map row_ratio rows (release - 1) seen no_trials (omega arith)

  a_row : (eqb release 0 || ltb row_count release) ≡ false
  a_row = grind arith

  pub refusal_is : note_refusal (map row_ratio rows) release successes trials ≡ row_refusal (row_ratio row) successes trials
  refusal_is = cond-false _ _ _ a_row ∙ ap (λ (r : Ratio). row_refusal r successes trials) row_is

  pub rows_noted : (after : Row) → row_refusal (row_ratio row) successes trials ≡ None → row_ratio after ≡ row_noted (row_ratio row) successes trials → map row_ratio (set rows (release - 1) after) ≡ noted_rows (map row_ratio rows) release successes trials
  rows_noted after none is =
      map-set row_ratio rows (release - 1) after ∙ ap (set (map row_ratio rows) (release - 1)) (is ∙ ap (λ (r : Ratio). row_noted r successes trials) (sym row_is))
      ∙ ap (λ q. unless_refused q (map row_ratio rows) (set (map row_ratio rows) (release - 1) (row_noted (row_of (map row_ratio rows) release) successes trials))) (sym (refusal_is ∙ none))
