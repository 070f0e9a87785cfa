use Rattle.std.proofs.Common.{◌≡◌, ◌*◌, pos, ◌-ℤ◌, ◌*ℤ◌, sym, ◌∙◌, subst, arith, w64, to_z, of_z}
use Rattle.arith.specs.Log.{squarings}
use Rattle.arith.specs.Scores.{log_term}
use Rattle.pooling.specs.Scores.{unit_bound, Within}
use Rattle.pooling.specs.Terms.{term_within, product_fits, product_kept}
use Rattle.pooling.proofs.scores.term.Goals as goal

pub overflow_mul-result : goal.overflow_mul-result
overflow_mul-result c =
    product_fits c.args.part c.scaled_log2-above.result c.scaled_log2-below.result (omega arith) c.scaled_log2-above.ensures.small c.scaled_log2-below.ensures.small

pub returns : goal.returns
returns c =
    let part = c.args.part in
    let above = c.scaled_log2-above in
    let below = c.scaled_log2-below in
    let value : to_z w64 (of_z w64 (to_z w64 part *ℤ to_z w64 (of_z w64 (to_z w64 above.result -ℤ to_z w64 below.result)))) ≡ log_term squarings part c.args.whole =
    product_kept part above.result below.result (omega arith) above.ensures.small below.ensures.small
    ∙ (λ i. pos part *ℤ (pos (above.ensures.value i) -ℤ pos (below.ensures.value i))) in
    record { value = value; bound = subst (Within (unit_bound * part)) (sym value) (term_within part c.args.whole) }
