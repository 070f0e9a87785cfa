use Rattle.std.proofs.Common.{None, Some, sym, ◌∙◌}
use Rattle.lines.proofs.Pairs.{pair_cut, pair_is}
use Rattle.lines.proofs.numbers.pair.Goals as goal

pub returns-in_err-slash : goal.returns-in_err-slash
returns-in_err-slash c = c.from_residual.ensures ∙ pair_is c.args.field.now None (sym c.in_err-slash.was ∙ c.slash_place.ensures)

pub returns : goal.returns
returns c =
    let s = c.in_ok-slash.slash in
    c.decimals.ensures ∙ pair_cut c.args.field.now s ∙ pair_is c.args.field.now (Some s) (sym c.in_ok-slash.was ∙ c.slash_place.ensures)
