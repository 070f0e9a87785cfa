use Rattle.std.proofs.Common.{map, ◌∙◌, rules, arith}
use Rattle.std.proofs.lemmas.List.{length-map}
use Rattle.exports.specs.Counts.{most_rates, plain_ratio, rates_count}
use Rattle.exports.proofs.Counted.{too_many, rates_counted}
use Rattle.exports.proofs.Repeated.{last_or_zero}
use Rattle.exports.proofs.pool_repeatedly.Goals as goal

pub returns-then-plain-gt-MOST : goal.returns-then-plain-gt-MOST
returns-then-plain-gt-MOST c =
    let plain = c.args.plain.now in
    too_many (map plain_ratio plain) c.args.times (omega (arith, length-map plain plain_ratio, c.if-plain-gt-MOST.true))

pub returns : goal.returns
returns c =
    let rates = c.in-Some.rates.now in
    let last = c.repeated.ensures (rates_count rates most_rates) (λ before after r made. search rules) in
    c.unwrap_or.ensures
    ∙ rates_counted (map plain_ratio c.args.plain.now) rates c.args.times _ c.in-Some.ensures.rates (last_or_zero c.args.times (rates_count rates most_rates) c.repeated.result last)
