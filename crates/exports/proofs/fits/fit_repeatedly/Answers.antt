use Rattle.std.proofs.Common.{ℕ, List, length, ap, ◌∙◌, rules, arith}
use Rattle.sources.specs.Benches.{PlainBench, bench_counts, plain_bench}
use Rattle.exports.specs.Codes.{code_after, ushaped_code}
use Rattle.exports.proofs.Coded.{repeated_code}
use Rattle.exports.proofs.fits.fit_repeatedly.Goals as goal

pub returns : goal.returns
returns c =
    let n = length c.args.ages.now in
    let run = plain_bench c.new-bench.result in
    let last = c.repeated.ensures (ushaped_code (bench_counts run)) (λ before after r made. search rules) in
    c.unwrap_or.ensures
    ∙ repeated_code n c.args.times (bench_counts run) c.repeated.result (omega (arith, c.if-ages-gt-MOST_AGES.false)) last
    ∙ ap (λ (b : PlainBench). code_after n c.args.times (bench_counts b)) (c.new-bench.ensures ∙ ap (λ (ages : List ℕ). record { units = c.args.units; ages = ages; stop = c.args.stop }) c.copy_ages-ages.ensures)
