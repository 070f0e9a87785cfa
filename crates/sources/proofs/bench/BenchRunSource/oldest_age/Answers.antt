use Rattle.std.proofs.Common.{map, length, sym, ap, ◌∙◌, subst, arith}
use Rattle.std.proofs.lemmas.List.{length-map}
use Rattle.units.specs.Hours.{age_ticks}
use Rattle.sources.specs.Benches.{plain_bench, bench_watched}
use Rattle.sources.specs.BenchLaws.{watched_void, bench_laws}
use Rattle.sources.specs.Questions.{Oldest}
use Rattle.sources.proofs.Ages.{final}
use Rattle.sources.proofs.Questions.{oldest_is, oldest_void}
use Rattle.sources.proofs.Benches.{oldest_stop, oldest_last, last_or_zero}
use Rattle.sources.proofs.bench.BenchRunSource.oldest_age.Goals as goal

pub returns-in_default : goal.returns-in_default
returns-in_default c = oldest_is _ _ (bench_laws (plain_bench c.args.self.now)) 0 (oldest_void _ (watched_void _ c.in_default.ensures))

pub returns-then-ages-self : goal.returns-then-ages-self
returns-then-ages-self c =
    let b = c.args.self.now in
    oldest_is _ _ (bench_laws (plain_bench b)) b.stop.0 (oldest_stop (plain_bench b) c.in-Some.ensures.0 (omega (arith, c.if-ages-self.true, ap length c.in-Some.ensures.1, length-map b.ages.now age_ticks)))

pub returns : goal.returns
returns c =
    let b = c.args.self.now in
    let e = c.in-Some.ensures.0 in
    let last = last_or_zero c.in-Some.ages.now c.copied.result c.unwrap_or_default.result (c.copied.ensures ∙ c.last.ensures.value) c.unwrap_or_default.ensures in
    oldest_is _ _ (bench_laws (plain_bench b)) _
    (subst (Oldest (bench_watched (plain_bench b))) (ap (λ xs. final 0 (map age_ticks xs)) (sym c.in-Some.ensures.1) ∙ last)
    (oldest_last (plain_bench b) e (omega (arith, c.if-ages-self.false, ap length c.in-Some.ensures.1, length-map b.ages.now age_ticks))))
