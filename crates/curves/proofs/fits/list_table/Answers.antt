use Rattle.std.proofs.Common.{◌≡◌, ◌<◌, ◌≤◌, length, take, drop, ◌++◌, arith}
use Rattle.std.proofs.lemmas.List.{length-take}
use Rattle.sources.specs.Ages.{ages, oldest}
use Rattle.sources.specs.Gaps.{gaps}
use Rattle.curves.proofs.Tabled.{listed_count, listed_front, rest_listed, table_listed}
use Rattle.curves.proofs.fits.list_table.Given as over
use Rattle.curves.proofs.fits.list_table.Goals.{After-gap_between}
use Rattle.curves.proofs.fits.list_table.Goals as goal

-- the gaps were listed, and there is room for one more
record Listed (g : over.Over) (c : After-gap_between g) : Type 0 where
  number : c.in_ok-count.count ≡ length (ages (g.S.Source.counts c.args.source.now).failed c.args.last.0)
  room : c.in_ok-count.count < length c.args.gaps.now
  memory : c.list_gaps.new.memory ++ drop c.saturating_sub.result c.args.gaps.now ≡ gaps (g.S.Source.counts c.args.source.now).watched (g.S.Source.counts c.args.source.now).failed c.args.last.0 ++ drop c.in_ok-count.count c.args.gaps.now

listed : (g : over.Over) (c : After-gap_between g) → Listed g c
listed g c =
    let s = g.S.Source.counts c.args.source.now in
    let room = c.saturating_sub.result in
    let before = c.args.gaps.now in
    let found = listed_count (length (ages s.failed c.args.last.0)) c.in_ok-count.count (take room before) c.in_ok-count.ensures.answer in
    let place : (room ≤ length before) × (c.in_ok-count.count < length before) =
    omega (arith, found.0, found.1, length-take room before, c.if-count-eq0.false, c.requires, c.min-room.ensures, c.saturating_sub.ensures) in
    record {
      number = found.0;
      room = place.1;
      memory = rw (c.list_gaps.ensures.memory, found.0) (listed_front _ room (gaps s.watched s.failed c.args.last.0) before found.1 place.0);
    }

pub returns-clause-table : goal.returns-clause-table
returns-clause-table g c =
    let s = g.S.Source.counts c.args.source.now in
    let l = listed g c in
    table_listed s.watched s.failed (oldest s.watched) c.args.last.0 c.in_ok-count.count _ c.args.gaps.now _ c.gap_between.result l.number (omega (arith, c.if-count-eq0.false)) l.room l.memory c.gap_between.ensures c.oldest_age.ensures

pub returns-clause-rest : goal.returns-clause-rest
returns-clause-rest g c =
    let s = g.S.Source.counts c.args.source.now in
    let l = listed g c in
    rest_listed s.watched s.failed (oldest s.watched) c.args.last.0 c.in_ok-count.count c.args.gaps.now _ c.gap_between.result l.number l.memory
