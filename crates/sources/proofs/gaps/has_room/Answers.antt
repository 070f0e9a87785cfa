use Rattle.std.proofs.Common.{sym, ◌∙◌, arith}
use Rattle.std.proofs.lemmas.Bool.{le-leb}
use Rattle.sources.proofs.Ages.{ages_few}
use Rattle.sources.proofs.gaps.has_room.Goals as goal

pub returns-then-room-ge-MOST_AGES : goal.returns-then-room-ge-MOST_AGES
returns-then-room-ge-MOST_AGES g c =
    let f = (g.S.Source.counts c.args.source.now).failed in
    let last = c.args.last.0 in
    le-leb _ _ c.if-room-ge-MOST_AGES.true ∙ sym (le-leb _ _ (omega (arith, c.if-room-ge-MOST_AGES.true, ages_few f last, (g.S.Source.laws c.args.source.now).few last)))
