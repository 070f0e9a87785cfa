use Rattle.std.proofs.Common.{arith}
use Rattle.std.proofs.lemmas.Int.{ints}
use Rattle.curves.specs.declared.side.Side.TheVariants.{Left, Right}
use Rattle.curves.proofs.Aged.{all_counted, all_written, both_scores, side_small}
use Rattle.curves.proofs.split.Split.write.Goals as goal

pub overflow_add-result-2 : goal.overflow_add-result-2
overflow_add-result-2 c =
    let left = side_small c.args.self.now Left c.fit_side-left.result.score c.fit_side-left.ensures.score in
    let right = side_small c.args.self.now Right c.fit_side-right.result.score c.fit_side-right.ensures.score in
    omega (arith, ints, left.0, left.1, right.0, right.1)

pub returns-clause-count : goal.returns-clause-count
returns-clause-count c = all_counted c.args.self.now _ _ c.fit_side-left.ensures.count c.write_trough-at.ensures.count _ c.fit_side-right.ensures.count

pub returns-clause-score : goal.returns-clause-score
returns-clause-score c = both_scores c.args.self.now _ _ c.fit_side-left.ensures.score c.fit_side-right.ensures.score

pub returns-clause-steps : goal.returns-clause-steps
returns-clause-steps c =
    let left = c.fit_side-left.ensures in
    let trough = c.write_trough-at.ensures in
    all_written c.args.self.now _ _ left.count trough.count _ _ _ _ left.few c.requires.room.1 left.steps trough.steps c.fit_side-right.ensures.steps
