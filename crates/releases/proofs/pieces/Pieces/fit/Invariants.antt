use Rattle.std.proofs.Common.{◌≡◌, map, take}
use Rattle.isotonic.specs.MaxMin.{on_element}
use Rattle.pooling.specs.Kinds.{share_ratio}
use Rattle.pooling.specs.Pooling.{written}
use Rattle.pooling.specs.Scores.{share_score, blocks_score}
use Rattle.releases.specs.Growths.{growth_step}
use Rattle.releases.specs.Pieces.{piece_releases}
use Rattle.releases.proofs.pieces.Pieces.fit.Given as goal

abbrev pub invariant-loop-i : goal.invariant-loop-i
invariant-loop-i l = record {
  memory : l.steps ≡ written (map (λ b. growth_step (piece_releases l.self) (on_element share_ratio b)) (take l.i l.block-items)) l.initial.steps;
  score : l.score ≡ blocks_score share_score (take l.i l.block-items);
}
