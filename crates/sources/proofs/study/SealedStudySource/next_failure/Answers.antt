use Rattle.std.proofs.Common.{subst}
use Rattle.sources.specs.Questions.{Next}
use Rattle.sources.specs.Studies.{study_failed}
use Rattle.sources.specs.StudyLaws.{sealed_laws}
use Rattle.sources.proofs.Questions.{next_is}
use Rattle.sources.proofs.study.SealedStudySource.next_failure.Goals as goal

pub returns : goal.returns
returns c = next_is _ _ (sealed_laws c.args.self.now) c.args.above.0 c.next_failure_in.result (subst (λ ps. Next (study_failed ps) c.args.above.0 c.next_failure_in.result) c.places.ensures c.next_failure_in.ensures)
