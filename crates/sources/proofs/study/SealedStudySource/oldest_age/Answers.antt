use Rattle.std.proofs.Common.{subst}
use Rattle.sources.specs.Questions.{Oldest}
use Rattle.sources.specs.Studies.{study_watched}
use Rattle.sources.specs.StudyLaws.{sealed_laws}
use Rattle.sources.proofs.Questions.{oldest_is}
use Rattle.sources.proofs.study.SealedStudySource.oldest_age.Goals as goal

pub returns : goal.returns
returns c = oldest_is _ _ (sealed_laws c.args.self.now) c.oldest_in.result.0 (subst (λ ps. Oldest (study_watched ps) c.oldest_in.result.0) c.places.ensures c.oldest_in.ensures)
