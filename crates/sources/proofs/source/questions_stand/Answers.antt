use Rattle.sources.proofs.Questions.{questions_stand}
use Rattle.sources.proofs.source.questions_stand.Goals as goal

pub returns : goal.returns
returns c = questions_stand
