use Rattle.lives.proofs.RoundTrip.{reads_back, only_written}
use Rattle.lives.proofs.reopening.archive_laws.Goals as goal

pub returns : goal.returns
returns c = (reads_back, only_written)
