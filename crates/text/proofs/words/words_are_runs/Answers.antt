use Rattle.text.proofs.Splitting.{words_are_runs}
use Rattle.text.proofs.words.words_are_runs.Goals as goal

pub returns : goal.returns
returns c = words_are_runs
