use Rattle.examples.proofs.Played.{examples}
use Rattle.examples.proofs.examples_hold.Goals as goal

pub returns : goal.returns
returns c = examples
