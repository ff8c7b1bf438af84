use Rattle.laws_tests.proofs.Tried.{tried}
use Rattle.laws_tests.proofs.laws_compute.Goals as goal

pub returns : goal.returns
returns c = tried
