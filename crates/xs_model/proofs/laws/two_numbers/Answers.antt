use Rattle.xs_model.proofs.LegalTurns.{two_numbers}
use Rattle.xs_model.proofs.laws.two_numbers.Goals as goal

pub returns : goal.returns
returns c = two_numbers
