use Rattle.xs_model.proofs.LineNumbers.{lines_found}
use Rattle.xs_model.proofs.laws.lines_found.Goals as goal

pub returns : goal.returns
returns c = λ script t lines task order valid. lines_found script valid t lines task order
