use Rattle.xs_text.proofs.FirstBad.{not_both}
use Rattle.xs_text.proofs.reader.not_both.Goals as goal

pub returns : goal.returns
returns c = λ script text history n valid. not_both script valid text history n
