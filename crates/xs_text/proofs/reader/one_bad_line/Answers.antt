use Rattle.xs_text.proofs.FirstBad.{one_bad_line}
use Rattle.xs_text.proofs.reader.one_bad_line.Goals as goal

pub returns : goal.returns
returns c = λ script text m n valid. one_bad_line script valid text m n
