use Rattle.xs_text.proofs.FirstBad.{every_text}
use Rattle.xs_text.proofs.reader.every_text.Goals as goal

pub returns : goal.returns
returns c = every_text
