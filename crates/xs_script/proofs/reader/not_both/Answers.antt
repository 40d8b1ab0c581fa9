use Rattle.xs_script.proofs.OneText.{not_both}
use Rattle.xs_script.proofs.reader.not_both.Goals as goal

pub returns : goal.returns
returns c = not_both
