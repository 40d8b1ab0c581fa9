use Rattle.xs_script.proofs.OneScript.{one_script}
use Rattle.xs_script.proofs.reader.one_script.Goals as goal

pub returns : goal.returns
returns c = one_script
