use Rattle.xs_script.proofs.OneText.{one_refusal}
use Rattle.xs_script.proofs.reader.one_refusal.Goals as goal

pub returns : goal.returns
returns c = one_refusal
