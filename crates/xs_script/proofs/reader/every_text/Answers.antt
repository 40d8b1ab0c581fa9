use Rattle.xs_script.proofs.EveryText.{every_text}
use Rattle.xs_script.proofs.reader.every_text.Goals as goal

pub returns : goal.returns
returns c = every_text
