-- Bit by bit.
use Rattle.xs_bank.proofs.SetBits.{has_merged}
use Rattle.xs_bank.proofs.saving.merged.Goals as goal

pub returns : goal.returns
returns c d = has_merged c.args.others.0 c.args.inside.0 c.args.mask.0 d
