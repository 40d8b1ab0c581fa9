-- As a set, and as a test.
use Rattle.xs_bank.proofs.ReadyLemmas.{others_are}
use Rattle.xs_bank.proofs.tracking.others.Goals as goal

pub returns : goal.returns
returns c = others_are c.args.layout.now c.features-all.result.0 c.args.mask.0 c.len.ensures.layout c.features-all.ensures.has
