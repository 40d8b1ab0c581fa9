use Rattle.xs_base.proofs.Registers.{one_place}
use Rattle.xs_regs.proofs.register.one_place.Goals as goal

pub returns : goal.returns
returns c = λ name rows others p q here there. one_place name p q here.0 there.0
