use Rattle.std.proofs.Common.{arith}
use Rattle.xs_base.proofs.ComponentLemmas.{cleaned_first, cleaned_more, cleaned_all}
use Rattle.xs_base.proofs.bytes.clean_x87.Goals as goal

pub slots-init : goal.slots-init
slots-init c = rw (c.clear-2.ensures.written, c.clear.ensures.written) (cleaned_first c.args.at c.args.out.now c.requires)

pub slots-preserved : goal.slots-preserved
slots-preserved c =
    rw c.clear-in-slots.ensures.written (cleaned_more c.args.at c.slots.slot c.args.out.now c.slots.out c.requires c.slots.auto.slot c.slots-test.true c.slots.invariant)

pub returns : goal.returns
returns c = cleaned_all c.args.at c.slots.slot c.args.out.now c.slots.out (omega arith) c.slots.invariant
