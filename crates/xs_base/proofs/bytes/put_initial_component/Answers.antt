use Rattle.std.proofs.Common.{◌∙◌, sym}
use Rattle.xs_base.proofs.ComponentLemmas.{initial_put, length_initial}
use Rattle.xs_base.proofs.bytes.put_initial_component.Goals as goal

pub returns : goal.returns
returns c =
    rw (c.put.ensures.written, c.put_initial.ensures.written) (initial_put c.args.at c.args.size c.args.comp.0 c.args.out.now c.copy_from_slice.new.self (length_initial c.args.comp.0 ∙ sym c.requires.size) c.requires.within c.requires.legacy c.copy_from_slice.ensures.after)
