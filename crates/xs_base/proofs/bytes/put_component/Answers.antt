use Rattle.xs_base.proofs.ComponentLemmas.{component_put}
use Rattle.xs_base.proofs.bytes.put_component.Goals as goal

pub returns : goal.returns
returns c =
    let cleaned = rw c.put.ensures.written at c.clean.ensures in
    rw c.put-2.ensures.written (component_put c.args.at c.args.comp.0 c.args.bytes.now c.args.out.now c.clean.new.out c.copy_from_slice.new.self c.requires.size c.requires.within c.requires.legacy c.copy_from_slice.ensures.after cleaned)
