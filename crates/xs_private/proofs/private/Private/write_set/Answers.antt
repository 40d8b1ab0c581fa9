-- The set is the one that was taken.
use Rattle.std.proofs.Common.{◌∙◌, ℕ, List, ap, take, sym}
use Rattle.xs_base.specs.declared.words.Set.{Set}
use Rattle.xs_base.specs.declared.words.Set.TheVariants.{Xstate}
use Rattle.xs_base.specs.RegisterSet.{after_set}
use Rattle.xs_base.specs.Task.{PrivateTask}
use Rattle.xs_private.proofs.private.Private.write_set.Goals as goal

pub returns-in-Xstate : goal.returns-in-Xstate
returns-in-Xstate c =
    let task = c.args.self.now in
    c.take_xstate.ensures
    ∙ ap (λ (bytes : List ℕ). after_set task Xstate (take c.args.count bytes)) (c.deref.ensures.value ∙ ap (λ (p : PrivateTask). p.buffer) c.tracer.view_is)
    ∙ ap (λ (set : Set). after_set task set (take c.args.count c.args.tracer.now.buffer)) (sym c.in-Xstate.is)
