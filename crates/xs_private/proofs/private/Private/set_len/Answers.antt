-- A set has its size.
use Rattle.std.proofs.Common.{◌∙◌, ap, sym}
use Rattle.xs_base.specs.Layout.{full_size}
use Rattle.xs_base.specs.RegisterSet.{set_size}
use Rattle.xs_base.specs.Task.{PrivateTask}
use Rattle.xs_base.proofs.ReplyLemmas.{reply_length}
use Rattle.xs_private.proofs.private.Private.set_len.Goals as goal

pub returns-in-Xstate : goal.returns-in-Xstate
returns-in-Xstate c =
    c.full_size.ensures.size ∙ ap full_size c.layout.ensures.rows ∙ ap (λ (p : PrivateTask). full_size p.file.rows) c.self.view_is
    ∙ ap (set_size c.args.self.now) (sym c.in-Xstate.is) ∙ sym (reply_length c.args.self.now c.args.set)

pub returns-in-Fx : goal.returns-in-Fx
returns-in-Fx c = ap (set_size c.args.self.now) (sym c.in-Fx.is) ∙ sym (reply_length c.args.self.now c.args.set)
