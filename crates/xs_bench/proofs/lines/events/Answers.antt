-- The task of the event of each number is the first.
use Rattle.std.proofs.Common.{◌<◌, length, arith}
use Rattle.xs_model.specs.declared.event.Event.{Event}
use Rattle.xs_text.specs.Text.{task_of}
use Rattle.xs_bench.proofs.Pushed.{all_push}
use Rattle.xs_bench.proofs.lines.events.Goals as goal

pub loop-n-preserved : goal.loop-n-preserved
loop-n-preserved c =
    rw c.in_ok-push.ensures.items
    (all_push (λ (event : Event). task_of event < length c.args.script.now.blocks) c.loop-n.events.items _ c.loop-n.invariant (omega (arith, c.event.ensures, c.requires)))
