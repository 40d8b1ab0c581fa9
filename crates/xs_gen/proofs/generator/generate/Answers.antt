-- Each turn writes a task more.
use Rattle.std.proofs.Common.{arith}
use Rattle.xs_gen.proofs.TextLemmas.{head_text, tasks_more, tasks_done}
use Rattle.xs_gen.proofs.generator.generate.Goals as goal

pub loop-task-init : goal.loop-task-init
loop-task-init c = rw (c.in_ok-text.ensures.items, c.new-draws.ensures) (head_text c.args.number)

pub loop-task-preserved : goal.loop-task-preserved
loop-task-preserved c =
    let l = c.loop-task in
    let wrote = c.in_ok-put_task.ensures in
    rw wrote.state (tasks_more 64 l.task l.draws.state l.text.items _ _ (omega arith) wrote.text l.invariant)

pub returns : goal.returns
returns c = let l = c.loop-task in tasks_done 64 l.task l.draws.state l.text.items _ (omega arith) l.invariant
