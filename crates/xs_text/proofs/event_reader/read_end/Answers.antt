use Rattle.xs_text.proofs.EventReads.{end_only, end_read}
use Rattle.xs_text.proofs.event_reader.read_end.Goals as goal

pub returns-in_err-task : goal.returns-in_err-task
returns-in_err-task c = rw c.from_residual.ensures (end_only c.args.script.now c.args.words.now (λ task rest fits e. c.in_err-task.ensures task rest fits e))

pub returns : goal.returns
returns c = end_read c.args.script.now c.in_ok-task.task c.args.words.now c.in_ok-task.rest.now c.in_ok-task.ensures
