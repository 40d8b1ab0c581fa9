use Rattle.xs_text.proofs.EventReads.{start_only, start_read, after_task, after_number, after_how}
use Rattle.xs_text.proofs.event_reader.read_start.Goals as goal

pub returns-in_err-task : goal.returns-in_err-task
returns-in_err-task c = rw c.from_residual.ensures (start_only c.args.script.now c.args.words.now (λ task cpu how signal rest fits e. c.in_err-task.ensures task _ fits.0 e))

pub returns-in_err-cpu : goal.returns-in_err-cpu
returns-in_err-cpu c = rw c.from_residual-in_err-cpu.ensures (start_only c.args.script.now c.args.words.now (λ task cpu how signal rest fits e.
    c.in_err-cpu.ensures cpu _ fits.1 (after_task c.args.script.now c.in_ok-task.task task c.args.words.now c.in_ok-task.words.now _ c.requires c.in_ok-task.ensures fits.0 e)))

pub returns-in_err-how : goal.returns-in_err-how
returns-in_err-how c = rw c.from_residual-in_err-how.ensures (start_only c.args.script.now c.args.words.now (λ task cpu how signal rest fits e.
    let second = after_task c.args.script.now c.in_ok-task.task task c.args.words.now c.in_ok-task.words.now _ c.requires c.in_ok-task.ensures fits.0 e in
    c.in_err-how.ensures how _ tt (after_number c.in_ok-cpu.cpu cpu c.in_ok-task.words.now c.in_ok-cpu.words.now _ c.in_ok-cpu.ensures fits.1 second)))

pub returns-in_err-signal : goal.returns-in_err-signal
returns-in_err-signal c = rw c.from_residual-in_err-signal.ensures (start_only c.args.script.now c.args.words.now (λ task cpu how signal rest fits e.
    let second = after_task c.args.script.now c.in_ok-task.task task c.args.words.now c.in_ok-task.words.now _ c.requires c.in_ok-task.ensures fits.0 e in
    let third = after_number c.in_ok-cpu.cpu cpu c.in_ok-task.words.now c.in_ok-cpu.words.now _ c.in_ok-cpu.ensures fits.1 second in
    c.in_err-signal.ensures signal rest tt (after_how c.in_ok-how.how how c.in_ok-cpu.words.now c.in_ok-how.words.now _ c.in_ok-how.ensures third)))

pub returns : goal.returns
returns c = start_read c.args.script.now c.in_ok-task.task c.in_ok-cpu.cpu c.in_ok-how.how c.in_ok-signal.signal c.args.words.now c.in_ok-task.words.now c.in_ok-cpu.words.now c.in_ok-how.words.now c.in_ok-signal.rest.now
    c.in_ok-task.ensures c.in_ok-cpu.ensures c.in_ok-how.ensures c.in_ok-signal.ensures
