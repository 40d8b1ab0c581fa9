use Rattle.xs_text.proofs.EventReads.{outer_only, outer_read, after_task, after_number}
use Rattle.xs_text.proofs.event_reader.read_outer.Goals as goal

pub returns-in_err-task : goal.returns-in_err-task
returns-in_err-task c = rw c.from_residual.ensures (outer_only c.args.script.now c.args.words.now (λ task line reply rest fits e. c.in_err-task.ensures task _ fits.0 e))

pub returns-in_err-line : goal.returns-in_err-line
returns-in_err-line c = rw c.from_residual-in_err-line.ensures (outer_only c.args.script.now c.args.words.now (λ task line reply rest fits e.
    c.in_err-line.ensures line _ fits.1 (after_task c.args.script.now c.in_ok-task.task task c.args.words.now c.in_ok-task.words.now _ c.requires c.in_ok-task.ensures fits.0 e)))

pub returns-in-None : goal.returns-in-None
returns-in-None c = outer_only c.args.script.now c.args.words.now (λ task line reply rest fits e.
    let second = after_task c.args.script.now c.in_ok-task.task task c.args.words.now c.in_ok-task.words.now _ c.requires c.in_ok-task.ensures fits.0 e in
    c.in-None.ensures reply rest fits.2 (after_number c.in_ok-line.line line c.in_ok-task.words.now c.in_ok-line.words.now _ c.in_ok-line.ensures fits.1 second))

pub returns-in-Some : goal.returns-in-Some
returns-in-Some c = outer_read c.args.script.now c.in_ok-task.task c.in_ok-line.line c.in-Some.reply c.args.words.now c.in_ok-task.words.now c.in_ok-line.words.now c.in-Some.rest.now
    c.in_ok-task.ensures c.in_ok-line.ensures c.in-Some.ensures
