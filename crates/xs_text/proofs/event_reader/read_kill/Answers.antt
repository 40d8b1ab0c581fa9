use Rattle.xs_text.proofs.EventReads.{kill_only, kill_read, after_task, after_signo}
use Rattle.xs_text.proofs.event_reader.read_kill.Goals as goal

pub returns-in_err-task : goal.returns-in_err-task
returns-in_err-task c = rw c.from_residual.ensures (kill_only c.args.script.now c.args.words.now (λ task signo why rest fits e. c.in_err-task.ensures task _ fits e))

pub returns-in_err-signo : goal.returns-in_err-signo
returns-in_err-signo c = rw c.from_residual-in_err-signo.ensures (kill_only c.args.script.now c.args.words.now (λ task signo why rest fits e.
    c.in_err-signo.ensures signo _ tt (after_task c.args.script.now c.in_ok-task.task task c.args.words.now c.in_ok-task.words.now _ c.requires c.in_ok-task.ensures fits e)))

pub returns-in_err-why : goal.returns-in_err-why
returns-in_err-why c = rw c.from_residual-in_err-why.ensures (kill_only c.args.script.now c.args.words.now (λ task signo why rest fits e.
    let second = after_task c.args.script.now c.in_ok-task.task task c.args.words.now c.in_ok-task.words.now _ c.requires c.in_ok-task.ensures fits e in
    c.in_err-why.ensures why rest tt (after_signo c.in_ok-signo.signo signo c.in_ok-task.words.now c.in_ok-signo.words.now _ c.in_ok-signo.ensures second)))

pub returns : goal.returns
returns c = kill_read c.args.script.now c.in_ok-task.task c.in_ok-signo.signo c.in_ok-why.why c.args.words.now c.in_ok-task.words.now c.in_ok-signo.words.now c.in_ok-why.rest.now
    c.in_ok-task.ensures c.in_ok-signo.ensures c.in_ok-why.ensures
