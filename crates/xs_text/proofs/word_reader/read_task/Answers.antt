use Rattle.xs_text.proofs.WordReads.{no_cut_task, no_task}
use Rattle.xs_text.proofs.word_reader.read_task.Goals as goal

pub returns-in_err-name : goal.returns-in_err-name
returns-in_err-name c = rw c.from_residual.ensures (no_cut_task c.args.script.now c.args.end c.args.bytes.now c.in_err-name.ensures)

pub returns-in_err-task : goal.returns-in_err-task
returns-in_err-task c = rw c.from_residual-in_err-task.ensures (no_task c.args.script.now c.args.end c.args.bytes.now c.in_ok-name.name.now c.in_ok-name.rest.now c.requires.valid c.requires.end c.in_ok-name.ensures.0 c.in_ok-name.ensures.1 c.in_err-task.ensures)
