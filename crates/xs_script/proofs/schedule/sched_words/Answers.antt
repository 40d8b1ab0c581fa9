use Rattle.xs_script.proofs.ScheduleLines.{no_sched_word, no_sched_feed}
use Rattle.xs_script.proofs.schedule.sched_words.Goals as goal

pub returns-in_err-words-clause-words : goal.returns-in_err-words-clause-words
returns-in_err-words-clause-words c = rw c.from_residual.ensures (no_sched_word c.args.text.now c.in_err-words.ensures)

pub returns-in_err-words-2-clause-words : goal.returns-in_err-words-2-clause-words
returns-in_err-words-2-clause-words c = rw c.from_residual-in_err-words-2.ensures (no_sched_feed c.args.text.now c.in_ok-words.words.now c.in_ok-words.ensures c.in_err-words-2.ensures)
