use Rattle.xs_top.specs.declared.play.Play.TheVariants.{Run}
use Rattle.xs_text.specs.Text.{history_text}
use Rattle.xs_outside.specs.Outside.{output_of}
use Rattle.xs_top.proofs.AnswerLemmas.{history_told, history_keeps}
use Rattle.xs_top.proofs.playing.write_run.Goals as goal

pub returns-in-Ok-clause-ends : goal.returns-in-Ok-clause-ends
returns-in-Ok-clause-ends g c =
    history_told g.B.Bank.state Run c.args.script.now c.run_on_threads-history.result (output_of g.K.Sink c.args.sink.now) (output_of g.K.Sink c.tell_history.new.sink) c.args.procs.now c.run_on_threads-history.new.procs c.tell_history.result
    c.run_on_threads-history.ensures.run (rw c.events.ensures at c.tell_history.ensures)

pub returns-in-Ok-clause-processors : goal.returns-in-Ok-clause-processors
returns-in-Ok-clause-processors g c =
    history_keeps c.run_on_threads-history.result (history_text c.args.script.now c.run_on_threads-history.result) (output_of g.K.Sink c.args.sink.now) (output_of g.K.Sink c.tell_history.new.sink) c.args.procs.now c.run_on_threads-history.new.procs c.tell_history.result
    (rw c.events.ensures at c.tell_history.ensures)
