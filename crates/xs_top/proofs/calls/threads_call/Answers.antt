-- The script that was read is run, or there was none.
use Rattle.xs_outside.specs.Outside.{input_of, outside, output_of}
use Rattle.xs_top.specs.declared.play.Play.TheVariants.{Run}
use Rattle.xs_top.proofs.AnswerLemmas.{none_played, played, same_keeps}
use Rattle.xs_top.proofs.calls.threads_call.Goals as goal

pub write_run-requires-clause-valid : goal.write_run-requires-clause-valid
write_run-requires-clause-valid g c = λ _ _. c.in-Ok.ensures.script.accepted.spelled.valid

pub returns-in-Ok-clause-ends : goal.returns-in-Ok-clause-ends
returns-in-Ok-clause-ends g c =
    played g.B.Bank.state Run c.in-Ok.script (outside g.S.Source g.K.Sink c.args.source.now c.args.sink.now) (input_of g.S.Source c.read_play.new.source) (output_of g.K.Sink c.read_play.new.sink) (output_of g.K.Sink c.write_run.new.sink)
    c.args.procs.now c.write_run.new.procs c.in-Ok.ensures.script c.write_run.result c.write_run.ensures.ends

pub returns-in-Err-clause-ends : goal.returns-in-Err-clause-ends
returns-in-Err-clause-ends g c =
    none_played g.B.Bank.state Run (outside g.S.Source g.K.Sink c.args.source.now c.args.sink.now) (outside g.S.Source g.K.Sink c.read_play.new.source c.read_play.new.sink) c.args.procs.now c.in-Err.status c.in-Err.ensures.none

pub returns-in-Err-clause-processors : goal.returns-in-Err-clause-processors
returns-in-Err-clause-processors g c = same_keeps c.args.procs.now c.in-Err.status
