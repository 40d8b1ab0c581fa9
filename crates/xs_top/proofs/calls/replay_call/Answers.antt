use Rattle.xs_top.specs.declared.play.Play.TheVariants.{Replay}
use Rattle.xs_outside.specs.Outside.{outside}
use Rattle.xs_top.proofs.AnswerLemmas.{headline_told}
use Rattle.xs_top.proofs.KnownInputs.{may_run, may_refuse}
use Rattle.xs_top.proofs.calls.replay_call.Goals as goal

pub returns-clause-headline : goal.returns-clause-headline
returns-clause-headline g c = λ written.
    headline_told g.B.Bank.state Replay (outside g.S.Source g.K.Sink c.args.source.now c.args.sink.now) (outside g.S.Source g.K.Sink c.schedule_call.new.source c.schedule_call.new.sink)
    c.args.procs.now c.schedule_call.new.procs c.schedule_call.result written c.schedule_call.ensures.ends

pub returns-clause-runs : goal.returns-clause-runs
returns-clause-runs g c = λ input script is accepted.
    may_run g.B.Bank.state Replay input script (outside g.S.Source g.K.Sink c.args.source.now c.args.sink.now) (outside g.S.Source g.K.Sink c.schedule_call.new.source c.schedule_call.new.sink)
    c.args.procs.now c.schedule_call.new.procs c.schedule_call.result c.not_both.ensures is accepted c.schedule_call.ensures.ends

pub returns-clause-refuses : goal.returns-clause-refuses
returns-clause-refuses g c = λ input line is refused.
    may_refuse g.B.Bank.state Replay input line (outside g.S.Source g.K.Sink c.args.source.now c.args.sink.now) (outside g.S.Source g.K.Sink c.schedule_call.new.source c.schedule_call.new.sink)
    c.args.procs.now c.schedule_call.new.procs c.schedule_call.result c.not_both.ensures c.one_refusal.ensures is refused c.schedule_call.ensures.ends
