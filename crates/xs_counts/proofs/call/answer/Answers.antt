use Rattle.std.proofs.Common.{◌≤◌, length, arith}
use Rattle.xs_outside.specs.Outside.{output_of}
use Rattle.xs_counts.proofs.Counted.{counts_told, when_none, without_history}
use Rattle.xs_counts.proofs.call.answer.Goals as goal

-- the input is refused
pub returns-in_default-found : goal.returns-in_default-found
returns-in_default-found g c =
    let replayed = c.replay_input-status in
    let refused = when_none c.in-Ok.found _ c.in_default-found.not-Some c.in-Ok.ensures.none in
    without_history g.B.Bank.state c.args.input.now (output_of g.K.Sink c.args.sink.now) (output_of g.K.Sink replayed.new.sink) c.args.procs.now replayed.new.procs replayed.result
    (replayed.ensures.refused refused.0 refused.1) replayed.ensures.ends

pub returns-then-not-has_history : goal.returns-then-not-has_history
returns-then-not-has_history g c =
    let replayed = c.replay_input-status in
    without_history g.B.Bank.state c.args.input.now (output_of g.K.Sink c.args.sink.now) (output_of g.K.Sink replayed.new.sink) c.args.procs.now replayed.new.procs replayed.result
    (λ has. (let yes = c.has_history.ensures.1 has in cc (yes, c.if-not-has_history.true))) replayed.ensures.ends

pub returns : goal.returns
returns g c =
    let replayed = c.replay_input-status in
    let found = rw c.in-Some.is at c.in-Ok.ensures.some in
    let le : c.in-Some.count ≤ length replayed.new.procs = omega (arith, found.1.spelled.valid.cpus, found.2, replayed.auto.procs, c.requires.many) in
    counts_told g.B.Bank.state c.args.input.now found.0 c.in-Some.count (output_of g.K.Sink c.args.sink.now) (output_of g.K.Sink replayed.new.sink) (output_of g.K.Sink c.tell_counts.new.sink) c.args.procs.now replayed.new.procs replayed.result c.tell_counts.result
    c.one_script.ensures found.1 found.2 le replayed.ensures.numbers (c.has_history.ensures.0 c.if-not-has_history.false) replayed.ensures.ends c.tell_counts.ensures
