use Rattle.xs_outside.specs.Outside.{output_of}
use Rattle.xs_counts.proofs.HeldInputs.{held_ends}
use Rattle.xs_counts.proofs.call.replay_input.Goals as goal

pub returns-clause-ends : goal.returns-clause-ends
returns-clause-ends g c =
    let told = c.replay_call.ensures in
    held_ends g.B.Bank.state c.args.input.now _ (output_of g.K.Sink c.args.sink.now) (output_of g.K.Sink c.replay_call.new.sink) c.args.procs.now c.replay_call.new.procs c.replay_call.result
    (record {
      short = c.requires.short;
      no_usage = told.no_usage;
      no_verdict = told.no_verdict;
      headline = told.headline;
      refused = told.refused;
      read_fault = λ e. (told.read_fault e).0;
      write_fault = told.write_fault;
      no_memory = λ e. (told.no_memory e).1;
      unfailed = told.unfailed;
    })
