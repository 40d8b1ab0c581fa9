-- The script's processors ran, and those behind them are as they were.
use Rattle.std.proofs.Common.{List, ◌++◌, sym, subst}
use Rattle.xs_machine.specs.declared.proc.Proc.{Proc}
use Rattle.xs_machine.specs.Processors.{AreSetUp, KeepProcessors}
use Rattle.xs_machine.proofs.Parts.{all_keep, all_run, front_set_up}
use Rattle.xs_machine.proofs.threads.run_threads.Goals as goal

pub run_all-requires-clause-set_up : goal.run_all-requires-clause-set_up
run_all-requires-clause-set_up g c κs within =
    let parts = c.split_at_mut-workers in
    front_set_up g.B.Bank.state c.args.script.now parts.result.0.now parts.result.1.now parts.ensures.front_len (subst (AreSetUp g.B.Bank.state c.args.script.now) parts.ensures.value c.requires.set_up)

pub returns-clause-banks : goal.returns-clause-banks
returns-clause-banks g c =
    let parts = c.split_at_mut-workers in
    let set_up = subst (AreSetUp g.B.Bank.state c.args.script.now) parts.ensures.value c.requires.set_up in
    let ran = c.run_all.ensures in
    all_run g.B.Bank.state c.args.script.now parts.result.0.now parts.result.1.now parts.ensures.front_len set_up c.run_all.new.procs ran.many c.run_all.result ran.each ran.beyond

pub returns-clause-kept : goal.returns-clause-kept
returns-clause-kept g c =
    let parts = c.split_at_mut-workers in
    let set_up = subst (AreSetUp g.B.Bank.state c.args.script.now) parts.ensures.value c.requires.set_up in
    let ran = c.run_all.ensures in
    subst (λ (procs : List (Proc g.row.B.Denot)). KeepProcessors procs (c.run_all.new.procs ++ parts.result.1.now)) (sym parts.ensures.value)
    (all_keep g.B.Bank.state c.args.script.now parts.result.0.now parts.result.1.now parts.ensures.front_len set_up c.run_all.new.procs ran.many ran.kept)
