-- The processors so far are set up, and the numbers, the counts and the processors past the script's are as they were.
use Rattle.std.proofs.Common.{◌≡◌, drop}
use Rattle.xs_top.specs.Run.{AreNumbered, AreUncounted}
use Rattle.xs_top.proofs.SetUpLemmas.{AreFirstSetUp}
use Rattle.xs_top.proofs.procs.set_up.Given as goal

abbrev pub invariant-each : goal.invariant-each
invariant-each g l = record {
  first : AreFirstSetUp g.B.Bank.state l.script l.number l.procs;
  numbers : AreNumbered l.procs;
  counts : AreUncounted g.B.Bank.state l.procs;
  others : drop l.script.cpus l.procs ≡ drop l.script.cpus l.fn.procs;
}
