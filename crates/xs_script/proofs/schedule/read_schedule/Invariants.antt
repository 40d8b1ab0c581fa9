-- The schedule has the entries of the lines so far, and what is left comes after them.
use Rattle.std.proofs.Common.{◌≡◌, ◌+◌, ◌≤◌, length}
use Rattle.xs_script.specs.Schedule.{AreSchedLines}
use Rattle.xs_script.proofs.schedule.read_schedule.Given as goal

abbrev pub invariant-lines : goal.invariant-lines
invariant-lines l = record {
  cpus : l.schedule.cpus ≡ l.cpus;
  lines : AreSchedLines l.cpus l.first l.text l.schedule.entries l.number l.left;
  room : l.number + length l.left ≤ l.first + length l.text;
}

abbrev pub decreases-lines : goal.decreases-lines
decreases-lines l = length l.left
