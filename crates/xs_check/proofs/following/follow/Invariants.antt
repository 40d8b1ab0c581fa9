-- The machine stands after the events so far.
use Rattle.std.proofs.Common.{◌≡◌, reverse, take}
use Rattle.xs_legal.specs.Standing.{StandsAfter}
use Rattle.xs_check.proofs.following.follow.Given as goal

abbrev pub invariant-events : goal.invariant-events
invariant-events l = record {
  script : l.machine.script ≡ l.fn.machine.script;
  stands : StandsAfter l.machine (reverse (take l.event-index l.events));
  count : l.line ≡ l.event-index;
}
