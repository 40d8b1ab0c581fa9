-- Which exit status a history has.
use Rattle.std.specs.Prelude.{List, if◌then◌else◌}
use Rattle.xs_model.specs.declared.event.Event.{Event}
use Rattle.xs_model.specs.History.{has_kill}
use Rattle.xs_outside.specs.declared.status.Status.{Status}
use Rattle.xs_outside.specs.declared.status.Status.TheVariants as statuses

-- the status of a history that was written: whether a task is killed in it
abbrev pub status_of : List Event → Status
status_of history = if has_kill history then statuses.Killed else statuses.Done
