use Rattle.std.proofs.Common.{◌≡◌, ◌++◌, map, take}
use Rattle.std.specs.Prelude.{vec_capacity}
use Rattle.xs_board.specs.Turn.{entry_event}
use Rattle.xs_board.proofs.telling.tell_turn.Given as goal

abbrev pub invariant-each : goal.invariant-each
invariant-each l = record {
  told : l.events.items ≡ l.initial.events.items ++ map (entry_event l.task) (take l.entry-index l.entries);
  capacity : vec_capacity l.events ≡ vec_capacity l.initial.events;
}
