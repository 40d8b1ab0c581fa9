-- The members below the next number are released, and their numbers joined the queue.
use Rattle.std.proofs.Common.{◌≡◌, ℕ, ◌+◌, ◌<◌, ◌≤◌, ◌++◌, length, drop}
use Rattle.std.specs.VecDeque.{deque_capacity}
use Rattle.xs_board.specs.Member.{member_at, released}
use Rattle.xs_board.specs.Putting.{children_in}
use Rattle.xs_board.proofs.putting.free_children.Given as goal

abbrev pub invariant-each : goal.invariant-each
invariant-each l = record {
  each : length l.members.items ≡ length l.initial.members.items;
  done : (u : ℕ) → u < l.number → member_at l.members.items u ≡ released l.parent (member_at l.initial.members.items u);
  rest : (u : ℕ) → l.number ≤ u → member_at l.members.items u ≡ member_at l.initial.members.items u;
  ready : l.ready.items ++ children_in l.parent l.number (drop l.number l.initial.members.items) ≡ l.initial.ready.items ++ children_in l.parent 0 l.initial.members.items;
  room : length l.initial.ready.items + length (children_in l.parent 0 l.initial.members.items) ≤ deque_capacity l.ready;
  capacity : deque_capacity l.ready ≡ deque_capacity l.initial.ready;
}
