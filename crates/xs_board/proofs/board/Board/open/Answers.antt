-- The board before its first event.
use Rattle.std.proofs.Common.{◌≡◌, ◌≤◌, List, length, map, ap, sym, subst, ◌∙◌, arith}
use Rattle.std.specs.Prelude.{vec_capacity}
use Rattle.std.specs.VecDeque.{deque_capacity}
use Rattle.xs_model.specs.declared.event.Event.{Event}
use Rattle.xs_model.specs.declared.script.Block.{Block}
use Rattle.xs_model.specs.Bound.{most_events, most_of}
use Rattle.xs_pool.specs.Pool.{Pool, Stock}
use Rattle.xs_board.specs.Board.{IsBoard, IsKeptBeside}
use Rattle.xs_board.specs.Opening.{first_member, users_in, born_from, AreFirst}
use Rattle.xs_board.proofs.Beginning.{bound_small, board_open, beside_open, born_few_all}
use Rattle.xs_board.proofs.board.Board.open.Goals as goal

pub most_events-room-requires : goal.most_events-room-requires
most_events-room-requires c =
    let small = bound_small c.args.script c.requires.valid in
    rw c.as_slice-blocks.ensures (record { lines = small.0; signals = small.1; blocks = small.2 })

pub invariant_of-result : goal.invariant_of-result
invariant_of-result c =
    let script = c.args.script in
    let tasks = c.in_ok-tasks.tasks.items in
    let pool = c.first_tasks.new.pool in
    let room = vec_capacity c.in_ok-events.events in
    let queue = c.in_ok-ready.ready in
    let members = c.in_ok-members.members.items in
    let blocks = c.as_slice-blocks.ensures in
    let opened = c.in_ok-pool.ensures.opened in
    let most : most_events script ≤ room = omega (arith, c.most_events-room.ensures ∙ ap most_of blocks, c.in_ok-events.ensures.capacity) in (
      subst (λ (history : List Event). IsBoard (record { script = script; history = history; home = tasks; pool = pool; room = room })) (sym c.in_ok-events.ensures.items)
          (board_open script tasks pool room c.requires.valid
          (c.in_ok-tasks.ensures.count ∙ ap length blocks)
          (subst (λ (all : List Block). AreFirst script.layout all (length all) tasks) blocks c.in_ok-tasks.ensures.first)
          (c.in_ok-tasks.ensures.rows ∙ ap (λ (p : Pool). p.rows) opened)
          (c.in_ok-tasks.ensures.out ∙ ap users_in blocks)
          (ap (λ (s : Stock). s.out) c.in_ok-tasks.ensures.large ∙ ap (λ (p : Pool). p.large.out) opened)
          (ap (λ (s : Stock). s.capacity) c.in_ok-tasks.ensures.large ∙ ap (λ (p : Pool). p.large.capacity) opened)
          (c.in_ok-tasks.ensures.given ∙ ap users_in blocks)
          most),
      subst (λ (history : List Event). IsKeptBeside (record { script = script; history = history; home = tasks; pool = pool; room = room }) queue.items (deque_capacity queue) c.len-living.result members) (sym c.in_ok-events.ensures.items)
          (beside_open script tasks pool room queue.items (deque_capacity queue) c.len-living.result members
          (c.in_ok-ready.ensures.born ∙ ap (born_from 0) blocks)
          (subst (λ (all : List Block). length all ≤ deque_capacity queue) blocks c.in_ok-ready.ensures.room)
          (omega (arith, c.len-living.ensures))
          (c.in_ok-members.ensures ∙ ap (map first_member) blocks)),
    )

pub overflow_cast-living : goal.overflow_cast-living
overflow_cast-living c =
    let few = c.requires.valid.few in
    let born : length c.in_ok-ready.ready.items ≡ length (born_from 0 c.args.script.blocks) = ap length (c.in_ok-ready.ensures.born ∙ ap (born_from 0) c.as_slice-blocks.ensures) in
    let most = born_few_all 0 c.args.script.blocks in
    let long : c.len-living.result ≡ length c.in_ok-ready.ready.items = omega (arith, c.len-living.ensures) in
    omega (arith, few, born, most, long)
