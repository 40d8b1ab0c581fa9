-- One block more has its task.
use Rattle.std.proofs.Common.{◌≡◌, ◌+◌, ◌∙◌, ap, subst, sym, arith}
use Rattle.xs_pool.specs.Pool.{Pool}
use Rattle.xs_board.specs.Opening.{AreFirst, IsFirstTask}
use Rattle.xs_board.proofs.FirstTasks.{users_few, users_step, pool_out, pool_capacity, pool_large, pool_given, first_more}
use Rattle.xs_board.proofs.opening.first_tasks.Goals as goal

pub first_task-requires-clause-few : goal.first_task-requires-clause-few
first_task-requires-clause-few c = let few = users_few c.args.blocks.now in omega arith

pub each-preserved : goal.each-preserved
each-preserved c =
    let kind = c.block-item.result.kind in
    let pool = c.each.pool in
    let step = users_step c.args.blocks.now c.each.block-index c.block-item.result c.each-test.true c.block-item.is in
    let after = c.in_ok-task.ensures.pool in
    let out = ap (λ (p : Pool). p.small.out) after ∙ pool_out kind pool in
    let given = ap (λ (p : Pool). p.given) after ∙ pool_given kind pool in
    let name : c.len.result ≡ c.each.block-index = omega arith in
    record {
      count = omega arith;
      room = omega arith;
      first = subst (AreFirst c.args.layout.now c.args.blocks.now (c.each.block-index + 1)) (sym c.push_reserved.ensures.items)
          (first_more c.args.layout.now c.args.blocks.now c.each.block-index c.each.tasks.items c.block-item.result c.in_ok-task.task c.each.invariant.first c.each.invariant.count c.each-test.true c.block-item.is
          (subst (λ n. IsFirstTask c.args.layout.now kind n c.in_ok-task.task) name c.in_ok-task.ensures.first));
      rows = c.in_ok-task.ensures.rows ∙ c.each.invariant.rows;
      out = omega arith;
      capacity = ap (λ (p : Pool). p.small.capacity) after ∙ pool_capacity kind pool ∙ c.each.invariant.capacity;
      large = ap (λ (p : Pool). p.large) after ∙ pool_large kind pool ∙ c.each.invariant.large;
      given = omega arith;
    }

pub returns-clause-first : goal.returns-clause-first
returns-clause-first c t block below at = c.each.invariant.first t block (omega arith) at
