-- One block more.
use Rattle.std.proofs.Common.{◌≡◌, ℕ, List, ◌+◌, ◌++◌, ◌∙◌, ap, sym, arith, append_assoc, length, length-append, drop}
use Rattle.xs_board.specs.Opening.{born_if, born_from}
use Rattle.xs_board.proofs.FirstTasks.{born_step, born_few}
use Rattle.xs_board.proofs.opening.born_blocks.Goals as goal

pub each-preserved : goal.each-preserved
each-preserved c =
    let i = c.each.block-index in
    let kind = c.block-item.result.kind in
    let number : c.each.number ≡ i = c.each.invariant.number in
    let rest = born_from (i + 1) (drop (i + 1) c.args.blocks.now) in
    let step = born_step c.args.blocks.now i c.block-item.result c.each-test.true c.block-item.is in
    let few = born_few kind c.each.number in
    let long = ap length c.add_born.ensures.born ∙ length-append c.each.born.items (born_if kind c.each.number) in
    let before = c.each.invariant.few in
    record {
      so_far =
          ap (λ (list : List ℕ). list ++ rest) c.add_born.ensures.born
          ∙ append_assoc c.each.born.items (born_if kind c.each.number) rest
          ∙ ap (λ (n : ℕ). c.each.born.items ++ (born_if kind n ++ rest)) number
          ∙ ap (λ (list : List ℕ). c.each.born.items ++ list) (sym step)
          ∙ c.each.invariant.so_far;
      number = omega (arith, number);
      few = omega (arith, few, long, before);
      room = omega arith;
    }
