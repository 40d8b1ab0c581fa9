-- A row's name has at least three bytes after the stem, the second of them a point.
use Rattle.std.proofs.Common.{length, slice_index, ap, arith}
use Rattle.xs_regs.proofs.TileRows.{tile_row_text}
use Rattle.xs_regs.proofs.register.find_tile_row.Goals as goal

pub returns-in_default : goal.returns-in_default
returns-in_default c = λ place t.
    let text = tile_row_text c.args.name.now c.in_ok-numbers.numbers.now place c.in_ok-numbers.ensures t in
    omega (arith, ap length text)

pub returns-in_default-2 : goal.returns-in_default-2
returns-in_default-2 c = λ place t.
    let text = tile_row_text c.args.name.now c.in_ok-numbers.numbers.now place c.in_ok-numbers.ensures t in
    omega (arith, ap (λ ds. slice_index ds 1) text)
