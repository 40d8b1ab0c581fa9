-- The two numbers are those of a row of a tile.
use Rattle.std.proofs.Common.{◌≡◌, arith}
use Rattle.xs_regs.proofs.Members.{one_index}
use Rattle.xs_regs.proofs.TileRows.{tile_row_at, tile_row_parts}
use Rattle.xs_regs.proofs.register.tile_row.Goals as goal
use Rattle.xs_regs.proofs.register.tile_row.Goals.{else-tile-lt8-via-then-tile-lt8+else-row-lt16, else-tile-lt8-via-else-tile-lt8}

pub returns-in_err-tile : goal.returns-in_err-tile
returns-in_err-tile c = rw c.from_residual.ensures (λ place t.
    let parts = tile_row_parts c.args.tile c.args.row.now place t in
    let tiles = t.tiles in
    c.in_err-tile.ensures t.tile (omega arith, parts.0))

pub returns-in_err-row : goal.returns-in_err-row
returns-in_err-row c = rw c.from_residual-in_err-row.ensures (λ place t.
    let parts = tile_row_parts c.args.tile c.args.row.now place t in
    c.in_err-row.ensures t.row parts.1)

pub returns-then-row-lt16 : goal.returns-then-row-lt16
returns-then-row-lt16 c =
    tile_row_at c.args.tile c.args.row.now c.in_ok-tile.tile c.in_ok-row.row c.in_ok-tile.ensures c.in_ok-row.ensures c.if-tile-lt8.true c.if-row-lt16.true

pub returns-else-tile-lt8 : goal.returns-else-tile-lt8
returns-else-tile-lt8 c = λ place t.
    let parts = tile_row_parts c.args.tile c.args.row.now place t in
    let digit = parts.0 in
    let read = c.in_ok-tile.ensures.1 in
    let same : c.in_ok-row.row ≡ t.row = one_index c.args.row.now c.in_ok-row.row t.row c.in_ok-row.ensures parts.1 in
    elim c.else-tile-lt8.branch [
      | else-tile-lt8-via-then-tile-lt8+else-row-lt16 w ↦ omega arith
      | else-tile-lt8-via-else-tile-lt8 w ↦ omega arith
    ]
