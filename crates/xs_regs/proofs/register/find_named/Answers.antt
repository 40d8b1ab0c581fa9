-- A name is one of the three kinds.
use Rattle.xs_regs.proofs.NameKinds.{last_kind}
use Rattle.xs_regs.proofs.register.find_named.Goals as goal

pub returns : goal.returns
returns c = last_kind c.args.name.now _ c.in_default-find_alone.ensures c.in_default.ensures c.find_tile_row.ensures
