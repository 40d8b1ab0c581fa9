-- Without tiles the file has none.
use Rattle.std.proofs.Common.{sym, ap, ◌∙◌, List}
use Rattle.xs_base.specs.declared.component.Row.{Row}
use Rattle.xs_base.specs.Layout.{has_row}
use Rattle.xs_machine.proofs.TileLemmas.{nothing_released}
use Rattle.xs_machine.proofs.tiles.release.Goals as goal

pub returns-else-has_row-clause-file : goal.returns-else-has_row-clause-file
returns-else-has_row-clause-file g c =
    sym (nothing_released (g.B.Bank.state c.args.cpu.now.bank).file c.loads.ensures.file
    (ap (λ (rows : List Row). has_row rows 18) c.requires.set_up.rows_are ∙ sym c.has_row.ensures ∙ c.if-has_row.false))
