use Rattle.std.proofs.Common.{sym}
use Rattle.xs_layout.proofs.CursorLemmas.{end_first}
use Rattle.xs_layout.proofs.cursor.Cursor.new.Goals as goal

pub returns-clause-before : goal.returns-clause-before
returns-clause-before c = λ rows. sym (end_first c.args.names.0 576 rows)
