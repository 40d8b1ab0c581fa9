-- A machine's table is what its fields give back.
use Rattle.xs_base.proofs.LayoutLemmas.{few_rows}
use Rattle.xs_layout.specs.Rows.{take_padded}
use Rattle.xs_layout.proofs.FieldLemmas.{are_rows}
use Rattle.xs_layout.proofs.layout.Layout.of_table.Goals as goal

pub padded-padded_rows-requires : goal.padded-padded_rows-requires
padded-padded_rows-requires c = few_rows c.args.rows.now c.requires

pub invariant_of-result : goal.invariant_of-result
invariant_of-result c = rw c.padded-padded_rows.ensures (are_rows c.args.rows.now c.requires (few_rows c.args.rows.now c.requires))

pub returns : goal.returns
returns c = rw c.padded-padded_rows.ensures (take_padded c.args.rows.now)
