use Rattle.xs_area.proofs.CopyLemmas.{row_put}
use Rattle.xs_area.proofs.copies.copy_row.Goals as goal

pub returns : goal.returns
returns c = row_put c.args.from.now c.args.at c.args.into c.args.row c.args.to.now c.put_component.new.out c.requires.there c.put_component.ensures
