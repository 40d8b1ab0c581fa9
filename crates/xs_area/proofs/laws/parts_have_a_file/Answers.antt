use Rattle.xs_area.proofs.FileLaws.{parts_have_a_file}
use Rattle.xs_area.proofs.laws.parts_have_a_file.Goals as goal

pub returns : goal.returns
returns c = parts_have_a_file
