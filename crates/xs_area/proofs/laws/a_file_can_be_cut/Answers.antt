use Rattle.xs_area.proofs.FileLaws.{a_file_can_be_cut}
use Rattle.xs_area.proofs.laws.a_file_can_be_cut.Goals as goal

pub returns : goal.returns
returns c = a_file_can_be_cut
