-- What a return reads of a frame is what the delivery wrote.
use Rattle.std.proofs.Common.{ap}
use Rattle.xs_base.specs.Frame.{delivered, after_return}
use Rattle.xs_frame.proofs.RoundLemmas.{returns_file}
use Rattle.xs_frame.proofs.laws.a_return_undoes_a_delivery.Goals as goal

pub returns-clause-file : goal.returns-clause-file
returns-clause-file c = λ rows private valid. returns_file private valid.file.is_file valid.file.control valid.tiles_are (valid.file.bytes 9)

pub returns-clause-task : goal.returns-clause-task
returns-clause-task c = λ rows private valid. ap (after_return (delivered private)) (returns-clause-file c rows private valid)
