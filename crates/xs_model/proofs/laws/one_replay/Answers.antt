use Rattle.xs_model.proofs.Replaying.{one_replay}
use Rattle.xs_model.proofs.laws.one_replay.Goals as goal

pub returns : goal.returns
returns c = one_replay
