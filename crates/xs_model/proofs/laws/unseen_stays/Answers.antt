use Rattle.xs_model.proofs.UnseenLaws.{mark_unseen, counts_unseen, remains_unseen, last_unseen, held_unseen}
use Rattle.xs_model.proofs.laws.unseen_stays.Goals as goal

pub returns-clause-mark : goal.returns-clause-mark
returns-clause-mark c = mark_unseen

pub returns-clause-counts : goal.returns-clause-counts
returns-clause-counts c = counts_unseen

pub returns-clause-remains : goal.returns-clause-remains
returns-clause-remains c = remains_unseen

pub returns-clause-last : goal.returns-clause-last
returns-clause-last c = last_unseen

pub returns-clause-held : goal.returns-clause-held
returns-clause-held c = held_unseen
