-- Two histories with the same text are the same, since each event has one spelling.
use Rattle.xs_text.proofs.OneSpelling.{same_history}
use Rattle.xs_text.proofs.history.one_history.Goals as goal

pub returns-clause-events : goal.returns-clause-events
returns-clause-events c = λ script a b valid. same_history script valid a b

pub returns-clause-legal : goal.returns-clause-legal
returns-clause-legal c = λ script a b valid first second.
    same_history script valid a b (c.a_legal_history_has_a_text.ensures script a valid first) (c.a_legal_history_has_a_text.ensures script b valid second)
