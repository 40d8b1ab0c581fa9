-- Each event is that of a step of a machine whose private tasks are valid.
use Rattle.xs_text.proofs.LegalEvents.{legal_spelled}
use Rattle.xs_text.proofs.history.a_legal_history_has_a_text.Goals as goal

pub returns : goal.returns
returns c = λ script history. legal_spelled c.machine_known.ensures.valid script history
