-- What a copy from a task's area needs of it.
use Rattle.xs_task.proofs.CopyLemmas.{long, state_places}
use Rattle.xs_task.proofs.laws.an_area_has_its_places.Goals as goal

pub returns-clause-long : goal.returns-clause-long
returns-clause-long c = λ rows lease area. long rows lease area

pub returns-clause-places : goal.returns-clause-places
returns-clause-places c = λ rows lease area. state_places rows lease area
