use Rattle.xs_model.proofs.LargeUsers.{trap_of_user}
use Rattle.xs_model.proofs.SignalLaws.{outer_outside, return_inside, outer_of_user, named_user}
use Rattle.xs_model.proofs.laws.named_known.Goals as goal

pub returns-clause-outer : goal.returns-clause-outer
returns-clause-outer c = outer_outside

pub returns-clause-inside : goal.returns-clause-inside
returns-clause-inside c = return_inside

pub returns-clause-user : goal.returns-clause-user
returns-clause-user c = outer_of_user

pub returns-clause-named : goal.returns-clause-named
returns-clause-named c = named_user

pub returns-clause-trap : goal.returns-clause-trap
returns-clause-trap c = trap_of_user
