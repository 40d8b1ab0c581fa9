use Rattle.xs_model.proofs.LargeUsers.{large_known}
use Rattle.xs_model.proofs.LargeAreas.{large_stays, large_grows, large_ends, large_killed, few_large}
use Rattle.xs_model.proofs.laws.large_known.Goals as goal

pub returns-clause-stays : goal.returns-clause-stays
returns-clause-stays c = large_stays

pub returns-clause-grows : goal.returns-clause-grows
returns-clause-grows c = large_grows

pub returns-clause-ends : goal.returns-clause-ends
returns-clause-ends c = large_ends

pub returns-clause-killed : goal.returns-clause-killed
returns-clause-killed c = large_killed

pub returns-clause-few : goal.returns-clause-few
returns-clause-few c = few_large

pub returns-clause-known : goal.returns-clause-known
returns-clause-known c = large_known
