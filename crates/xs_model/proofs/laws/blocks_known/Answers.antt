use Rattle.xs_model.proofs.OuterBlocks.{outer_own_block, outer_other_block}
use Rattle.xs_model.proofs.StepLaws.{started_block, ran_block, grew_block, ended_block, killed_block, start_others, local_others, grow_others, end_others, killed_others}
use Rattle.xs_model.proofs.laws.blocks_known.Goals as goal

pub returns-clause-started : goal.returns-clause-started
returns-clause-started c = started_block

pub returns-clause-ran : goal.returns-clause-ran
returns-clause-ran c = ran_block

pub returns-clause-outer : goal.returns-clause-outer
returns-clause-outer c = outer_own_block

pub returns-clause-ended : goal.returns-clause-ended
returns-clause-ended c = ended_block

pub returns-clause-killed : goal.returns-clause-killed
returns-clause-killed c = killed_block

pub returns-clause-start_others : goal.returns-clause-start_others
returns-clause-start_others c = start_others

pub returns-clause-local_others : goal.returns-clause-local_others
returns-clause-local_others c = local_others

pub returns-clause-outer_others : goal.returns-clause-outer_others
returns-clause-outer_others c = outer_other_block

pub returns-clause-end_others : goal.returns-clause-end_others
returns-clause-end_others c = end_others

pub returns-clause-kill_others : goal.returns-clause-kill_others
returns-clause-kill_others c = killed_others

pub returns-clause-grew : goal.returns-clause-grew
returns-clause-grew c = grew_block

pub returns-clause-grow_others : goal.returns-clause-grow_others
returns-clause-grow_others c = grow_others
