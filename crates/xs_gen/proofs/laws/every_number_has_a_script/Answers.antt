-- The script is that of 64 tasks.
use Rattle.xs_gen.proofs.GeneratedScripts.{script_of, generated_is_script}
use Rattle.xs_gen.proofs.TextLengths.{generated_short}
use Rattle.xs_gen.proofs.laws.every_number_has_a_script.Goals as goal

pub returns-clause-script : goal.returns-clause-script
returns-clause-script c = λ number small. (script_of number, generated_is_script number)

pub returns-clause-length : goal.returns-clause-length
returns-clause-length c = generated_short
