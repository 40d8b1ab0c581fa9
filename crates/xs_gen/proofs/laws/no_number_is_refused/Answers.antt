-- A text that spells a script is not refused.
use Rattle.xs_gen.specs.Generated.{generated_text}
use Rattle.xs_gen.proofs.laws.no_number_is_refused.Goals as goal

pub returns : goal.returns
returns c = λ number line kind small refused.
    let found = c.every_number_has_a_script.ensures.script number small in
    c.not_both.ensures (generated_text number) found.0 line kind found.1 refused
