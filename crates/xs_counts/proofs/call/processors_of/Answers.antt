-- Why an input is refused.
use Rattle.std.proofs.Common.{arith}
use Rattle.xs_script.specs.RefusalText.{refusal_text}
use Rattle.xs_outside.specs.Statuses.{too_long_text}
use Rattle.xs_top.specs.Answers.{TooLong, ByLine}
use Rattle.xs_counts.proofs.call.processors_of.Goals as goal

pub returns-then-input-gt-SCRIPT_LIMIT-clause-none : goal.returns-then-input-gt-SCRIPT_LIMIT-clause-none
returns-then-input-gt-SCRIPT_LIMIT-clause-none c = (too_long_text, TooLong (omega arith))

pub returns-in-Err-Refused-clause-none : goal.returns-in-Err-Refused-clause-none
returns-in-Err-Refused-clause-none c =
    let line = c.in-Err-Refused.field-0-0 in
    let kind = c.in-Err-Refused.field-0-1 in
    (refusal_text line kind, ByLine line kind (omega arith) (rw c.in-Err-Refused.field-0-is at c.in-Err-Refused.ensures.refused))
