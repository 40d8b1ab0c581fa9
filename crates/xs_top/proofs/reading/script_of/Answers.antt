-- The input is longer than a script, or the reader refuses it.
use Rattle.std.proofs.Common.{◌<◌, length, arith}
use Rattle.xs_script.specs.RefusalText.{refusal_text}
use Rattle.xs_outside.specs.Outside.{script_limit, output_of}
use Rattle.xs_outside.specs.Statuses.{too_long_text}
use Rattle.xs_top.specs.Answers.{TooLong, ByLine}
use Rattle.xs_top.proofs.AnswerLemmas.{refused_told}
use Rattle.xs_top.proofs.reading.script_of.Goals as goal

pub returns-then-input-gt-SCRIPT_LIMIT-clause-none : goal.returns-then-input-gt-SCRIPT_LIMIT-clause-none
returns-then-input-gt-SCRIPT_LIMIT-clause-none g c =
    let long : script_limit < length c.args.input.now = omega arith in
    refused_told c.args.input.now too_long_text (output_of g.K.Sink c.args.sink.now) (output_of g.K.Sink c.tell_too_long.new.sink) c.tell_too_long.result (TooLong long) c.tell_too_long.ensures

pub returns-in-Ok-clause-script : goal.returns-in-Ok-clause-script
returns-in-Ok-clause-script g c = record { short = omega arith; spelled = c.in-Ok.ensures.spelled }

pub returns-in-Err-Refused-clause-none : goal.returns-in-Err-Refused-clause-none
returns-in-Err-Refused-clause-none g c =
    let tell = c.tell_refusal in
    let line = c.in-Err-Refused.line in
    let kind = c.in-Err-Refused.kind in
    refused_told c.args.input.now (refusal_text line kind) (output_of g.K.Sink c.args.sink.now) (output_of g.K.Sink tell.new.sink) tell.result
    (ByLine line kind (omega arith) (rw c.in-Err-Refused.field-0-is at c.in-Err-Refused.ensures.refused)) (rw (← c.in-Err-Refused.line-is, ← c.in-Err-Refused.kind-is) tell.ensures)
