-- Each answer is the verdict's.
use Rattle.std.proofs.Common.{◌<◌, ◌≤◌, length, arith}
use Rattle.xs_outside.specs.declared.status.Status.TheVariants as statuses
use Rattle.xs_outside.specs.Outside.{output_of, script_limit}
use Rattle.xs_outside.specs.Statuses.{too_long_text}
use Rattle.xs_script.specs.RefusalText.{refusal_text}
use Rattle.xs_check.specs.Verdict.{LongInput, LongScript, NoScript, check_limit}
use Rattle.xs_check.proofs.Tellings.{history_ends, tell_ends}
use Rattle.xs_check.proofs.call.answer.Goals as goal

pub returns-then-input-gt-CHECK_LIMIT : goal.returns-then-input-gt-CHECK_LIMIT
returns-then-input-gt-CHECK_LIMIT g c =
    let long : check_limit < length c.args.input.now = omega arith in
    tell_ends c.args.input.now too_long_text statuses.Refused (output_of g.K.Sink c.args.sink.now) (output_of g.K.Sink c.tell_too_long.new.sink) c.tell_too_long.result (LongInput long) c.tell_too_long.ensures

pub returns-then-script_text-gt-SCRIPT_LIMIT : goal.returns-then-script_text-gt-SCRIPT_LIMIT
returns-then-script_text-gt-SCRIPT_LIMIT g c =
    let tell = c.tell_too_long-then-script_text-gt-SCRIPT_LIMIT in
    let short : length c.args.input.now ≤ check_limit = omega arith in
    let long : script_limit < length c.split.result.0.now = omega arith in
    tell_ends c.args.input.now too_long_text statuses.Refused (output_of g.K.Sink c.args.sink.now) (output_of g.K.Sink tell.new.sink) tell.result (LongScript _ _ short c.split.ensures long) tell.ensures

pub returns-in-Ok : goal.returns-in-Ok
returns-in-Ok g c =
    let short : length c.args.input.now ≤ check_limit = omega arith in
    let small : length c.split.result.0.now ≤ script_limit = omega arith in
    history_ends c.args.input.now c.split.result.0.now c.split.result.1.now c.in-Ok.script (output_of g.K.Sink c.args.sink.now) (output_of g.K.Sink c.answer_history.new.sink) c.answer_history.result
    (record { short = short; split = c.split.ensures; small = small }) c.in-Ok.ensures.spelled c.answer_history.ensures

pub returns-in-Err-Refused : goal.returns-in-Err-Refused
returns-in-Err-Refused g c =
    let tell = c.tell_refusal in
    let line = c.in-Err-Refused.line in
    let kind = c.in-Err-Refused.kind in
    let short : length c.args.input.now ≤ check_limit = omega arith in
    let small : length c.split.result.0.now ≤ script_limit = omega arith in
    tell_ends c.args.input.now (refusal_text line kind) statuses.Refused (output_of g.K.Sink c.args.sink.now) (output_of g.K.Sink tell.new.sink) tell.result
    (NoScript _ _ line kind (record { short = short; split = c.split.ensures; small = small }) (rw c.in-Err-Refused.field-0-is at c.in-Err-Refused.ensures.refused))
    (rw (← c.in-Err-Refused.line-is, ← c.in-Err-Refused.kind-is) tell.ensures)
