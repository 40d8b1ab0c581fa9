-- The task in the slot has the registers of the bytes, or is as it was.
use Rattle.std.proofs.Common.{◌≡◌, length, refl, sym, ap, ◌∙◌, subst}
use Rattle.std.proofs.lemmas.Option.{same_Some}
use Rattle.xs_base.specs.RegisterSet.{SetResult, set_errno}
use Rattle.xs_base.specs.Task.{PrivateTask}
use Rattle.xs_model.specs.declared.event.Reply.TheVariants as replies
use Rattle.xs_model.specs.declared.event.Reply.{Reply}
use Rattle.xs_model.specs.Line.{count_or_error, errno_number}
use Rattle.xs_model.specs.Outer.{set_task}
use Rattle.xs_image.specs.declared.checking.RegsetError.{RegsetError}
use Rattle.xs_image.specs.declared.checking.RegsetError.TheVariants as errors
use Rattle.xs_image.specs.Answer.{refused_as}
use Rattle.xs_task.specs.declared.task.Task.{Task}
use Rattle.xs_task.specs.Parked.{IsParked}
use Rattle.xs_board.specs.Deed.{WasWritten, last_set}
use Rattle.xs_board.proofs.registers.put_set.Goals as goal

-- a refusal leaves the task
refused_keeps : (error : RegsetError) (p : PrivateTask) → set_task (refused_as error) p ≡ p
refused_keeps errors.Fault p = refl
refused_keeps errors.Count p = refl
refused_keeps (errors.Header error) p = refl

pub returns-in-Ok : goal.returns-in-Ok
returns-in-Ok c before is =
    let n = length c.args.bytes.now in
    let after = c.set.new.task in
    let ok = c.in-Ok.ensures in (
      after,
      refl,
      subst (λ (b : Task). WasWritten c.args.layout.now c.args.which n c.args.bytes.now (replies.Count n) b after) (same_Some c.in-Some.task before (sym c.in-Some.is ∙ is)) (record {
        reply_is = λ p parked. sym (ap (λ (r : SetResult). count_or_error n (set_errno r)) (ok.error p parked));
        whole = c.set.ensures.whole;
        stands = λ p parked. subst (λ (r : SetResult). IsParked c.args.layout.now after (set_task r p)) (sym (ok.error p parked)) (ok.accepted p parked);
        name = ap (λ (t : Task). t.name) ok.last;
        last = ap (λ (t : Task). t.last) ok.last;
      }),
    )

pub returns-in-Err : goal.returns-in-Err
returns-in-Err c before is =
    let n = length c.args.bytes.now in
    let old = c.in-Some.task in
    let after = c.set.new.task in
    let error = c.in-Err.error in
    let refused = c.in-Err.ensures in
    let stays : after ≡ old = refused.refused in
    let plain : c.refuse.result ≡ replies.Error (errno_number c.errno.result) = c.refuse.ensures in (
      after,
      refl,
      subst (λ (b : Task). WasWritten c.args.layout.now c.args.which n c.args.bytes.now c.refuse.result b after) (same_Some old before (sym c.in-Some.is ∙ is)) (record {
        reply_is = λ p parked. plain ∙ sym (ap (count_or_error n) (ap set_errno (refused.error p parked) ∙ c.errno.ensures));
        whole = c.set.ensures.whole;
        stands = λ p parked. subst (λ (q : PrivateTask). IsParked c.args.layout.now after q) (sym (ap (λ (r : SetResult). set_task r p) (refused.error p parked) ∙ refused_keeps error p)) (subst (λ (t : Task). IsParked c.args.layout.now t p) (sym stays) parked);
        name = ap (λ (t : Task). t.name) stays;
        last = ap (λ (t : Task). t.last) stays ∙ sym (ap (λ (r : Reply). last_set r old.last) plain);
      }),
    )
