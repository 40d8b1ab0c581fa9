use Rattle.std.proofs.Common.{arith}
use Rattle.xs_outside.specs.Outside.{output_of}
use Rattle.xs_check.proofs.Tellings.{may_judge, may_tell}
use Rattle.xs_check.proofs.call.check_call.Goals as goal

pub returns-in-Ok-clause-told : goal.returns-in-Ok-clause-told
returns-in-Ok-clause-told g c = λ input text right is verdict.
    may_tell c.one_verdict.ensures input _ text right _ _ (output_of g.K.Sink c.args.sink.now) (output_of g.K.Sink c.answer.new.sink) c.answer.result is
    c.in-Ok.ensures.bytes (λ short. c.in-Ok.ensures.end (omega arith)) verdict (rw c.as_slice.ensures.value at c.answer.ensures)

pub returns-in-Ok-clause-judges : goal.returns-in-Ok-clause-judges
returns-in-Ok-clause-judges g c = λ input script_text text script is parts spelled.
    may_judge c.no_refusal.ensures input _ script_text text script _ _ (output_of g.K.Sink c.args.sink.now) (output_of g.K.Sink c.answer.new.sink) c.answer.result is
    c.in-Ok.ensures.bytes (λ short. c.in-Ok.ensures.end (omega arith)) parts spelled (rw c.as_slice.ensures.value at c.answer.ensures)
