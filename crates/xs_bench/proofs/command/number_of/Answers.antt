use Rattle.std.proofs.Common.{ap, ◌∙◌, arith}
use Rattle.std.specs.Prelude.{slice_get}
use Rattle.xs_bench.proofs.Numbers.{plain_number}
use Rattle.xs_bench.proofs.command.number_of.Goals as goal

pub returns : goal.returns
returns c =
    plain_number c.args.word.now c.parse.result c.in_ok-number.number c.in_ok-first.field-0.now c.parse.ensures.value.0 c.in_ok-number.ensures.value
    (c.in_ok-first.ensures.value ∙ ap (λ x. slice_get x 0) c.as_bytes.ensures.value) c.if-first-eq43.false (λ e. omega arith)
