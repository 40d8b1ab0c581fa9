-- A turn is within the quantum, which is a number of 32 bits.
use Rattle.std.proofs.Common.{sym, ap, ◌∙◌, arith}
use Rattle.xs_model.specs.State.{BlockState}
use Rattle.xs_legal.proofs.state.State.run.Goals as goal

pub overflow_add-ran : goal.overflow_add-ran
overflow_add-ran c =
    let stage = sym (ap (λ (b : BlockState). b.stage) c.self.view_is) ∙ c.in-Turn.is in
    let short = c.requires.short c.in-Turn.cpu c.in-Turn.ran stage in
    omega arith
