use Rattle.std.proofs.Common.{ap, ◌∙◌, not, sym, subst}
use Rattle.std.specs.List.{list_any}
use Rattle.xs_model.specs.Machine.{machine}
use Rattle.xs_model.specs.State.{BlockState, lives}
use Rattle.xs_legal.specs.Standing.{Standing, StandsAfter}
use Rattle.xs_legal.proofs.machine.Machine.whole.Goals as goal

pub returns : goal.returns
returns c = λ past stands.
    ap not (c.any_lives.ensures ∙ ap (list_any (λ (block : BlockState). lives block.stage)) (c.as_slice.ensures.value ∙ (subst (λ (s : Standing). StandsAfter s past) (sym c.self.view_is) stands).blocks_are ∙ ap (λ (s : Standing). (machine s.script past).blocks) c.self.view_is))
