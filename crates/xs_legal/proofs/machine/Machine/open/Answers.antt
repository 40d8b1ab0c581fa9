use Rattle.std.proofs.Common.{ap, ◌∙◌, sym, subst}
use Rattle.std.specs.Prelude.{ℕ, Option, None, replicate}
use Rattle.xs_model.specs.Script.{IsValid}
use Rattle.xs_legal.proofs.Following.{opening_standing, opening_stands}
use Rattle.xs_legal.proofs.machine.Machine.open.Goals as goal

pub invariant_of-result : goal.invariant_of-result
invariant_of-result c =
    opening_standing _ _ _ _
    (subst IsValid (sym c.in_ok-script.ensures) c.requires) c.in_ok-blocks.ensures c.in_ok-marks.ensures (c.in_ok-lasts.ensures ∙ ap (λ (n : ℕ). replicate {A = Option ℕ} n None) c.len.ensures)

pub returns : goal.returns
returns c = (
  c.in_ok-script.ensures,
  opening_stands _ _ _ _ c.in_ok-blocks.ensures c.in_ok-marks.ensures (c.in_ok-lasts.ensures ∙ ap (λ (n : ℕ). replicate {A = Option ℕ} n None) c.len.ensures),
)
