-- A name has one place, and the machine has its component or not.
use Rattle.std.proofs.Common.{sym, ap, ◌∙◌}
use Rattle.std.proofs.lemmas.Bool.{false≢true}
use Rattle.xs_base.specs.declared.component.Place.{Place}
use Rattle.xs_base.specs.Layout.{has_row}
use Rattle.xs_base.proofs.Registers.{one_place, name_length, place_length, place_within}
use Rattle.xs_regs.proofs.register.place_of_bytes.Goals as goal

pub returns-in_err-place-clause-register : goal.returns-in_err-place-clause-register
returns-in_err-place-clause-register c = rw c.from_residual.ensures (λ place h. c.in_err-place.ensures place h.0)

pub returns-then-has_row-clause-sizes : goal.returns-then-has_row-clause-sizes
returns-then-has_row-clause-sizes c =
    let len = place_length c.args.name.now c.in_ok-place.place c.in_ok-place.ensures in
    (len.0, len.1, (name_length c.args.name.now c.in_ok-place.place c.in_ok-place.ensures).1)

pub returns-then-has_row-clause-within : goal.returns-then-has_row-clause-within
returns-then-has_row-clause-within c = place_within c.args.name.now c.in_ok-place.place c.in_ok-place.ensures

pub returns-else-has_row-clause-register : goal.returns-else-has_row-clause-register
returns-else-has_row-clause-register c = λ place h.
    let same = one_place c.args.name.now place c.in_ok-place.place h.0 c.in_ok-place.ensures in
    false≢true (sym c.if-has_row.false ∙ c.has_row.ensures ∙ ap (λ (p : Place). has_row c.args.layout.now p.comp.0) (sym same) ∙ h.1)
