use Rattle.std.proofs.Common.{◌≡◌, ap, sym, ◌∙◌, arith}
use Rattle.std.proofs.lemmas.Bool.{eqb-true}
use Rattle.xs_base.specs.Component.{component_size}
use Rattle.xs_base.proofs.ComponentLemmas.{x87_size, pkru_size, cleaned_pkru}
use Rattle.xs_base.proofs.bytes.clean.Goals as goal

pub clean_x87-requires : goal.clean_x87-requires
clean_x87-requires c =
    let x87 : c.args.comp.0 ≡ 0 = eqb-true c.args.comp.0 0 (sym c.eq.ensures ∙ c.if-eq.true) in
    omega (arith, c.requires, ap component_size x87, x87_size)

pub returns-then-eq : goal.returns-then-eq
returns-then-eq c = rw (eqb-true c.args.comp.0 0 (sym c.eq.ensures ∙ c.if-eq.true)) c.clean_x87.ensures

pub clear-requires : goal.clear-requires
clear-requires c =
    let pkru : c.args.comp.0 ≡ 9 = eqb-true c.args.comp.0 9 (sym c.eq-else-eq.ensures ∙ c.if-eq-2.true) in
    omega (arith, c.requires, ap component_size pkru, pkru_size)

pub returns-then-eq-2 : goal.returns-then-eq-2
returns-then-eq-2 c =
    let pkru : c.args.comp.0 ≡ 9 = eqb-true c.args.comp.0 9 (sym c.eq-else-eq.ensures ∙ c.if-eq-2.true) in
    rw (pkru, c.clear.ensures.written) (cleaned_pkru c.args.at c.args.out.now (omega (arith, c.requires, ap component_size pkru, pkru_size)))
