use Rattle.std.proofs.Common.{◌+◌, ◌∙◌, refl, sym, ap, length, arith}
use Rattle.std.proofs.lemmas.Bool.{eqb-true, eq-eqb, false≢true}
use Rattle.std.specs.Prelude.{slice_range}
use Rattle.xs_base.specs.Component.{component_size}
use Rattle.xs_base.proofs.ComponentLemmas.{pkru_size}
use Rattle.xs_area.proofs.StoredLemmas.{pkru_eight, put_pkru, put_present}
use Rattle.xs_area.proofs.standard.put_stored.Goals as goal

pub put_component-requires-clause-size : goal.put_component-requires-clause-size
put_component-requires-clause-size c = ap length c.pkru_bytes.ensures ∙ pkru_eight c.args.pkru ∙ sym (ap component_size (eqb-true c.args.row.comp.0 9 (sym c.if-eq.ensures)) ∙ pkru_size)

pub put_component-requires-clause-within : goal.put_component-requires-clause-within
put_component-requires-clause-within c =
    omega (arith, ap length c.pkru_bytes.ensures, pkru_eight c.args.pkru, ap component_size (eqb-true c.args.row.comp.0 9 (sym c.if-eq.ensures)), pkru_size, c.requires.sound.size, c.requires.room)

pub returns-then-eq : goal.returns-then-eq
returns-then-eq c =
    put_pkru c.args.area.now c.args.bits.0 c.args.pkru c.args.at c.args.row c.pkru_bytes.result c.args.out.now c.put_component.new.out (eqb-true c.args.row.comp.0 9 (sym c.if-eq.ensures)) c.requires.sound c.pkru_bytes.ensures c.put_component.ensures

pub returns-then-has : goal.returns-then-has
returns-then-has c =
    put_present c.args.area.now c.args.bits.0 c.args.pkru c.args.at c.args.row (slice_range c.args.area.now c.args.at (c.args.at + c.args.row.size)) c.args.out.now c.put_component-then-has.new.out (λ same. false≢true (c.if-eq.ensures ∙ eq-eqb c.args.row.comp.0 9 same)) (sym c.if-has.ensures) (c.requires.inside (sym c.if-has.ensures)) refl c.put_component-then-has.ensures
