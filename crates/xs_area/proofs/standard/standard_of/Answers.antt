use Rattle.std.proofs.Common.{◌≤◌, ◌∙◌, List, length, ap, sym, arith}
use Rattle.std.specs.Prelude.{slice_index}
use Rattle.xs_base.specs.declared.component.Row.{Row}
use Rattle.xs_base.specs.Area.{control_in}
use Rattle.xs_base.specs.Bytes.{splice}
use Rattle.xs_base.specs.File.{with_pkru}
use Rattle.xs_base.specs.Sets.{has}
use Rattle.xs_base.specs.Standard.{component_byte, saved_byte, control_bytes}
use Rattle.xs_base.proofs.SizeLemmas.{end_low}
use Rattle.xs_base.proofs.StandardLemmas.{control_written}
use Rattle.xs_area.proofs.standard.standard_of.Goals as goal

pub put_control-requires : goal.put_control-requires
put_control-requires c = omega (arith, end_low (has c.args.mask.0) c.args.layout.now, c.requires.room, c.put_components.ensures.len)

pub returns-then-has_control-clause-standard : goal.returns-then-has_control-clause-standard
returns-then-has_control-clause-standard c file h stands =
    let after = with_pkru file c.args.pkru in
    let long : 32 ≤ length c.put_components.new.out = omega (arith, end_low (has c.args.mask.0) c.args.layout.now, c.requires.room, c.put_components.ensures.len) in
    let value = stands.control ∙ sym (c.control_in.ensures ∙ ap control_in c.deref-then-has_control.ensures.value) in
    let each = rw c.deref.ensures.value at c.put_components.ensures.each in
    let written = c.put_control.ensures.written ∙ ap (λ v. splice 24 (control_bytes v) c.put_components.new.out) (sym value) in
    control_written after c.args.mask.0 c.args.out.now c.put_components.new.out c.put_control.new.out (sym c.has_control.ensures ∙ c.if-has_control.true) long c.put_components.ensures.len (λ k. each file h stands k ∙ ap (λ (rows : List Row). component_byte (saved_byte after) (λ r. r.offset) c.args.mask.0 k rows (slice_index c.args.out.now k)) (sym stands.rows_are)) written
