-- One row more.
use Rattle.std.proofs.Common.{◌≡◌, ◌<◌, ◌≤◌, length, get_or, sym, ap, ◌∙◌, arith}
use Rattle.xs_base.specs.Compact.{place}
use Rattle.xs_base.specs.Standard.{saved_byte}
use Rattle.xs_base.proofs.StandardLemmas.{component_written, component_skip, component_all}
use Rattle.xs_bank.proofs.SaveLemmas.{saved_written}
use Rattle.xs_bank.proofs.saving.put_rows.Goals as goal
use Rattle.xs_bank.proofs.saving.put_rows.Goals.{then-has, else-has}

pub each-preserved : goal.each-preserved
each-preserved c =
    let rows : c.each.i < length c.args.file.now.rows = omega (arith, ap length c.layout-layout.ensures.rows) in
    let row : c.row_at-row.result ≡ get_or c.args.file.now.rows c.each.i c.row_at-row.result = rw c.layout-layout.ensures.rows at c.row_at-row.ensures.at in
    elim c.if-has.branch [
      | then-has w ↦
          let size : c.row_at-row.result.size ≡ length w.part.result.now = c.row_at-row.ensures.sound.size ∙ sym w.part.ensures.len in
          let at : w.place-at.result ≡ place c.args.file.now.rows c.args.names.0 c.row_at-row.result = w.place-at.ensures ∙ ap (λ rs. place rs c.args.names.0 c.row_at-row.result) c.layout-layout.ensures.rows in
          let written = saved_written c.args.file.now c.row_at-row.result w.place-at.result (place c.args.file.now.rows c.args.names.0 c.row_at-row.result) w.part.result.now c.each.into w.put_component.new.out at w.part.ensures.bytes size w.put_component.ensures in
          record {
            len = ap length w.into-is ∙ written.len ∙ c.each.invariant.len;
            bytes = λ k. rw w.into-is (component_written (saved_byte c.args.file.now) (place c.args.file.now.rows c.args.names.0) c.args.written.0 c.args.file.now.rows c.each.i c.row_at-row.result c.each.into w.put_component.new.out k rows row (sym c.has.ensures ∙ w.if-has.true) written ∙ c.each.invariant.bytes k);
          }
      | else-has w ↦ record {
        len = ap length w.into-is ∙ c.each.invariant.len;
        bytes = λ k. rw w.into-is (component_skip (saved_byte c.args.file.now) (place c.args.file.now.rows c.args.names.0) c.args.written.0 c.args.file.now.rows c.each.i c.row_at-row.result k _ rows row (sym c.has.ensures ∙ w.if-has.false) ∙ c.each.invariant.bytes k);
      }
    ]

pub returns-clause-each : goal.returns-clause-each
returns-clause-each c = λ k.
    let past : length c.args.file.now.rows ≤ c.each.i = omega (arith, ap length c.layout-layout.ensures.rows) in
    sym (component_all (saved_byte c.args.file.now) (place c.args.file.now.rows c.args.names.0) c.args.written.0 c.args.file.now.rows c.each.i k _ past) ∙ c.each.invariant.bytes k
