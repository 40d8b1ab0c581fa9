-- One row more.
use Rattle.std.proofs.Common.{◌≡◌, ◌<◌, ◌≤◌, length, get_or, sym, ap, ◌∙◌, arith}
use Rattle.xs_base.specs.declared.component.Row.{Row}
use Rattle.xs_base.specs.Sets.{has}
use Rattle.xs_base.specs.Standard.{saved_byte}
use Rattle.xs_base.proofs.SizeLemmas.{end_covers, end_low}
use Rattle.xs_base.proofs.StandardLemmas.{component_written, component_skip, component_all}
use Rattle.xs_regs.proofs.StandardBytes.{saved_written}
use Rattle.xs_regs.proofs.file.File.components_into.Goals as goal
use Rattle.xs_regs.proofs.file.File.components_into.Goals.{then-has, else-has}

pub put_component-requires-clause-within : goal.put_component-requires-clause-within
put_component-requires-clause-within c =
    let rows : c.rows.i < length c.args.self.now.rows = omega (arith, ap length c.layout-layout.ensures.rows) in
    let row : c.row_at-row.result ≡ get_or c.args.self.now.rows c.rows.i c.row_at-row.result = rw c.layout-layout.ensures.rows at c.row_at-row.ensures.at in
    let ends = end_covers (has c.args.mask.0) c.args.self.now.rows c.rows.i c.row_at-row.result rows row (sym c.has.ensures ∙ c.if-has.true) in
    let size = c.row_at-row.ensures.sound.size in
    omega arith

pub put_component-requires-clause-legacy : goal.put_component-requires-clause-legacy
put_component-requires-clause-legacy c = let low = end_low (has c.args.mask.0) c.args.self.now.rows in omega arith

pub rows-preserved : goal.rows-preserved
rows-preserved c =
    let rows : c.rows.i < length c.args.self.now.rows = omega (arith, ap length c.layout-layout.ensures.rows) in
    let row : c.row_at-row.result ≡ get_or c.args.self.now.rows c.rows.i c.row_at-row.result = rw c.layout-layout.ensures.rows at c.row_at-row.ensures.at in
    elim c.if-has.branch [
      | then-has w ↦
          let size : c.row_at-row.result.size ≡ length w.part.result.now = c.row_at-row.ensures.sound.size ∙ sym w.part.ensures.len in
          let written = saved_written c.args.self.now c.row_at-row.result w.part.result.now c.rows.out w.put_component.new.out w.part.ensures.bytes size w.put_component.ensures in
          record {
            len = ap length w.out-is ∙ written.len ∙ c.rows.invariant.len;
            bytes = λ k. rw w.out-is (component_written (saved_byte c.args.self.now) (λ (r : Row). r.offset) c.args.mask.0 c.args.self.now.rows c.rows.i c.row_at-row.result c.rows.out w.put_component.new.out k rows row (sym c.has.ensures ∙ w.if-has.true) written ∙ c.rows.invariant.bytes k);
          }
      | else-has w ↦ record {
        len = ap length w.out-is ∙ c.rows.invariant.len;
        bytes = λ k. rw w.out-is (component_skip (saved_byte c.args.self.now) (λ (r : Row). r.offset) c.args.mask.0 c.args.self.now.rows c.rows.i c.row_at-row.result k _ rows row (sym c.has.ensures ∙ w.if-has.false) ∙ c.rows.invariant.bytes k);
      }
    ]

pub returns-clause-each : goal.returns-clause-each
returns-clause-each c = λ k.
    let past : length c.args.self.now.rows ≤ c.rows.i = omega (arith, ap length c.layout-layout.ensures.rows) in
    sym (component_all (saved_byte c.args.self.now) (λ (r : Row). r.offset) c.args.mask.0 c.args.self.now.rows c.rows.i k _ past) ∙ c.rows.invariant.bytes k
