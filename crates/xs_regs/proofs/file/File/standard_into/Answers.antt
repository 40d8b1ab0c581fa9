-- The bytes have room for MXCSR, and with it they are the standard bytes.
use Rattle.std.proofs.Common.{sym, ap, ◌∙◌, arith}
use Rattle.xs_base.specs.Sets.{has}
use Rattle.xs_base.specs.Standard.{control_bytes}
use Rattle.xs_base.specs.Bytes.{splice}
use Rattle.xs_base.proofs.SizeLemmas.{end_low}
use Rattle.xs_base.proofs.StandardLemmas.{control_written}
use Rattle.xs_regs.proofs.file.File.standard_into.Goals as goal

pub put_control-requires : goal.put_control-requires
put_control-requires c =
    let low = end_low (has c.args.mask.0) c.args.self.now.rows in
    let len = c.components_into.ensures.len in
    omega arith

pub returns-then-has_control : goal.returns-then-has_control
returns-then-has_control c =
    let low = end_low (has c.args.mask.0) c.args.self.now.rows in
    let len = c.components_into.ensures.len in
    let written = c.put_control.ensures.written ∙ ap (λ f. splice 24 (control_bytes f.mxcsr) c.components_into.new.out) c.self.view_is in
    control_written c.args.self.now c.args.mask.0 c.args.out.now c.components_into.new.out c.put_control.new.out (sym c.has_control.ensures ∙ c.if-has_control.true) (omega arith) len c.components_into.ensures.each written
