-- MXCSR stands beside the components, and the header behind it.
use Rattle.std.proofs.Common.{◌∙◌, arith}
use Rattle.xs_bank.proofs.SaveLemmas.{area_written, header_kept, header_beside}
use Rattle.xs_bank.proofs.saving.put_area.Goals as goal

pub returns-then-control-clause-written : goal.returns-then-control-clause-written
returns-then-control-clause-written c =
    let len = c.put_components.ensures.len in
    let is = rw c.mxcsr.ensures at c.put_control.ensures.written in
    area_written c.args.file.now c.args.names.0 c.args.control c.args.written.0 c.args.into.now c.put_components.new.into c.put_control.new.out len c.put_components.ensures.each c.if-control.true (omega arith) is

pub returns-then-control-clause-header : goal.returns-then-control-clause-header
returns-then-control-clause-header c = λ k inside.
    let len = c.put_components.ensures.len in
    let is = rw c.mxcsr.ensures at c.put_control.ensures.written in
    header_beside c.args.file.now c.put_components.new.into c.put_control.new.out (omega arith) is k inside
    ∙ header_kept c.args.file.now c.args.names.0 c.args.written.0 c.args.into.now c.put_components.new.into c.layout.ensures.file.layout c.put_components.ensures.each k inside

pub returns-else-control-clause-header : goal.returns-else-control-clause-header
returns-else-control-clause-header c = λ k inside.
    header_kept c.args.file.now c.args.names.0 c.args.written.0 c.args.into.now c.put_components.new.into c.layout.ensures.file.layout c.put_components.ensures.each k inside
