use Rattle.std.proofs.Common.{arith, length, eqb-true, sym, ◌∙◌}
use Rattle.xs_script.proofs.BlockLines.{reads_none, reads_all, reads_on, body_explains, body_end}
use Rattle.xs_script.proofs.reader.read_blocks.Goals as goal

pub lines-init : goal.lines-init
lines-init c = record {
  read = reads_none c.args.scope.now c.args.first c.args.text.now c.new-body.result c.new-body.ensures.none c.new-body.ensures.begun c.new-body.ensures.forked;
  room = omega arith;
}

pub lines-preserved : goal.lines-preserved
lines-preserved c = record {
  read = reads_on c.args.scope.now c.args.first c.lines.number c.args.text.now c.lines.left.now c.in-Ok.rest.now c.lines.body c.read_line.new.self c.lines.invariant.read c.in-Ok.ensures.taken;
  room = omega (arith, c.in-Ok.ensures.shorter);
}

pub overflow_add-number : goal.overflow_add-number
overflow_add-number c = omega (arith, c.requires.room, c.lines.invariant.room, c.in-Ok.ensures.shorter)

pub returns-in-Err-clause-refused : goal.returns-in-Err-clause-refused
returns-in-Err-clause-refused c =
    body_explains c.args.scope.now c.args.first c.lines.number c.args.text.now c.lines.left.now c.lines.body c.in-Err.e c.requires.whole c.lines.invariant.read c.in-Err.ensures.refused

pub returns-in-Ok-finish-clause-blocks : goal.returns-in-Ok-finish-clause-blocks
returns-in-Ok-finish-clause-blocks c =
    let over = eqb-true (length c.lines.left.now) 0 (sym c.is_empty.ensures ∙ c.lines-test.false) in
    let (is, none, ends) = c.in-Ok-finish.ensures.whole in
    reads_all c.args.scope.now c.args.first c.lines.number c.args.text.now c.lines.left.now c.lines.body c.in-Ok-finish.blocks over c.lines.invariant.read is none ends

pub returns-in-Err-finish-clause-refused : goal.returns-in-Err-finish-clause-refused
returns-in-Err-finish-clause-refused c =
    let over = eqb-true (length c.lines.left.now) 0 (sym c.is_empty.ensures ∙ c.lines-test.false) in
    body_end c.args.scope.now c.args.first c.lines.number c.args.text.now c.lines.left.now c.lines.body c.in-Err-finish.e over c.lines.invariant.read c.in-Err-finish.ensures.refused
