use Rattle.std.proofs.Common.{arith, length, eqb-true, sym, ◌∙◌}
use Rattle.xs_script.proofs.Outlines.{looked_on, looked_through, looked_explains, end_explains}
use Rattle.xs_script.proofs.outline.look_through.Goals as goal

pub lines-preserved : goal.lines-preserved
lines-preserved c = record {
  looked = looked_on c.args.first c.lines.number c.args.text.now c.lines.left.now c.in-Ok.rest.now c.lines.outline c.read_line.new.self c.lines.invariant.looked c.in-Ok.ensures.taken;
  room = omega (arith, c.in-Ok.ensures.shorter);
}

pub returns-in-Err-clause-refused : goal.returns-in-Err-clause-refused
returns-in-Err-clause-refused c =
    looked_explains c.args.first c.lines.number c.args.text.now c.lines.left.now c.lines.outline c.in-Err.e c.lines.invariant.looked c.in-Err.ensures.refused

pub returns-in-Ok-finish-clause-whole : goal.returns-in-Ok-finish-clause-whole
returns-in-Ok-finish-clause-whole c =
    let over = eqb-true (length c.lines.left.now) 0 (sym c.is_empty.ensures ∙ c.lines-test.false) in
    let end = c.in-Ok-finish.ensures.whole in
    let names = c.in-Ok-finish.names in
    looked_through c.args.first c.lines.number c.args.text.now c.lines.left.now c.lines.outline names.0 names.1 over c.lines.invariant.looked end.0 end.1 end.2

pub returns-in-Err-finish-clause-refused : goal.returns-in-Err-finish-clause-refused
returns-in-Err-finish-clause-refused c =
    let over = eqb-true (length c.lines.left.now) 0 (sym c.is_empty.ensures ∙ c.lines-test.false) in
    end_explains c.args.first c.lines.number c.args.text.now c.lines.left.now c.lines.outline c.in-Err-finish.e over c.lines.invariant.looked c.in-Err-finish.ensures.refused
