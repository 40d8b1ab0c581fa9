use Rattle.std.proofs.Common.{arith}
use Rattle.xs_script.specs.LineOrder.{AtVersion}
use Rattle.xs_script.specs.Head.{head_stand, lines_of_head}
use Rattle.xs_script.proofs.Fronts.{line_explains}
use Rattle.xs_script.proofs.HeadSteps.{head_goes_on, head_counts}
use Rattle.xs_script.proofs.reader.read_head.Goals as goal

pub returns-in-Err-clause-refused : goal.returns-in-Err-clause-refused
returns-in-Err-clause-refused c =
    let inv = c.lines.invariant in
    line_explains AtVersion (head_stand c.lines.head) 1 c.lines.number c.args.text.now c.lines.left.now (lines_of_head c.lines.head) c.in-Err.e inv.front (omega (arith, inv.next)) c.in-Err.ensures.refused

pub lines-preserved : goal.lines-preserved
lines-preserved c =
    let inv = c.lines.invariant in
    let step = c.in-Ok.ensures.taken in
    record {
      head = step.taken.fits;
      front = head_goes_on c.args.text.now c.lines.left.now c.in-Ok.rest.now c.lines.head c.read_line.new.self inv.front step;
      next = head_counts c.lines.number c.lines.left.now c.in-Ok.rest.now c.lines.head c.read_line.new.self inv.next step;
      room = omega (arith, c.in-Ok.ensures.shorter);
    }
