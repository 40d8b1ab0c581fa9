-- Each line more is that of one event.
use Rattle.std.proofs.Common.{◌∷◌, ◌∙◌, [], length, ap, arith, length-append}
use Rattle.xs_text.proofs.FirstBad.{front_on}
use Rattle.xs_text.proofs.reader.read_history.Goals as goal

pub lines-preserved : goal.lines-preserved
lines-preserved c =
    let inv = c.lines.invariant in
    let pushed = c.in-Ok.ensures.ok in
    let long = ap length pushed ∙ length-append c.lines.history (c.in-Some.read.0 ∷ []) in
    record {
      front = rw pushed (front_on c.args.script.now c.args.text.now c.lines.history c.in-Some.read.0 c.lines.left.now c.in-Some.read.1.now inv.front c.in-Some.ensures);
      few = omega (arith, long, inv.next);
      next = omega (arith, long, inv.next);
    }
