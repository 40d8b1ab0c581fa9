-- A bit set or cleared.
use Rattle.std.proofs.Common.{◌<◌, ◌^◌, ◌==◌, ◌∙◌, arith}
use Rattle.xs_base.specs.Sets.{has}
use Rattle.xs_base.proofs.SetLemmas.{has_or, has_without, put_in, put_out}
use Rattle.xs_base.proofs.component.Features.with.Goals as goal

pub returns-then-there : goal.returns-then-there
returns-then-there c d = rw c.if-there.true (has_or c.args.self.0 c.args.c.0 d c.requires ∙ put_in (has c.args.self.0 d) (d == c.args.c.0))

pub returns-else-there : goal.returns-else-there
returns-else-there c d =
    let fits : c.args.self.0 < 2 ^ 64 = omega arith in
    rw c.if-there.false (has_without c.args.self.0 c.args.c.0 d c.requires fits ∙ put_out (has c.args.self.0 d) (d == c.args.c.0))
