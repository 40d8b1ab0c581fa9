use Rattle.std.proofs.Common.{◌+◌}
use Rattle.xs_check.specs.Split.{Divided, Undivided}
use Rattle.xs_check.proofs.Tellings.{rest_all}
use Rattle.xs_check.proofs.split.split.Goals as goal

pub returns-in-Some : goal.returns-in-Some
returns-in-Some c =
    let input = c.args.input.now in
    let at = c.in-Some.at in
    rw (rest_all (at + 3) input) (Divided at c.in-Some.ensures.0 c.in-Some.ensures.1)

pub returns-in-None : goal.returns-in-None
returns-in-None c = Undivided c.in-None.ensures
