use Rattle.std.proofs.Common.{◌<◌, length, arith}
use Rattle.std.proofs.lemmas.Option.{slice_get_within}
use Rattle.xs_check.proofs.split.find_divider.Goals as goal

pub returns : goal.returns
returns c = λ i is.
    let within : i < length c.args.input.now = slice_get_within c.args.input.now i 37 is.first in
    c.places.invariant i (omega arith) is
