use Rattle.std.proofs.Common.{◌++◌, take, rules}
use Rattle.std.proofs.lemmas.Grind.{common_steps}
use Rattle.xs_outside.proofs.KnownBytes.{Consumes_then}
use Rattle.xs_outside.proofs.reading.read_up_to.Goals as goal

-- where the piece finds no memory, it was taken all the same
pub returns-in-Err-extend_from_slice-clause-lost :
    goal.returns-in-Err-extend_from_slice-clause-lost
returns-in-Err-extend_from_slice-clause-lost g c =
    let piece = take c.in-Ok.count c.read.new.into in
    let taken = Consumes_then _ _ _ _ _ c.loop-chunk.invariant.0 c.in-Ok.ensures.bytes.0 in
    (c.loop-chunk.input.items ++ piece, search (rules, common_steps), taken)
