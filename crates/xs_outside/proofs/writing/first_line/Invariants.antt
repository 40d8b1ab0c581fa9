-- No line feed is among the bytes that were looked at.
use Rattle.std.proofs.Common.{take}
use Rattle.xs_outside.specs.Outside.{LacksLineFeed}
use Rattle.xs_outside.proofs.writing.first_line.Given as goal

abbrev pub invariant-bytes : goal.invariant-bytes
invariant-bytes l = LacksLineFeed (take l.i l.text)
