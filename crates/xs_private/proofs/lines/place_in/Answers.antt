-- The register has a place, which is a function of its name.
use Rattle.std.proofs.Common.{sym}
use Rattle.xs_base.proofs.Registers.{named_place}
use Rattle.xs_private.proofs.lines.place_in.Goals as goal

pub unreachable-requires : goal.unreachable-requires
unreachable-requires c = c.in-None.ensures.register c.requires.0 c.requires.1

pub returns-clause-place : goal.returns-clause-place
returns-clause-place c = sym (named_place _ _ c.in-Some.ensures.register.0)
