-- A byte isn't zero where not all are.
use Rattle.std.proofs.Common.{not, ap, sym, ◌∙◌}
use Rattle.std.specs.Prelude.{slice_range}
use Rattle.xs_base.proofs.ZeroLemmas.{some_or_all}
use Rattle.xs_area.proofs.check.has_reserved.Goals as goal

pub returns : goal.returns
returns c = ap not c.are_zero.ensures ∙ sym (some_or_all (slice_range c.args.bytes.now 528 576))
