-- A byte isn't zero where not all are.
use Rattle.std.proofs.Common.{not, ap, sym, ◌∙◌}
use Rattle.xs_base.proofs.ZeroLemmas.{some_or_all}
use Rattle.xs_bank.proofs.checks.has_byte.Goals as goal

pub returns : goal.returns
returns c = ap not c.are_zero.ensures ∙ sym (some_or_all c.args.bytes.now)
