use Rattle.std.proofs.Common.{◌+◌, ◌≤◌, ap, arith}
use Rattle.xs_base.specs.Layout.{standard_size}
use Rattle.xs_base.specs.Sets.{has}
use Rattle.xs_base.proofs.SizeLemmas.{end_covers}
use Rattle.xs_base.proofs.RowLemmas.{row_index}
use Rattle.xs_bank.specs.Bank.{loaded_from}
use Rattle.xs_bank_facts.proofs.TurnLemmas.{ready_other}
use Rattle.xs_bank_facts.proofs.calls.load_standard.Goals as goal

pub xrstor-requires-clause-places : goal.xrstor-requires-clause-places
xrstor-requires-clause-places g c i r row wanted named =
    let rows = (g.B.Bank.state c.args.bank.now).file.rows in
    let mask = c.of_machine-mask.result.0 in
    let at = row_index rows i r row in
    let ends : r.offset + r.size ≤ standard_size rows mask = end_covers (has mask) rows i r at.0 at.1 wanted in
    let same = ap (λ rs. standard_size rs mask) c.requires in
    omega (arith, ends, same, c.standard_size.ensures.size, c.if-len-standard_size.false)

pub returns-in-Ok-clause-others : goal.returns-in-Ok-clause-others
returns-in-Ok-clause-others g c id m bytes other =
    let before = (g.B.Bank.state c.args.bank.now).file.rows in
    ready_other (g.B.Bank.state c.xrstor.new.self) (loaded_from before c.args.area.now.id c.of_machine-mask.result.0 c.args.area.now.bytes.items) id m bytes c.in-Ok.ensures.tracked other
