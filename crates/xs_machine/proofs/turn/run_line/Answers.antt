-- The line is one of a turn that runs.
use Rattle.std.proofs.Common.{◌≡◌, length, refl, sym, ap, ◌∙◌, arith}
use Rattle.xs_model.specs.Script.{is_user}
use Rattle.xs_board.specs.declared.turn.Entry.{Entry}
use Rattle.xs_machine.proofs.LineLemmas.{block_known, back_here, place_here, layout_here, on_here, outside_here, handles_here, none_here, line_here, entry_here, halted_lines, handler_over, body_over, outer_over, halted_over, after_line, if_longer}
use Rattle.xs_machine.proofs.ScriptLemmas.{line_found, known_line, kernel_line, place_fits, line_follows}
use Rattle.xs_machine.proofs.EntryLemmas.{keeps_more, keeps_cpu, keeps_halted}
use Rattle.xs_machine.proofs.Marks.{end_mark, outer_mark, halt_mark, ran_mark, halted_name}
use Rattle.xs_machine.proofs.turn.run_line.Goals as goal

pub is_user-user-requires : goal.is_user-user-requires
is_user-user-requires g c =
    let r = c.requires.turning in
    rw r.running.turning.name (block_known c.args.script.now r.t r.c r.first r.before r.start c.args.entries.now.items r.private c.args.task.now c.args.cpu.now (g.B.Bank.state c.args.cpu.now.bank) r.running (λ past. (c.machine_known.ensures.known c.args.script.now past).2))

pub line_of-requires : goal.line_of-requires
line_of-requires g c =
    let r = c.requires.turning in
    rw (c.come_back.ensures.name, r.running.turning.name) (block_known c.args.script.now r.t r.c r.first r.before r.start c.args.entries.now.items r.private c.args.task.now c.args.cpu.now (g.B.Bank.state c.args.cpu.now.bank) r.running (λ past. (c.machine_known.ensures.known c.args.script.now past).2))

pub returns-in_default-clause-after : goal.returns-in_default-clause-after
returns-in_default-clause-after g c = λ t cpu first before start p are.
    let script = c.args.script.now in
    let items = c.args.entries.now.items in
    let bank = g.B.Bank.state c.args.cpu.now.bank in
    let bank1 = g.B.Bank.state c.come_back.new.cpu.bank in
    let user = c.is_user-user.result in
    let same : user ≡ is_user script t = c.is_user-user.ensures ∙ ap (is_user script) are.turning.name in
    let none = none_here script t cpu first before start items p c.args.task.now c.args.cpu.now bank are c.come_back.new.task c.come_back.new.cpu bank1 user same c.come_back.ensures c.in_default.ensures.line in
    body_over script t cpu first before start items p c.args.task.now c.come_back.new.task c.args.cpu.now c.come_back.new.cpu bank bank1 are
    (back_here script t cpu first before start items p c.args.task.now c.args.cpu.now bank are c.come_back.new.task c.come_back.new.cpu bank1 user same c.come_back.ensures)
    (c.lines_follow.ensures.end script t start items p (length items) are.run none (handler_over script t cpu first before start items p c.args.task.now c.args.cpu.now bank are none))

pub returns-in_default-clause-kept : goal.returns-in_default-clause-kept
returns-in_default-clause-kept g c = keeps_cpu c.args.cpu.now c.come_back.new.cpu c.come_back.ensures.cpu

pub returns-then-is_outer-clause-after : goal.returns-then-is_outer-clause-after
returns-then-is_outer-clause-after g c = λ t cpu first before start p are.
    let script = c.args.script.now in
    let items = c.args.entries.now.items in
    let bank = g.B.Bank.state c.args.cpu.now.bank in
    let bank1 = g.B.Bank.state c.come_back.new.cpu.bank in
    let user = c.is_user-user.result in
    let order = c.in-Some.order.now in
    let same : user ≡ is_user script t = c.is_user-user.ensures ∙ ap (is_user script) are.turning.name in
    let back = back_here script t cpu first before start items p c.args.task.now c.args.cpu.now bank are c.come_back.new.task c.come_back.new.cpu bank1 user same c.come_back.ensures in
    let at = line_here script t cpu first before start items p c.args.task.now c.args.cpu.now bank are c.come_back.new.task c.come_back.new.cpu bank1 user same c.come_back.ensures order c.in-Some.ensures.line in
    let outer = sym c.is_outer.ensures ∙ c.if-is_outer.true in
    outer_over script t cpu first before start items p c.args.task.now c.come_back.new.task c.args.cpu.now c.come_back.new.cpu bank bank1 are back
    order.number (c.lines_follow.ensures.outer script t start items p (length items) order.number order are.run (record { at = at; number = refl; outer = outer }))

pub returns-then-is_outer-clause-kept : goal.returns-then-is_outer-clause-kept
returns-then-is_outer-clause-kept g c = keeps_cpu c.args.cpu.now c.come_back.new.cpu c.come_back.ensures.cpu

pub run_local-requires-clause-on : goal.run_local-requires-clause-on
run_local-requires-clause-on g c =
    let r = c.requires.turning in
    let script = c.args.script.now in
    let same : c.is_user-user.result ≡ is_user script r.t = c.is_user-user.ensures ∙ ap (is_user script) r.running.turning.name in
    (r.private, on_here script r.t r.c r.first r.before r.start c.args.entries.now.items r.private c.args.task.now c.args.cpu.now (g.B.Bank.state c.args.cpu.now.bank) r.running c.come_back.new.task c.come_back.new.cpu (g.B.Bank.state c.come_back.new.cpu.bank) c.is_user-user.result same c.come_back.ensures)

pub run_local-requires-clause-known : goal.run_local-requires-clause-known
run_local-requires-clause-known g c =
    let r = c.requires.turning in
    let script = c.args.script.now in
    let items = c.args.entries.now.items in
    let bank = g.B.Bank.state c.args.cpu.now.bank in
    let bank1 = g.B.Bank.state c.come_back.new.cpu.bank in
    let user = c.is_user-user.result in
    let order = c.in-Some.order.now in
    let same : user ≡ is_user script r.t = c.is_user-user.ensures ∙ ap (is_user script) r.running.turning.name in
    let at = line_here script r.t r.c r.first r.before r.start items r.private c.args.task.now c.args.cpu.now bank r.running c.come_back.new.task c.come_back.new.cpu bank1 user same c.come_back.ensures order c.in-Some.ensures.line in
    let layout = layout_here script r.t r.c r.first r.before r.start items r.private c.args.task.now c.args.cpu.now bank r.running c.come_back.new.task c.come_back.new.cpu bank1 user same c.come_back.ensures in
    rw layout (known_line script c.requires.valid r.t r.private order at)

pub run_local-requires-clause-kind : goal.run_local-requires-clause-kind
run_local-requires-clause-kind g c = λ kernel.
    let r = c.requires.turning in
    let script = c.args.script.now in
    let items = c.args.entries.now.items in
    let bank = g.B.Bank.state c.args.cpu.now.bank in
    let bank1 = g.B.Bank.state c.come_back.new.cpu.bank in
    let user = c.is_user-user.result in
    let order = c.in-Some.order.now in
    let same : user ≡ is_user script r.t = c.is_user-user.ensures ∙ ap (is_user script) r.running.turning.name in
    let at = line_here script r.t r.c r.first r.before r.start items r.private c.args.task.now c.args.cpu.now bank r.running c.come_back.new.task c.come_back.new.cpu bank1 user same c.come_back.ensures order c.in-Some.ensures.line in
    let outside = outside_here script r.t r.c r.first r.before r.start items r.private c.args.task.now c.args.cpu.now bank r.running c.come_back.new.task c.come_back.new.cpu bank1 user same c.come_back.ensures kernel in
    kernel_line script c.requires.valid r.t r.private order at outside (sym same ∙ kernel)

pub run_local-requires-clause-inside : goal.run_local-requires-clause-inside
run_local-requires-clause-inside g c = λ returns.
    let r = c.requires.turning in
    let script = c.args.script.now in
    let items = c.args.entries.now.items in
    let bank = g.B.Bank.state c.args.cpu.now.bank in
    let bank1 = g.B.Bank.state c.come_back.new.cpu.bank in
    let user = c.is_user-user.result in
    let order = c.in-Some.order.now in
    let same : user ≡ is_user script r.t = c.is_user-user.ensures ∙ ap (is_user script) r.running.turning.name in
    let at = line_here script r.t r.c r.first r.before r.start items r.private c.args.task.now c.args.cpu.now bank r.running c.come_back.new.task c.come_back.new.cpu bank1 user same c.come_back.ensures order c.in-Some.ensures.line in
    let l = line_found script r.t r.private order at in
    let inside = c.named_known.ensures.inside script r.t l.lines r.private order c.requires.valid l.known l.at returns in
    handles_here script r.t r.c r.first r.before r.start items r.private c.args.task.now c.args.cpu.now bank r.running c.come_back.new.task c.come_back.new.cpu bank1 user same c.come_back.ensures inside

pub run_local-requires-clause-fits : goal.run_local-requires-clause-fits
run_local-requires-clause-fits g c =
    let r = c.requires.turning in
    let script = c.args.script.now in
    let items = c.args.entries.now.items in
    let bank = g.B.Bank.state c.args.cpu.now.bank in
    let bank1 = g.B.Bank.state c.come_back.new.cpu.bank in
    let user = c.is_user-user.result in
    let order = c.in-Some.order.now in
    let same : user ≡ is_user script r.t = c.is_user-user.ensures ∙ ap (is_user script) r.running.turning.name in
    let at = line_here script r.t r.c r.first r.before r.start items r.private c.args.task.now c.args.cpu.now bank r.running c.come_back.new.task c.come_back.new.cpu bank1 user same c.come_back.ensures order c.in-Some.ensures.line in
    let fits = place_fits script c.requires.valid r.t r.private order at in
    let place = place_here script r.t r.c r.first r.before r.start items r.private c.args.task.now c.args.cpu.now bank r.running c.come_back.new.task c.come_back.new.cpu bank1 user same c.come_back.ensures in
    omega (arith, fits, place)

pub returns-in-Err-clause-after : goal.returns-in-Err-clause-after
returns-in-Err-clause-after g c = λ t cpu first before start p are.
    let script = c.args.script.now in
    let items = c.args.entries.now.items in
    let bank = g.B.Bank.state c.args.cpu.now.bank in
    let bank1 = g.B.Bank.state c.come_back.new.cpu.bank in
    let user = c.is_user-user.result in
    let order = c.in-Some.order.now in
    let same : user ≡ is_user script t = c.is_user-user.ensures ∙ ap (is_user script) are.turning.name in
    let back = back_here script t cpu first before start items p c.args.task.now c.args.cpu.now bank are c.come_back.new.task c.come_back.new.cpu bank1 user same c.come_back.ensures in
    let at = line_here script t cpu first before start items p c.args.task.now c.args.cpu.now bank are c.come_back.new.task c.come_back.new.cpu bank1 user same c.come_back.ensures order c.in-Some.ensures.line in
    let bank2 = g.B.Bank.state c.run_local.new.cpu.bank in
    let close = c.in-Err.close in
    halted_over script t cpu first before start items p c.args.task.now c.come_back.new.task c.args.cpu.now c.come_back.new.cpu bank bank1 are back
    order.command close c.run_local.new.task c.run_local.new.cpu bank2 (rw same at c.in-Err.ensures)
    (halted_lines script t cpu first before start items p c.args.task.now c.args.cpu.now bank are c.come_back.new.task c.come_back.new.cpu bank1 user same c.come_back.ensures order close c.run_local.new.task c.run_local.new.cpu bank2 at c.in-Err.ensures
    (λ error is. c.lines_follow.ensures.refused script t start items p (length items) error order are.run is) (λ is. c.lines_follow.ensures.trap script t start items p (length items) order are.run is))

pub returns-in-Err-clause-kept : goal.returns-in-Err-clause-kept
returns-in-Err-clause-kept g c =
    keeps_more c.args.cpu.now c.come_back.new.cpu c.run_local.new.cpu (keeps_cpu c.args.cpu.now c.come_back.new.cpu c.come_back.ensures.cpu)
    (keeps_halted c.is_user-user.result c.in-Some.order.now.command c.in-Err.close c.come_back.new.task c.run_local.new.task c.come_back.new.cpu c.run_local.new.cpu (g.B.Bank.state c.come_back.new.cpu.bank) (g.B.Bank.state c.run_local.new.cpu.bank) c.in-Err.ensures)

pub returns-clause-after : goal.returns-clause-after
returns-clause-after g c = λ t cpu first before start p are.
    let script = c.args.script.now in
    let items = c.args.entries.now.items in
    let bank = g.B.Bank.state c.args.cpu.now.bank in
    let bank1 = g.B.Bank.state c.come_back.new.cpu.bank in
    let user = c.is_user-user.result in
    let order = c.in-Some.order.now in
    let same : user ≡ is_user script t = c.is_user-user.ensures ∙ ap (is_user script) are.turning.name in
    let back = back_here script t cpu first before start items p c.args.task.now c.args.cpu.now bank are c.come_back.new.task c.come_back.new.cpu bank1 user same c.come_back.ensures in
    let at = line_here script t cpu first before start items p c.args.task.now c.args.cpu.now bank are c.come_back.new.task c.come_back.new.cpu bank1 user same c.come_back.ensures order c.in-Some.ensures.line in
    let l = line_found script t p order at in
    let found = c.lines_found.ensures script t l.lines p order c.requires.valid l.known l.at in
    let bank2 = g.B.Bank.state c.run_local.new.cpu.bank in
    let reply = c.in-Ok.reply in
    let ran = c.in-Ok.ensures in
    let entry = entry_here script t cpu first before start items p c.args.task.now c.args.cpu.now bank are c.come_back.new.task c.come_back.new.cpu bank1 user same c.come_back.ensures order reply c.run_local.new.task c.run_local.new.cpu bank2 at (sym c.is_outer.ensures ∙ c.if-is_outer.false) ran in
    let e : Entry = record { line = order.number; reply = reply } in
    let done = rw same at ran in
    let close = rw c.len-ran.ensures.value at c.close_after.ensures in
    rw c.push.ensures.items
    (after_line script t cpu first before start items p c.args.task.now c.come_back.new.task c.args.cpu.now c.come_back.new.cpu bank bank1 are back order found e refl
    (line_follows script c.requires.valid t p order at entry.whole)
    (c.lines_follow.ensures.more script t start items p (length items) e order are.run entry)
    (c.lines_follow.ensures.last script t start items p (length items) e order are.run entry)
    (c.lines_follow.ensures.last_task script t start items p (length items) e order are.run entry)
    c.run_local.new.task c.run_local.new.cpu bank2 done c.close_after.result close)

pub returns-clause-longer : goal.returns-clause-longer
returns-clause-longer g c = rw c.push.ensures.items (if_longer c.args.entries.now.items (record { line = c.in-Some.order.now.number; reply = c.in-Ok.reply }) c.close_after.result)

pub returns-clause-kept : goal.returns-clause-kept
returns-clause-kept g c = keeps_more c.args.cpu.now c.come_back.new.cpu c.run_local.new.cpu (keeps_cpu c.args.cpu.now c.come_back.new.cpu c.come_back.ensures.cpu) (keeps_cpu c.come_back.new.cpu c.run_local.new.cpu c.in-Ok.ensures.cpu)

-- the mark after it, and the task's name

pub returns-in_default-clause-mark : goal.returns-in_default-clause-mark
returns-in_default-clause-mark g c =
    end_mark c.args.script.now c.args.entries.now.items c.args.task.now c.args.cpu.now (g.B.Bank.state c.args.cpu.now.bank) c.requires.turning
    c.come_back.new.task c.come_back.new.cpu (g.B.Bank.state c.come_back.new.cpu.bank) c.is_user-user.result c.is_user-user.ensures c.come_back.ensures c.in_default.ensures.order

pub returns-then-is_outer-clause-mark : goal.returns-then-is_outer-clause-mark
returns-then-is_outer-clause-mark g c =
    outer_mark c.args.script.now c.args.entries.now.items c.args.task.now c.args.cpu.now (g.B.Bank.state c.args.cpu.now.bank) c.requires.turning
    c.come_back.new.task c.come_back.new.cpu (g.B.Bank.state c.come_back.new.cpu.bank) c.is_user-user.result c.is_user-user.ensures c.come_back.ensures c.in-Some.order.now c.in-Some.ensures.order
    (sym c.is_outer.ensures ∙ c.if-is_outer.true)

pub returns-in-Err-clause-mark : goal.returns-in-Err-clause-mark
returns-in-Err-clause-mark g c =
    halt_mark c.args.script.now c.args.entries.now.items c.args.task.now c.args.cpu.now (g.B.Bank.state c.args.cpu.now.bank) c.requires.turning
    c.come_back.new.task c.come_back.new.cpu (g.B.Bank.state c.come_back.new.cpu.bank) c.is_user-user.result c.is_user-user.ensures c.come_back.ensures c.in-Some.order.now c.in-Some.ensures.order
    c.in-Err.close c.run_local.new.task c.run_local.new.cpu (g.B.Bank.state c.run_local.new.cpu.bank) c.in-Err.ensures

pub returns-clause-mark : goal.returns-clause-mark
returns-clause-mark g c =
    ran_mark c.args.script.now c.args.entries.now.items c.args.task.now c.args.cpu.now (g.B.Bank.state c.args.cpu.now.bank) c.requires.turning
    c.come_back.new.task c.come_back.new.cpu (g.B.Bank.state c.come_back.new.cpu.bank) c.is_user-user.result c.is_user-user.ensures c.come_back.ensures c.in-Some.order.now c.in-Some.ensures.order
    c.run_local.new.cpu.mark c.in-Ok.ensures.mark

pub returns-in-Err-clause-name : goal.returns-in-Err-clause-name
returns-in-Err-clause-name g c =
    halted_name c.is_user-user.result c.in-Some.order.now.command c.in-Err.close c.come_back.new.task c.run_local.new.task c.come_back.new.cpu c.run_local.new.cpu (g.B.Bank.state c.come_back.new.cpu.bank) (g.B.Bank.state c.run_local.new.cpu.bank) c.in-Err.ensures
    ∙ c.come_back.ensures.name

pub returns-clause-name : goal.returns-clause-name
returns-clause-name g c = c.in-Ok.ensures.name ∙ c.come_back.ensures.name
