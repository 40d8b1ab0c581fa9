-- A turn that the board hands out begins.
use Rattle.std.proofs.Common.{Option, sym, subst}
use Rattle.xs_board.specs.declared.turn.Turn.{Turn}
use Rattle.xs_board.specs.Board.{private_in}
use Rattle.xs_machine.specs.Running.{IsAt}
use Rattle.xs_machine.proofs.EntryLemmas.{at_begun, may_begin, run_more}
use Rattle.xs_machine.proofs.Following.{leaves_others}
use Rattle.xs_machine.proofs.entry.run_entry.Goals as goal

pub begin_turn-requires-clause-home : goal.begin_turn-requires-clause-home
begin_turn-requires-clause-home g c =
    let script = c.args.script.now in
    let old = c.args.board.now in
    let bank = g.B.Bank.state c.args.cpu.now.bank in
    let at = subst (λ (slot : Option Turn). IsAt script old c.args.number slot c.args.cpu.now bank) (sym c.in-None.ensures.value) c.requires.at in
    let e = c.in-Turn.ensures in
    (private_in old c.in-Turn.turn.task.name, may_begin script old c.args.number c.in-Turn.turn c.args.cpu.now bank c.requires.run c.signals_known.ensures.threads at e.turn e.skip)

pub returns-in-Turn-clause-at : goal.returns-in-Turn-clause-at
returns-in-Turn-clause-at g c =
    let script = c.args.script.now in
    let old = c.args.board.now in
    let bank = g.B.Bank.state c.args.cpu.now.bank in
    let at = subst (λ (slot : Option Turn). IsAt script old c.args.number slot c.args.cpu.now bank) (sym c.in-None.ensures.value) c.requires.at in
    let e = c.in-Turn.ensures in
    at_begun script old c.args.number c.in-Turn.turn c.args.cpu.now bank c.requires.run c.signals_known.ensures.threads at e.turn e.skip c.take-in-None.new.self c.begin_turn.result c.begin_turn.new.cpu (g.B.Bank.state c.begin_turn.new.cpu.bank) c.begin_turn.ensures c.task_stays.ensures.keeps e.script e.history e.legal e.stage e.private e.busy

pub returns-in-Turn-clause-others : goal.returns-in-Turn-clause-others
returns-in-Turn-clause-others g c =
    let e = c.in-Turn.ensures in
    let unseen = c.unseen_stays.ensures in
    let script = c.args.script.now in
    let old = c.args.board.now in
    let new = c.take-in-None.new.self in
    leaves_others g.row.B.Denot script c.args.number old new c.turns_known.ensures.known unseen.counts unseen.mark unseen.remains c.requires.run (run_more script old new c.requires.run e.script e.legal) e.next
