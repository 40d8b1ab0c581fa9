-- A worker asks the board for a turn.
use Rattle.std.proofs.Common.{None, Some, sym, ap, ◌∙◌, subst, refl}
use Rattle.xs_bank.specs.declared.cpu.Cpu.{Cpu}
use Rattle.xs_share.specs.Passes.{name_of, view}
use Rattle.xs_model.specs.declared.script.Script.{Script}
use Rattle.xs_model.specs.Replay.{entry}
use Rattle.xs_board.specs.Board.{Board, past_of, private_in}
use Rattle.xs_machine.specs.Threads.{HasPass, IsEntered}
use Rattle.xs_machine.proofs.Alone.{entered_more}
use Rattle.xs_machine.proofs.EntryLemmas.{at_begun, may_begin, run_more}
use Rattle.xs_machine.proofs.Marks.{passes}
use Rattle.xs_machine.proofs.Takings.{found_at, found_entered, found_run, stands_by}
use Rattle.xs_machine.proofs.worker.work_once.Goals as goal

pub begin_marked-turn-requires-clause-home : goal.begin_marked-turn-requires-clause-home
begin_marked-turn-requires-clause-home g c =
    let script = c.args.script.now in
    let name = name_of c.args.shared.now in
    let cpu = c.args.cpu.now in
    let bank = g.B.Bank.state cpu.bank in
    let pass = c.args.pass.now in
    let stands = c.requires.stands in
    let found = c.take_turn-board.result in
    let known = c.turns_known.ensures.known in
    let unseen = c.unseen_stays.ensures in
    let run = found_run name script None pass cpu bank known unseen.counts unseen.mark unseen.remains stands found c.take_turn-board.ensures.value c.history.ensures.board in
    let at = found_at name script None pass cpu bank known unseen.counts unseen.mark unseen.remains stands found c.take_turn-board.ensures.value c.history.ensures.board in
    let e = c.in-Turn.ensures in
    (private_in found c.in-Turn.turn.task.name, may_begin script found cpu.number c.in-Turn.turn cpu bank run c.signals_known.ensures.threads at e.turn e.skip)

pub finish-requires-clause-stands : goal.finish-requires-clause-stands
finish-requires-clause-stands g c =
    let script = c.args.script.now in
    let name = name_of c.args.shared.now in
    let cpu = c.args.cpu.now in
    let bank = g.B.Bank.state cpu.bank in
    let pass = c.args.pass.now in
    let stands = c.requires.stands in
    let found = c.take_turn-board.result in
    let known = c.turns_known.ensures.known in
    let unseen = c.unseen_stays.ensures in
    let run = found_run name script None pass cpu bank known unseen.counts unseen.mark unseen.remains stands found c.take_turn-board.ensures.value c.history.ensures.board in
    let at = found_at name script None pass cpu bank known unseen.counts unseen.mark unseen.remains stands found c.take_turn-board.ensures.value c.history.ensures.board in
    let entered_is = found_entered name script None pass cpu bank known unseen.counts unseen.mark unseen.remains stands found c.take_turn-board.ensures.value c.history.ensures.board in
    let new = c.take-taken.new.self in
    let given = passes name cpu.number (view pass).last cpu.mark pass stands.pass_is found new c.take_turn-board.new.pass c.give_turn.new.pass c.take_turn-board.ensures.home c.take_turn-board.ensures.pass c.give_turn.ensures.home c.give_turn.ensures.pass in
    let e = c.in-Turn.ensures in
    let begun_turn = c.begin_marked-turn.result in
    let new_cpu = c.begin_marked-turn.new.cpu in
    let new_bank = g.B.Bank.state new_cpu.bank in
    let begun = c.begin_marked-turn.ensures.begun in
    let has = subst (λ (board : Board). HasPass name cpu.number board new_cpu.mark c.begin_marked-turn.new.pass) given.last c.begin_marked-turn.ensures.pass in
    let more = entered_more script (past_of found) cpu.number stands.known entered_is in
    let past = e.replay ∙ ap (λ (s : Script). entry s (past_of found) cpu.number) run.script_is in
    stands_by name script (Some begun_turn) cpu.number new c.begin_marked-turn.new.pass new_cpu new_bank (ap (λ (x : Cpu g.row.B.Denot). x.number) begun.cpu) has stands.known (run_more script found new run e.script e.legal)
    (at_begun script found cpu.number c.in-Turn.turn cpu bank run c.signals_known.ensures.threads at e.turn e.skip new begun_turn new_cpu new_bank begun c.task_stays.ensures.keeps e.script e.history e.legal e.stage e.private e.busy)
    (subst (IsEntered script) (sym past) more)

pub returns-in-Nothing-clause-stands : goal.returns-in-Nothing-clause-stands
returns-in-Nothing-clause-stands g c =
    let script = c.args.script.now in
    let name = name_of c.args.shared.now in
    let cpu = c.args.cpu.now in
    let bank = g.B.Bank.state cpu.bank in
    let pass = c.args.pass.now in
    let stands = c.requires.stands in
    let found = c.take_turn-board.result in
    let known = c.turns_known.ensures.known in
    let unseen = c.unseen_stays.ensures in
    let run = found_run name script None pass cpu bank known unseen.counts unseen.mark unseen.remains stands found c.take_turn-board.ensures.value c.history.ensures.board in
    let at = found_at name script None pass cpu bank known unseen.counts unseen.mark unseen.remains stands found c.take_turn-board.ensures.value c.history.ensures.board in
    let entered_is = found_entered name script None pass cpu bank known unseen.counts unseen.mark unseen.remains stands found c.take_turn-board.ensures.value c.history.ensures.board in
    let new = c.take-taken.new.self in
    let given = passes name cpu.number (view pass).last cpu.mark pass stands.pass_is found new c.take_turn-board.new.pass c.give_turn.new.pass c.take_turn-board.ensures.home c.take_turn-board.ensures.pass c.give_turn.ensures.home c.give_turn.ensures.pass in
    let same = c.in-Nothing.ensures.nothing_changes in
    stands_by name script None cpu.number found c.give_turn.new.pass cpu bank refl (subst (λ (board : Board). HasPass name cpu.number board cpu.mark c.give_turn.new.pass) same given) stands.known run at entered_is

pub returns-in-Done-clause-stands : goal.returns-in-Done-clause-stands
returns-in-Done-clause-stands g c =
    let script = c.args.script.now in
    let name = name_of c.args.shared.now in
    let cpu = c.args.cpu.now in
    let bank = g.B.Bank.state cpu.bank in
    let pass = c.args.pass.now in
    let stands = c.requires.stands in
    let found = c.take_turn-board.result in
    let known = c.turns_known.ensures.known in
    let unseen = c.unseen_stays.ensures in
    let run = found_run name script None pass cpu bank known unseen.counts unseen.mark unseen.remains stands found c.take_turn-board.ensures.value c.history.ensures.board in
    let at = found_at name script None pass cpu bank known unseen.counts unseen.mark unseen.remains stands found c.take_turn-board.ensures.value c.history.ensures.board in
    let entered_is = found_entered name script None pass cpu bank known unseen.counts unseen.mark unseen.remains stands found c.take_turn-board.ensures.value c.history.ensures.board in
    let new = c.take-taken.new.self in
    let given = passes name cpu.number (view pass).last cpu.mark pass stands.pass_is found new c.take_turn-board.new.pass c.give_turn.new.pass c.take_turn-board.ensures.home c.take_turn-board.ensures.pass c.give_turn.ensures.home c.give_turn.ensures.pass in
    let same = c.in-Done.ensures.done_changes in
    stands_by name script None cpu.number found c.give_turn.new.pass cpu bank refl (subst (λ (board : Board). HasPass name cpu.number board cpu.mark c.give_turn.new.pass) same given) stands.known run at entered_is
