-- A turn comes back to the board, as others have left it by then.
use Rattle.std.proofs.Common.{ℕ, ◌<◌, None, Some, sym, ap, ◌∙◌, subst, refl}
use Rattle.xs_share.specs.Passes.{name_of, view}
use Rattle.xs_model.specs.declared.script.Script.{Script}
use Rattle.xs_model.specs.Replay.{entry}
use Rattle.xs_board.specs.Board.{past_of}
use Rattle.xs_machine.specs.Running.{IsAt}
use Rattle.xs_machine.specs.Threads.{HasPass, IsEntered}
use Rattle.xs_machine.proofs.Alone.{entered_more}
use Rattle.xs_machine.proofs.EntryLemmas.{stage_home, lines_home, task_home, run_home, at_home}
use Rattle.xs_machine.proofs.Marks.{passes}
use Rattle.xs_machine.proofs.Takings.{found_at, found_entered, found_run, since_first, stands_by}
use Rattle.xs_machine.proofs.worker.finish.Goals as goal

pub run_marked_turn-close-requires-clause-some : goal.run_marked_turn-close-requires-clause-some
run_marked_turn-close-requires-clause-some g c =
    let stands = c.requires.stands in
    record {
      board = (view c.args.pass.now).last;
      turn = c.args.turn;
      task_is = refl;
      run = stands.run;
      at = subst (λ (n : ℕ). IsAt c.args.script.now (view c.args.pass.now).last n (Some c.args.turn) c.args.cpu.now (g.B.Bank.state c.args.cpu.now.bank)) (sym stands.at.turn.cpu_is) stands.at;
    }

pub commit-requires-clause-turn : goal.commit-requires-clause-turn
commit-requires-clause-turn g c =
    let script = c.args.script.now in
    let name = name_of c.args.shared.now in
    let cpu = c.args.cpu.now in
    let bank = g.B.Bank.state cpu.bank in
    let pass = c.args.pass.now in
    let turn = c.args.turn in
    let stands = c.requires.stands in
    let found = c.take_turn-board.result in
    let known = c.turns_known.ensures.known in
    let unseen = c.unseen_stays.ensures in
    let has = c.run_marked_turn-close.ensures.pass in
    let since = since_first name cpu.number pass c.run_marked_turn-close.new.pass cpu.mark c.run_marked_turn-close.new.cpu.mark found stands.pass_is has c.take_turn-board.ensures.value in
    let run = found_run name script (Some turn) pass cpu bank known unseen.counts unseen.mark unseen.remains stands found since c.history.ensures.board in
    let found_here = found_at name script (Some turn) pass cpu bank known unseen.counts unseen.mark unseen.remains stands found since c.history.ensures.board in
    let here = stands.at.turn.cpu_is in
    let at = subst (λ (n : ℕ). IsAt script found n (Some turn) cpu bank) (sym here) found_here in
    let task = c.run_marked_turn-close.new.task in
    let new_cpu = c.run_marked_turn-close.new.cpu in
    let new_bank = g.B.Bank.state new_cpu.bank in
    let items = c.run_marked_turn-close.new.lines.items in
    let close = c.run_marked_turn-close.result in
    let ran = c.run_marked_turn-close.ensures.ran found turn refl run at in
    stage_home script found turn task cpu new_cpu bank new_bank items close run at ran.lines ran.left

pub commit-requires-clause-lines : goal.commit-requires-clause-lines
commit-requires-clause-lines g c =
    let script = c.args.script.now in
    let name = name_of c.args.shared.now in
    let cpu = c.args.cpu.now in
    let bank = g.B.Bank.state cpu.bank in
    let pass = c.args.pass.now in
    let turn = c.args.turn in
    let stands = c.requires.stands in
    let found = c.take_turn-board.result in
    let known = c.turns_known.ensures.known in
    let unseen = c.unseen_stays.ensures in
    let has = c.run_marked_turn-close.ensures.pass in
    let since = since_first name cpu.number pass c.run_marked_turn-close.new.pass cpu.mark c.run_marked_turn-close.new.cpu.mark found stands.pass_is has c.take_turn-board.ensures.value in
    let run = found_run name script (Some turn) pass cpu bank known unseen.counts unseen.mark unseen.remains stands found since c.history.ensures.board in
    let found_here = found_at name script (Some turn) pass cpu bank known unseen.counts unseen.mark unseen.remains stands found since c.history.ensures.board in
    let here = stands.at.turn.cpu_is in
    let at = subst (λ (n : ℕ). IsAt script found n (Some turn) cpu bank) (sym here) found_here in
    let task = c.run_marked_turn-close.new.task in
    let new_cpu = c.run_marked_turn-close.new.cpu in
    let new_bank = g.B.Bank.state new_cpu.bank in
    let items = c.run_marked_turn-close.new.lines.items in
    let close = c.run_marked_turn-close.result in
    let ran = c.run_marked_turn-close.ensures.ran found turn refl run at in
    lines_home script found turn task cpu new_cpu bank new_bank items close run at ran.lines ran.left

pub commit-requires-clause-task : goal.commit-requires-clause-task
commit-requires-clause-task g c =
    let script = c.args.script.now in
    let name = name_of c.args.shared.now in
    let cpu = c.args.cpu.now in
    let bank = g.B.Bank.state cpu.bank in
    let pass = c.args.pass.now in
    let turn = c.args.turn in
    let stands = c.requires.stands in
    let found = c.take_turn-board.result in
    let known = c.turns_known.ensures.known in
    let unseen = c.unseen_stays.ensures in
    let has = c.run_marked_turn-close.ensures.pass in
    let since = since_first name cpu.number pass c.run_marked_turn-close.new.pass cpu.mark c.run_marked_turn-close.new.cpu.mark found stands.pass_is has c.take_turn-board.ensures.value in
    let run = found_run name script (Some turn) pass cpu bank known unseen.counts unseen.mark unseen.remains stands found since c.history.ensures.board in
    let found_here = found_at name script (Some turn) pass cpu bank known unseen.counts unseen.mark unseen.remains stands found since c.history.ensures.board in
    let here = stands.at.turn.cpu_is in
    let at = subst (λ (n : ℕ). IsAt script found n (Some turn) cpu bank) (sym here) found_here in
    let task = c.run_marked_turn-close.new.task in
    let new_cpu = c.run_marked_turn-close.new.cpu in
    let new_bank = g.B.Bank.state new_cpu.bank in
    let items = c.run_marked_turn-close.new.lines.items in
    let close = c.run_marked_turn-close.result in
    let ran = c.run_marked_turn-close.ensures.ran found turn refl run at in
    task_home script found turn task cpu new_cpu bank new_bank items close run at ran.lines ran.left

pub returns-clause-stands : goal.returns-clause-stands
returns-clause-stands g c =
    let script = c.args.script.now in
    let name = name_of c.args.shared.now in
    let cpu = c.args.cpu.now in
    let bank = g.B.Bank.state cpu.bank in
    let pass = c.args.pass.now in
    let turn = c.args.turn in
    let stands = c.requires.stands in
    let found = c.take_turn-board.result in
    let known = c.turns_known.ensures.known in
    let unseen = c.unseen_stays.ensures in
    let has = c.run_marked_turn-close.ensures.pass in
    let since = since_first name cpu.number pass c.run_marked_turn-close.new.pass cpu.mark c.run_marked_turn-close.new.cpu.mark found stands.pass_is has c.take_turn-board.ensures.value in
    let run = found_run name script (Some turn) pass cpu bank known unseen.counts unseen.mark unseen.remains stands found since c.history.ensures.board in
    let found_here = found_at name script (Some turn) pass cpu bank known unseen.counts unseen.mark unseen.remains stands found since c.history.ensures.board in
    let here = stands.at.turn.cpu_is in
    let at = subst (λ (n : ℕ). IsAt script found n (Some turn) cpu bank) (sym here) found_here in
    let task = c.run_marked_turn-close.new.task in
    let new_cpu = c.run_marked_turn-close.new.cpu in
    let new_bank = g.B.Bank.state new_cpu.bank in
    let items = c.run_marked_turn-close.new.lines.items in
    let close = c.run_marked_turn-close.result in
    let ran = c.run_marked_turn-close.ensures.ran found turn refl run at in
    let entered_is = found_entered name script (Some turn) pass cpu bank known unseen.counts unseen.mark unseen.remains stands found since c.history.ensures.board in
    let e = c.commit.ensures in
    let new = c.commit.new.self in
    let given = passes name cpu.number (view pass).last new_cpu.mark c.run_marked_turn-close.new.pass has found new c.take_turn-board.new.pass c.give_turn.new.pass c.take_turn-board.ensures.home c.take_turn-board.ensures.pass c.give_turn.ensures.home c.give_turn.ensures.pass in
    let below = subst (λ (n : ℕ). n < script.cpus) (sym here) stands.known in
    let past = e.replay ∙ ap (λ (s : Script). entry s (past_of found) turn.cpu) run.script_is in
    stands_by name script None turn.cpu new c.give_turn.new.pass new_cpu new_bank (c.run_marked_turn-close.ensures.kept.number ∙ sym here) (subst (λ (n : ℕ). HasPass name n new new_cpu.mark c.give_turn.new.pass) (sym here) given) below
    (run_home script found turn task cpu new_cpu bank new_bank items close run at ran.lines ran.left new e.script e.history e.legal e.private e.free e.others)
    (at_home script found turn task cpu new_cpu bank new_bank items close run at ran.lines ran.left new e.script e.history e.legal e.private e.free e.others)
    (subst (IsEntered script) (sym past) (entered_more script (past_of found) turn.cpu below entered_is))
