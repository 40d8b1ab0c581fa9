-- The turn that the processor holds runs and comes back.
use Rattle.std.proofs.Common.{refl}
use Rattle.xs_machine.proofs.EntryLemmas.{stage_home, lines_home, task_home, last_home, run_home, at_home, run_more}
use Rattle.xs_machine.proofs.Following.{leaves_others}
use Rattle.xs_machine.proofs.entry.finish_turn.Goals as goal

pub run_turn-close-requires-clause-some : goal.run_turn-close-requires-clause-some
run_turn-close-requires-clause-some g c = record { board = c.args.board.now; turn = c.args.turn; task_is = refl; run = c.requires.run; at = c.requires.at }

pub commit-requires-clause-turn : goal.commit-requires-clause-turn
commit-requires-clause-turn g c =
    let script = c.args.script.now in
    let old = c.args.board.now in
    let turn = c.args.turn in
    let bank = g.B.Bank.state c.args.cpu.now.bank in
    let task = c.run_turn-close.new.task in
    let cpu = c.run_turn-close.new.cpu in
    let items = c.run_turn-close.new.lines.items in
    let close = c.run_turn-close.result in
    let ran = c.run_turn-close.ensures.ran old turn refl c.requires.run c.requires.at in
    stage_home script old turn task c.args.cpu.now cpu bank (g.B.Bank.state cpu.bank) items close c.requires.run c.requires.at ran.lines ran.left

pub commit-requires-clause-lines : goal.commit-requires-clause-lines
commit-requires-clause-lines g c =
    let script = c.args.script.now in
    let old = c.args.board.now in
    let turn = c.args.turn in
    let bank = g.B.Bank.state c.args.cpu.now.bank in
    let task = c.run_turn-close.new.task in
    let cpu = c.run_turn-close.new.cpu in
    let items = c.run_turn-close.new.lines.items in
    let close = c.run_turn-close.result in
    let ran = c.run_turn-close.ensures.ran old turn refl c.requires.run c.requires.at in
    lines_home script old turn task c.args.cpu.now cpu bank (g.B.Bank.state cpu.bank) items close c.requires.run c.requires.at ran.lines ran.left

pub commit-requires-clause-task : goal.commit-requires-clause-task
commit-requires-clause-task g c =
    let script = c.args.script.now in
    let old = c.args.board.now in
    let turn = c.args.turn in
    let bank = g.B.Bank.state c.args.cpu.now.bank in
    let task = c.run_turn-close.new.task in
    let cpu = c.run_turn-close.new.cpu in
    let items = c.run_turn-close.new.lines.items in
    let close = c.run_turn-close.result in
    let ran = c.run_turn-close.ensures.ran old turn refl c.requires.run c.requires.at in
    task_home script old turn task c.args.cpu.now cpu bank (g.B.Bank.state cpu.bank) items close c.requires.run c.requires.at ran.lines ran.left

pub commit-requires-clause-last : goal.commit-requires-clause-last
commit-requires-clause-last g c =
    let script = c.args.script.now in
    let old = c.args.board.now in
    let turn = c.args.turn in
    let bank = g.B.Bank.state c.args.cpu.now.bank in
    let task = c.run_turn-close.new.task in
    let cpu = c.run_turn-close.new.cpu in
    let items = c.run_turn-close.new.lines.items in
    let close = c.run_turn-close.result in
    let ran = c.run_turn-close.ensures.ran old turn refl c.requires.run c.requires.at in
    last_home script old turn task c.args.cpu.now cpu bank (g.B.Bank.state cpu.bank) items close c.requires.run c.requires.at ran.lines ran.left

pub returns-clause-run : goal.returns-clause-run
returns-clause-run g c =
    let script = c.args.script.now in
    let old = c.args.board.now in
    let turn = c.args.turn in
    let bank = g.B.Bank.state c.args.cpu.now.bank in
    let task = c.run_turn-close.new.task in
    let cpu = c.run_turn-close.new.cpu in
    let items = c.run_turn-close.new.lines.items in
    let close = c.run_turn-close.result in
    let ran = c.run_turn-close.ensures.ran old turn refl c.requires.run c.requires.at in
    let e = c.commit.ensures in
    run_home script old turn task c.args.cpu.now cpu bank (g.B.Bank.state cpu.bank) items close c.requires.run c.requires.at ran.lines ran.left c.commit.new.self e.script e.history e.legal e.private e.free e.others

pub returns-clause-at : goal.returns-clause-at
returns-clause-at g c =
    let script = c.args.script.now in
    let old = c.args.board.now in
    let turn = c.args.turn in
    let bank = g.B.Bank.state c.args.cpu.now.bank in
    let task = c.run_turn-close.new.task in
    let cpu = c.run_turn-close.new.cpu in
    let items = c.run_turn-close.new.lines.items in
    let close = c.run_turn-close.result in
    let ran = c.run_turn-close.ensures.ran old turn refl c.requires.run c.requires.at in
    let e = c.commit.ensures in
    at_home script old turn task c.args.cpu.now cpu bank (g.B.Bank.state cpu.bank) items close c.requires.run c.requires.at ran.lines ran.left c.commit.new.self e.script e.history e.legal e.private e.free e.others

pub returns-clause-others : goal.returns-clause-others
returns-clause-others g c =
    let e = c.commit.ensures in
    let unseen = c.unseen_stays.ensures in
    let script = c.args.script.now in
    let old = c.args.board.now in
    let new = c.commit.new.self in
    leaves_others g.row.B.Denot script c.args.turn.cpu old new c.turns_known.ensures.known unseen.counts unseen.mark unseen.remains c.requires.run (run_more script old new c.requires.run e.script e.legal) e.next
