-- One entry, on its processor.
use Rattle.std.proofs.Common.{arith, slice_index_or}
use Rattle.xs_machine.proofs.Rounds.{at_entry, at_after, kept_after}
use Rattle.xs_machine.proofs.round.run_at.Goals as goal

pub run_entry-requires-clause-at : goal.run_entry-requires-clause-at
run_entry-requires-clause-at g c = at_entry g.B.Bank.state c.args.script.now c.args.board.now c.args.turns.now c.args.procs.now c.args.number c.index-turns-index.result c.index-procs-index.result c.requires.at c.requires.known (omega (arith, c.requires.known, c.requires.room)) (omega (arith, c.requires.known, c.requires.many))

pub returns-clause-at : goal.returns-clause-at
returns-clause-at g c = at_after g.B.Bank.state c.args.script.now c.args.board.now c.run_entry.new.board c.args.turns.now c.args.procs.now c.args.number c.run_entry.new.slot c.run_entry.new.cpu (slice_index_or c.args.procs.now c.args.number c.index-procs-index.result).pass c.requires.at c.requires.known (omega (arith, c.requires.known, c.requires.room)) c.run_entry.ensures.at c.run_entry.ensures.others

pub returns-clause-kept : goal.returns-clause-kept
returns-clause-kept g c = kept_after c.args.procs.now c.args.number c.index-procs-index.result c.run_entry.new.cpu (slice_index_or c.args.procs.now c.args.number c.index-procs-index.result).pass c.run_entry.ensures.kept
