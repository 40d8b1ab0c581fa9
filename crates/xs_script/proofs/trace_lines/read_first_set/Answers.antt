use Rattle.xs_script.specs.ScriptLine.{set_word}
use Rattle.xs_base.proofs.Cuts.{no_cut}
use Rattle.xs_script.proofs.Readings.{no_set_word}
use Rattle.xs_script.proofs.trace_lines.read_first_set.Goals as goal

pub returns-in_err-word : goal.returns-in_err-word
returns-in_err-word c = rw c.from_residual.ensures (λ set rest e. no_cut 32 c.args.words.now (set_word set) rest c.in_err-word.ensures e)

pub returns-in_err-set : goal.returns-in_err-set
returns-in_err-set c = rw c.from_residual-in_err-set.ensures (no_set_word c.args.words.now c.in_ok-word.word.now c.in_ok-word.rest.now c.in_ok-word.ensures.1 c.in_ok-word.ensures.0 c.in_err-set.ensures)
