-- The lines of the processors so far.
use Rattle.std.proofs.Common.{◌≡◌, ◌+◌, ◌*◌, ◌≤◌, take}
use Rattle.arrayvec.specs.ArrayVec.{array_vec_len}
use Rattle.xs_counts.specs.Text.{processors_text}
use Rattle.xs_counts.proofs.text.counts_text.Given as goal

abbrev pub invariant-loop-proc : goal.invariant-loop-proc
invariant-loop-proc g l = (l.text.items ≡ processors_text g.B.Bank.state (take l.proc-index l.procs)) × (array_vec_len l.text ≤ 3 + 105 * l.proc-index)
