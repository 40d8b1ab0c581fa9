use Rattle.std.proofs.Common.{◌∙◌, codes, ap, refl, List, ℕ, ◌++◌}
use Rattle.xs_script.specs.declared.line.Line.TheVariants as lines
use Rattle.xs_script.proofs.Readings.{word_is}
use Rattle.xs_script.proofs.FirstWords.{no_cpus, no_quantum, no_large}
use Rattle.xs_script.proofs.line_reader.read_head_line.Goals as goal

pub returns-in_err-n : goal.returns-in_err-n
returns-in_err-n c = rw (c.from_residual.ensures, c.in-Some-after-2.ensures) (no_cpus c.in-Some-after-2.digits.now c.in_err-n.ensures)

pub returns-in_err-n-2 : goal.returns-in_err-n-2
returns-in_err-n-2 c = rw (c.from_residual-in_err-n-2.ensures, c.in-Some-after-3.ensures) (no_quantum c.in-Some-after-3.digits.now c.in_err-n-2.ensures)

pub returns-in_err-n-3 : goal.returns-in_err-n-3
returns-in_err-n-3 c = rw (c.from_residual-in_err-n-3.ensures, c.in-Some-after-4.ensures) (no_large c.in-Some-after-4.digits.now c.in_err-n-3.ensures)

pub returns-then-eq : goal.returns-then-eq
returns-then-eq c = (lines.Version, tt, word_is c.args.line.now c.as_slice.result.now (codes "xstate 1") c.eq.result c.eq.ensures c.as_slice.ensures c.if-eq.true, refl)

pub returns-in-Some-after-2 : goal.returns-in-Some-after-2
returns-in-Some-after-2 c = (lines.Cpus c.in_ok-n.n, c.in_ok-n.ensures.0, c.in-Some-after-2.ensures ∙ ap (λ (t : List ℕ). codes "cpus " ++ t) c.in_ok-n.ensures.1, refl)

pub returns-in-Some-after-3 : goal.returns-in-Some-after-3
returns-in-Some-after-3 c = (lines.Quantum c.in_ok-n-2.n, c.in_ok-n-2.ensures.0, c.in-Some-after-3.ensures ∙ ap (λ (t : List ℕ). codes "quantum " ++ t) c.in_ok-n-2.ensures.1, refl)

pub returns-in-Some-after-4 : goal.returns-in-Some-after-4
returns-in-Some-after-4 c = (lines.Large c.in_ok-n-3.n, c.in_ok-n-3.ensures.0, c.in-Some-after-4.ensures ∙ ap (λ (t : List ℕ). codes "large " ++ t) c.in_ok-n-3.ensures.1, refl)
