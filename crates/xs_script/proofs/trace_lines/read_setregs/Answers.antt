use Rattle.std.proofs.Common.{ℕ, List, ◌∙◌, ◌∷◌, ◌++◌, ap, codes, decimal, refl}
use Rattle.xs_model.specs.declared.script.Command.TheVariants as commands
use Rattle.xs_script.specs.declared.line.Line.TheVariants as lines
use Rattle.xs_script.specs.ScriptLine.{set_word}
use Rattle.xs_script.proofs.Readings.{after_name, after_set}
use Rattle.xs_script.proofs.FirstWords.{no_setregs}
use Rattle.xs_script.proofs.trace_lines.read_setregs.Goals as goal

pub returns-in_err-name : goal.returns-in_err-name
returns-in_err-name c = rw c.from_residual.ensures (no_setregs c.args.words.now (λ name set count fits small e. c.in_err-name.ensures name (set_word set ++ 32 ∷ decimal count) fits e))

pub returns-in_err-set : goal.returns-in_err-set
returns-in_err-set c = rw c.from_residual-in_err-set.ensures (no_setregs c.args.words.now (λ name set count fits small e.
    c.in_err-set.ensures set (decimal count) (after_name c.in_ok-name.name name c.args.words.now c.in_ok-name.words.now (set_word set ++ 32 ∷ decimal count) c.in_ok-name.ensures.0 fits c.in_ok-name.ensures.1 e)))

pub returns-in_err-count : goal.returns-in_err-count
returns-in_err-count c = rw c.from_residual-in_err-count.ensures (no_setregs c.args.words.now (λ name set count fits small e.
    c.in_err-count.ensures count small (after_set c.in_ok-set.set set c.in_ok-name.words.now c.in_ok-set.digits.now (decimal count) c.in_ok-set.ensures
    (after_name c.in_ok-name.name name c.args.words.now c.in_ok-name.words.now (set_word set ++ 32 ∷ decimal count) c.in_ok-name.ensures.0 fits c.in_ok-name.ensures.1 e))))

pub returns : goal.returns
returns c = (
  lines.Order (commands.Setregs c.in_ok-name.name c.in_ok-set.set c.in_ok-count.count),
  (c.in_ok-name.ensures.0, c.in_ok-count.ensures.0),
  ap (λ (t : List ℕ). codes "setregs " ++ t) (c.in_ok-name.ensures.1 ∙ ap (λ (t : List ℕ). c.in_ok-name.name ++ 32 ∷ t) (c.in_ok-set.ensures ∙ ap (λ (t : List ℕ). set_word c.in_ok-set.set ++ 32 ∷ t) c.in_ok-count.ensures.1)),
  refl,
)
