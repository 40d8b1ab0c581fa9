use Rattle.std.proofs.Common.{ℕ, List, ◌∙◌, ◌∷◌, ◌++◌, ap, codes, refl}
use Rattle.xs_model.specs.declared.script.Command.TheVariants as commands
use Rattle.xs_script.specs.declared.line.Line.TheVariants as lines
use Rattle.xs_script.specs.ScriptLine.{set_word}
use Rattle.xs_script.proofs.Readings.{after_name}
use Rattle.xs_script.proofs.FirstWords.{no_getregs}
use Rattle.xs_script.proofs.trace_lines.read_getregs.Goals as goal

pub returns-in_err-name : goal.returns-in_err-name
returns-in_err-name c = rw c.from_residual.ensures (no_getregs c.args.words.now (λ name set fits e. c.in_err-name.ensures name (set_word set) fits e))

pub returns-in_err-set : goal.returns-in_err-set
returns-in_err-set c = rw c.from_residual-in_err-set.ensures (no_getregs c.args.words.now (λ name set fits e.
    c.in_err-set.ensures set tt (after_name c.in_ok-name.name name c.args.words.now c.in_ok-name.word.now (set_word set) c.in_ok-name.ensures.0 fits c.in_ok-name.ensures.1 e)))

pub returns : goal.returns
returns c = (
  lines.Order (commands.Getregs c.in_ok-name.name c.in_ok-set.set),
  c.in_ok-name.ensures.0,
  ap (λ (t : List ℕ). codes "getregs " ++ t) (c.in_ok-name.ensures.1 ∙ ap (λ (t : List ℕ). c.in_ok-name.name ++ 32 ∷ t) c.in_ok-set.ensures.1),
  refl,
)
