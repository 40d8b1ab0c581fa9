use Rattle.std.proofs.Common.{ℕ, List, ◌∙◌, ◌∷◌, ◌++◌, ap, codes, decimal, refl}
use Rattle.xs_model.specs.declared.script.Command.TheVariants as commands
use Rattle.xs_script.specs.declared.line.Line.TheVariants as lines
use Rattle.xs_script.proofs.Readings.{next_words}
use Rattle.xs_script.proofs.FirstWords.{no_bpeek}
use Rattle.xs_script.proofs.trace_lines.read_bpeek.Goals as goal

pub returns-in_err-at : goal.returns-in_err-at
returns-in_err-at c = rw c.from_residual.ensures (no_bpeek c.args.words.now (λ at len small fits e. c.in_err-at.ensures at (decimal len) small e))

pub returns-in_err-len : goal.returns-in_err-len
returns-in_err-len c = rw c.from_residual-in_err-len.ensures (no_bpeek c.args.words.now (λ at len small fits e.
    c.in_err-len.ensures len fits (next_words c.in_ok-at.at at c.args.words.now c.in_ok-at.len.now (decimal len) c.in_ok-at.ensures.0 small c.in_ok-at.ensures.1 e)))

pub returns : goal.returns
returns c = (
  lines.Order (commands.Bpeek c.in_ok-at.at c.in_ok-len.len),
  (c.in_ok-at.ensures.0, c.in_ok-len.ensures.0),
  ap (λ (t : List ℕ). codes "bpeek " ++ t) (c.in_ok-at.ensures.1 ∙ ap (λ (t : List ℕ). decimal c.in_ok-at.at ++ 32 ∷ t) c.in_ok-len.ensures.1),
  refl,
)
