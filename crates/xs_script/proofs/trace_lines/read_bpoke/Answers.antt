use Rattle.std.proofs.Common.{ℕ, List, ◌∙◌, ◌∷◌, ◌++◌, ap, codes, decimal}
use Rattle.hex.specs.Hex.{encode_lower}
use Rattle.xs_model.specs.declared.script.Command.TheVariants as commands
use Rattle.xs_script.specs.declared.line.Line.TheVariants as lines
use Rattle.xs_script.proofs.Readings.{next_words}
use Rattle.xs_script.proofs.FirstWords.{no_bpoke}
use Rattle.xs_script.proofs.trace_lines.read_bpoke.Goals as goal

pub returns-in_err-at : goal.returns-in_err-at
returns-in_err-at c = rw c.from_residual.ensures (no_bpoke c.args.words.now (λ at bytes small fits e. c.in_err-at.ensures at (encode_lower bytes) small e))

pub returns-in_err-bytes : goal.returns-in_err-bytes
returns-in_err-bytes c = rw c.from_residual-in_err-bytes.ensures (no_bpoke c.args.words.now (λ at bytes small fits e.
    c.in_err-bytes.ensures bytes fits (next_words c.in_ok-at.at at c.args.words.now c.in_ok-at.digits.now (encode_lower bytes) c.in_ok-at.ensures.0 small c.in_ok-at.ensures.1 e)))

pub returns : goal.returns
returns c =
    let bytes = c.in_ok-bytes.ensures in (
      lines.Order (commands.Bpoke c.in_ok-at.at bytes.0),
      (c.in_ok-at.ensures.0, bytes.1.0, bytes.1.1),
      ap (λ (t : List ℕ). codes "bpoke " ++ t) (c.in_ok-at.ensures.1 ∙ ap (λ (t : List ℕ). decimal c.in_ok-at.at ++ 32 ∷ t) bytes.2),
      ap (λ (bs : List ℕ). lines.Order (commands.Bpoke c.in_ok-at.at bs)) bytes.3,
    )
