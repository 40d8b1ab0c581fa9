use Rattle.std.proofs.Common.{ℕ, List, ◌∙◌, ◌∷◌, ◌++◌, ap, codes}
use Rattle.hex.specs.Hex.{encode_lower}
use Rattle.xs_model.specs.declared.script.Command.TheVariants as commands
use Rattle.xs_script.specs.declared.line.Line.TheVariants as lines
use Rattle.xs_base.proofs.Cuts.{no_cut}
use Rattle.xs_script.proofs.Readings.{set_parts}
use Rattle.xs_script.proofs.FirstWords.{no_set}
use Rattle.xs_script.proofs.line_reader.read_set.Goals as goal

pub returns-in_err-reg : goal.returns-in_err-reg
returns-in_err-reg c = rw c.from_residual.ensures (no_set c.args.words.now (λ reg bytes word fits e.
    no_cut 32 c.args.words.now reg (encode_lower bytes) c.in_err-reg.ensures e))

pub returns-in_err-reg-2 : goal.returns-in_err-reg-2
returns-in_err-reg-2 c = rw c.from_residual-in_err-reg-2.ensures (no_set c.args.words.now (λ reg bytes word fits e.
    c.in_err-reg-2.ensures reg word (set_parts c.args.words.now c.in_ok-reg.reg.now c.in_ok-reg.digits.now reg bytes c.in_ok-reg.ensures.1 c.in_ok-reg.ensures.0 word e).0))

pub returns-in_err-bytes : goal.returns-in_err-bytes
returns-in_err-bytes c = rw c.from_residual-in_err-bytes.ensures (no_set c.args.words.now (λ reg bytes word fits e.
    c.in_err-bytes.ensures bytes fits (set_parts c.args.words.now c.in_ok-reg.reg.now c.in_ok-reg.digits.now reg bytes c.in_ok-reg.ensures.1 c.in_ok-reg.ensures.0 word e).1))

pub returns : goal.returns
returns c =
    let bytes = c.in_ok-bytes.ensures in (
      lines.Order (commands.Set c.in_ok-reg-2.reg bytes.0),
      (c.in_ok-reg-2.ensures.0, bytes.1.0, bytes.1.1),
      ap (λ (t : List ℕ). codes "set " ++ t) (c.in_ok-reg.ensures.1 ∙ ap (λ (t : List ℕ). t ++ 32 ∷ c.in_ok-reg.digits.now) c.in_ok-reg-2.ensures.1 ∙ ap (λ (t : List ℕ). c.in_ok-reg-2.reg ++ 32 ∷ t) bytes.2),
      ap (λ (bs : List ℕ). lines.Order (commands.Set c.in_ok-reg-2.reg bs)) bytes.3,
    )
