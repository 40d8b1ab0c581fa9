use Rattle.std.proofs.Common.{ℕ, List, ◌∙◌, ◌∷◌, ◌++◌, ap, decimal}
use Rattle.xs_base.proofs.Cuts.{no_cut}
use Rattle.xs_script.proofs.Readings.{kill_parts, kill_read}
use Rattle.xs_script.proofs.FirstWords.{no_kill}
use Rattle.xs_script.proofs.line_reader.read_kill.Goals as goal

pub returns-in_err-name : goal.returns-in_err-name
returns-in_err-name c = rw c.from_residual.ensures (no_kill c.args.words.now (λ name number fits small e.
    no_cut 32 c.args.words.now name (decimal number) c.in_err-name.ensures e))

pub returns-in_err-name-2 : goal.returns-in_err-name-2
returns-in_err-name-2 c = rw c.from_residual-in_err-name-2.ensures (no_kill c.args.words.now (λ name number fits small e.
    c.in_err-name-2.ensures name fits (kill_parts c.args.words.now c.in_ok-name.name.now c.in_ok-name.digits.now name number c.in_ok-name.ensures.1 c.in_ok-name.ensures.0 fits e).0))

pub returns-in_err-number : goal.returns-in_err-number
returns-in_err-number c = rw c.from_residual-in_err-number.ensures (no_kill c.args.words.now (λ name number fits small e.
    c.in_err-number.ensures number small (kill_parts c.args.words.now c.in_ok-name.name.now c.in_ok-name.digits.now name number c.in_ok-name.ensures.1 c.in_ok-name.ensures.0 fits e).1))

pub returns : goal.returns
returns c =
    let cut = c.in_ok-name.ensures.1 ∙ ap (λ (t : List ℕ). t ++ 32 ∷ c.in_ok-name.digits.now) c.in_ok-name-2.ensures.1 in
    kill_read c.args.words.now c.in_ok-name-2.name c.in_ok-name.digits.now c.in_ok-number.number c.kill_line.result cut c.in_ok-name-2.ensures.0 c.in_ok-number.ensures.0 c.in_ok-number.ensures.1 c.kill_line.ensures
