use Rattle.std.proofs.Common.{ℕ, List, ◌∷◌, ◌++◌, codes, decimal, ap}
use Rattle.xs_base.specs.Layout.{row}
use Rattle.xs_script.specs.declared.line.Line.TheVariants as lines
use Rattle.xs_script.proofs.FirstWords.{no_row}
use Rattle.xs_script.proofs.Readings.{size_words, offset_words, flag_words, row_joined}
use Rattle.xs_script.proofs.line_reader.read_row.Goals as goal

pub returns-in_err-number : goal.returns-in_err-number
returns-in_err-number c = rw c.from_residual.ensures (no_row c.args.words.now (λ r fits e.
    c.in_err-number.ensures r.comp.0 (decimal r.size ++ 32 ∷ (decimal r.offset ++ 32 ∷ decimal r.flags)) fits.0 e))

pub returns-in_err-size : goal.returns-in_err-size
returns-in_err-size c = rw c.from_residual-in_err-size.ensures (no_row c.args.words.now (λ r fits e.
    c.in_err-size.ensures r.size (decimal r.offset ++ 32 ∷ decimal r.flags) fits.1
    (size_words c.args.words.now c.in_ok-number.words.now c.in_ok-number.number r c.in_ok-number.ensures.0 c.in_ok-number.ensures.1 fits e)))

pub returns-in_err-offset : goal.returns-in_err-offset
returns-in_err-offset c = rw c.from_residual-in_err-offset.ensures (no_row c.args.words.now (λ r fits e.
    c.in_err-offset.ensures r.offset (decimal r.flags) fits.2
    (offset_words c.args.words.now c.in_ok-number.words.now c.in_ok-size.words.now c.in_ok-number.number c.in_ok-size.size r
    c.in_ok-number.ensures.0 c.in_ok-number.ensures.1 c.in_ok-size.ensures.0 c.in_ok-size.ensures.1 fits e)))

pub returns-in_err-flags : goal.returns-in_err-flags
returns-in_err-flags c = rw c.from_residual-in_err-flags.ensures (no_row c.args.words.now (λ r fits e.
    c.in_err-flags.ensures r.flags fits.3
    (flag_words c.args.words.now c.in_ok-number.words.now c.in_ok-size.words.now c.in_ok-offset.flags.now c.in_ok-number.number c.in_ok-size.size c.in_ok-offset.offset r
    c.in_ok-number.ensures.0 c.in_ok-number.ensures.1 c.in_ok-size.ensures.0 c.in_ok-size.ensures.1 c.in_ok-offset.ensures.0 c.in_ok-offset.ensures.1 fits e)))

pub returns : goal.returns
returns c = (
  lines.Row (row c.in_ok-number.number c.in_ok-size.size c.in_ok-offset.offset c.in_ok-flags.flags),
  (c.in_ok-number.ensures.0, c.in_ok-size.ensures.0, c.in_ok-offset.ensures.0, c.in_ok-flags.ensures.0),
  ap (λ (t : List ℕ). codes "row " ++ t) (row_joined c.args.words.now c.in_ok-number.words.now c.in_ok-size.words.now c.in_ok-offset.flags.now _ _ _ _
      c.in_ok-number.ensures.1 c.in_ok-size.ensures.1 c.in_ok-offset.ensures.1 c.in_ok-flags.ensures.1),
  ap (λ (n : ℕ). lines.Row (row n c.in_ok-size.size c.in_ok-offset.offset c.in_ok-flags.flags)) c.min.ensures,
)
