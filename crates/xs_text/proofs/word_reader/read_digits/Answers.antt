-- Each digit more is one of the number, up to the byte that ends it.
use Rattle.std.proofs.Common.{◌++◌, decimal, ap, sym, ◌∙◌, List, ℕ, arith}
use Rattle.xs_text.proofs.NumberText.{too_large, after_digits, pushed}
use Rattle.xs_text.proofs.word_reader.read_digits.Goals as goal

pub returns-in_err-number : goal.returns-in_err-number
returns-in_err-number c =
    let inv = c.digits.invariant in
    rw c.from_residual.ensures (too_large c.args.end c.digits.number c.in-Some.digit (decimal c.args.first ++ c.args.bytes.now) c.digits.left.now c.in-Some.rest.now c.requires.end inv.some inv.small c.in-Some.ensures.0 c.in_err-number.ensures inv.parts c.in-Some.ensures.1)

pub digits-preserved : goal.digits-preserved
digits-preserved c =
    let inv = c.digits.invariant in
    let more = pushed c.digits.number c.in-Some.digit (decimal c.args.first ++ c.args.bytes.now) c.digits.left.now c.in-Some.rest.now inv.some inv.small c.in-Some.ensures.0 inv.parts c.in-Some.ensures.1 in
    record {
      some = omega (arith, c.in_ok-number.ensures, inv.some);
      small = omega arith;
      parts = more ∙ ap (λ (n : ℕ). decimal n ++ c.in-Some.rest.now) (sym c.in_ok-number.ensures);
    }

pub returns-in_err-rest : goal.returns-in_err-rest
returns-in_err-rest c =
    rw c.from_residual-in_err-rest.ensures (λ x more fits e. c.in_err-rest.ensures more
    (after_digits c.args.end c.digits.number x (decimal c.args.first ++ c.args.bytes.now) c.digits.left.now more c.requires.end c.digits.invariant.small fits c.digits.invariant.parts c.in_default.ensures e))

pub returns : goal.returns
returns c = (c.digits.invariant.small, c.digits.invariant.parts ∙ ap (λ (t : List ℕ). decimal c.digits.number ++ t) c.in_ok-rest.ensures)
