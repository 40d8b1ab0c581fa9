-- A number below 10 is one digit, and one below 100 two.
use Rattle.std.proofs.Common.{[], ◌∷◌, ◌++◌, ap, sym, ◌∙◌, arith}
use Rattle.std.proofs.lemmas.Fmt.{decimal_digit}
use Rattle.xs_text.proofs.LastDigits.{two_digits}
use Rattle.xs_text.proofs.digits.put_pair_or_digit.Goals as goal

pub returns-then-n-lt10-clause-items : goal.returns-then-n-lt10-clause-items
returns-then-n-lt10-clause-items c =
    c.put.ensures ∙ ap (λ ds. c.args.line.now ++ ds) (ap (λ d. d ∷ []) (omega arith) ∙ sym (decimal_digit c.args.n c.if-n-lt10.true))

pub returns-else-n-lt10-clause-items : goal.returns-else-n-lt10-clause-items
returns-else-n-lt10-clause-items c = rw (c.put_pair.ensures, two_digits c.args.n c.if-n-lt10.false c.requires.small)
