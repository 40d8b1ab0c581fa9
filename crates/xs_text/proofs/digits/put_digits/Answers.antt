-- The last four or eight digits stand behind the others.
use Rattle.std.proofs.lemmas.List.{append_assoc}
use Rattle.xs_text.proofs.LastDigits.{last_four, last_eight}
use Rattle.xs_text.proofs.digits.put_digits.Goals as goal

pub returns-then-n-lt100000000-clause-items : goal.returns-then-n-lt100000000-clause-items
returns-then-n-lt100000000-clause-items c =
    rw (c.put_four.ensures, c.put_at_most_four-then-n-lt100000000.ensures.items, append_assoc, last_four c.args.n c.if-n-lt10000.false c.ranges.n.fits)

pub returns-else-n-lt100000000-clause-items : goal.returns-else-n-lt100000000-clause-items
returns-else-n-lt100000000-clause-items c =
    rw (c.put_four-else-n-lt100000000-2.ensures, c.put_four-else-n-lt100000000.ensures, c.put_pair_or_digit.ensures.items, append_assoc, append_assoc, last_eight c.args.n c.if-n-lt100000000.false c.ranges.n.fits, append_assoc)
