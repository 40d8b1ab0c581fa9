-- The last two digits stand behind the others.
use Rattle.std.proofs.lemmas.List.{append_assoc}
use Rattle.xs_text.proofs.LastDigits.{last_two}
use Rattle.xs_text.proofs.digits.put_at_most_four.Goals as goal

pub returns-else-n-lt100-clause-items : goal.returns-else-n-lt100-clause-items
returns-else-n-lt100-clause-items c =
    rw (c.put_pair.ensures, c.put_pair_or_digit-else-n-lt100.ensures.items, append_assoc, last_two c.args.n c.if-n-lt100.false c.ranges.n.fits)
