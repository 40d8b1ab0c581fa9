-- The table has the digits of each number below 100.
use Rattle.xs_text.proofs.LastDigits.{pairs_at}
use Rattle.xs_text.proofs.digits.put_pair.Goals as goal

pub returns : goal.returns
returns c = let p = pairs_at c.args.n c.requires.small in rw (c.put.ensures, p.0, p.1)
