-- The bytes of the Fx set, and zeros behind them.
use Rattle.std.proofs.Common.{sym, arith}
use Rattle.xs_base.specs.declared.words.Set.TheVariants.{Fx}
use Rattle.xs_base.specs.Sets.{has}
use Rattle.xs_base.proofs.ImageLemmas.{with_own_pkru}
use Rattle.xs_base.proofs.ReplyLemmas.{reply_length}
use Rattle.xs_base.proofs.SizeLemmas.{end_most}
use Rattle.xs_regset.proofs.MarkLemmas.{area_table}
use Rattle.xs_regset.proofs.ReplyLemmas.{fx_reply}
use Rattle.xs_regset.proofs.reading.get_fx.Goals as goal

pub standard_of-requires-clause-room : goal.standard_of-requires-clause-room
standard_of-requires-clause-room c =
    let rows = c.args.layout.now in
    omega (arith, end_most (has 3) rows (area_table rows c.in-Some.lease (c.requires.task.area c.in-Some.lease c.in-Some.is)), c.clear.ensures.len, c.requires.room)

pub returns-clause-reply : goal.returns-clause-reply
returns-clause-reply c = λ p parked.
    let good = parked.valid.file.is_file in
    let standard = rw (with_own_pkru p.file c.args.task.now.pkru parked.pkru) at (c.standard_of.ensures.standard p.file good (parked.stands c.in-Some.lease c.in-Some.is)) in
    fx_reply p c.args.out.now c.clear.new.out c.standard_of.new.out good.layout (omega (arith, c.requires.room)) c.clear.ensures.written standard

pub returns-clause-count : goal.returns-clause-count
returns-clause-count c = λ p parked. sym (reply_length p Fx)
