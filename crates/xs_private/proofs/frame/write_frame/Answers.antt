-- The frame has the standard bytes over zeros, and its words over them.
use Rattle.std.proofs.Common.{arith, if◌then◌else◌}
use Rattle.xs_base.specs.Layout.{default_size, full_size}
use Rattle.xs_base.specs.Sets.{has}
use Rattle.xs_base.proofs.FrameLemmas.{frame_is}
use Rattle.xs_base.proofs.SizeLemmas.{end_most}
use Rattle.xs_private.specs.Marks.{user_of}
use Rattle.xs_private.proofs.FileLemmas.{all_zeros}
use Rattle.xs_private.proofs.frame.write_frame.Goals as goal

pub standard_into-requires : goal.standard_into-requires
standard_into-requires c = omega (arith, end_most (has c.user_of-user.result.0) c.args.file.now.rows c.layout-layout.ensures.file.layout, c.clear.ensures.len, c.requires)

pub returns-clause-frame : goal.returns-clause-frame
returns-clause-frame c =
    let rows = c.args.file.now.rows in
    let large = c.args.large in
    let user_is = rw c.layout-layout.ensures.rows at c.user_of-user.ensures in
    let size_is = rw c.layout-layout.ensures.rows at c.size_of-size.ensures.size in
    let blank = all_zeros c.args.frame.now c.clear.new.out 16388 c.requires c.clear.ensures.written in
    frame_is c.args.file.now (user_of rows large) (if large then full_size rows else default_size rows) c.frame_bits.result.0 c.standard_into.new.out c.put_words.new.frame
    (rw (user_is, blank) at c.standard_into.ensures) (rw user_is at c.frame_bits.ensures) (rw (user_is, size_is) at c.put_words.ensures.written)
