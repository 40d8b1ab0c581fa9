-- The frame is that of the file that the area stands for.
use Rattle.std.proofs.Common.{◌≡◌, sym, ap, ◌∙◌, arith}
use Rattle.xs_base.specs.Bytes.{zeros}
use Rattle.xs_base.specs.File.{File, part, pkru_bytes}
use Rattle.xs_base.specs.Sets.{has}
use Rattle.xs_base.proofs.ComponentLemmas.{length_zeros}
use Rattle.xs_base.proofs.FileLemmas.{part_here, splice_whole}
use Rattle.xs_base.proofs.FrameLemmas.{frame_is}
use Rattle.xs_base.proofs.SizeLemmas.{end_most}
use Rattle.xs_image.specs.User.{user_features, user_size}
use Rattle.xs_frame.proofs.BitLemmas.{bits_are}
use Rattle.xs_frame.proofs.frame.write_frame.Goals as goal

pub standard_of-requires-clause-room : goal.standard_of-requires-clause-room
standard_of-requires-clause-room c =
    let most = end_most (has c.user_features-user.result.0) c.args.layout.now c.len.ensures.layout in
    omega (arith, most, c.clear.ensures.len, c.requires.len)

pub frame_bits-bits-requires : goal.frame_bits-bits-requires
frame_bits-bits-requires c = rw (c.deref.ensures.value) (c.an_area_has_its_places.ensures.long c.args.layout.now c.args.lease.now c.requires.area)

pub returns-clause-frame : goal.returns-clause-frame
returns-clause-frame c = λ file good saved own.
    let rows = c.args.layout.now in
    let lease = c.args.lease.now in
    let pkru = c.args.pkru in
    let user_is = c.user_features-user.ensures in
    let size_is = c.user_size-size.ensures.size in
    let blank : c.clear.new.out ≡ zeros 16388 =
    (rw (c.requires.len) at c.clear.ensures.written) ∙ splice_whole (zeros 16388) c.args.frame.now (length_zeros 16388 ∙ sym c.requires.len) in
    let standard = rw (own, user_is, blank) at (c.standard_of.ensures.standard file good saved.stands) in
    let each = rw (c.deref.ensures.value, user_is) at c.frame_bits-bits.ensures in
    let component : part file 9 ≡ pkru_bytes pkru = ap (λ (f : File). part f 9) (sym own) ∙ part_here file 9 (pkru_bytes pkru) (omega (arith, good.count)) in
    let bits = bits_are rows lease pkru file c.len.ensures.layout saved.stands.rows_are saved component c.ranges.pkru.fits c.frame_bits-bits.result.0 each in
    frame_is file (user_features rows lease.class) (user_size rows lease.class) c.frame_bits-bits.result.0 c.standard_of.new.out c.put_words.new.frame standard bits (rw (user_is, size_is) at c.put_words.ensures.written)
