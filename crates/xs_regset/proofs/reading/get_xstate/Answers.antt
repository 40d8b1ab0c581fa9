-- The bytes of the Xstate set, with the features and the marks.
use Rattle.std.proofs.Common.{◌≤◌, ◌∙◌, length, sym, ap, arith, bit_and}
use Rattle.std.specs.Int.{to_le_bytes, w64}
use Rattle.xs_base.specs.declared.words.Set.TheVariants.{Xstate}
use Rattle.xs_base.specs.Bytes.{splice, zeros}
use Rattle.xs_base.specs.Layout.{features, full_size}
use Rattle.xs_base.specs.Sets.{has}
use Rattle.xs_base.proofs.ImageLemmas.{with_own_pkru}
use Rattle.xs_base.proofs.ReplyLemmas.{reply_length}
use Rattle.xs_base.proofs.SizeLemmas.{end_most}
use Rattle.xs_task.specs.Marks.{marks_of}
use Rattle.xs_regset.proofs.MarkLemmas.{area_table, parked_user}
use Rattle.xs_regset.proofs.ReplyLemmas.{xstate_reply}
use Rattle.xs_regset.proofs.reading.get_xstate.Goals as goal

pub standard_of-requires-clause-room : goal.standard_of-requires-clause-room
standard_of-requires-clause-room c =
    let rows = c.args.layout.now in
    omega (arith, end_most (has c.features-all.result.0) rows (area_table rows c.in-Some.lease (c.requires.task.area c.in-Some.lease c.in-Some.is)), c.clear.ensures.len, c.requires.room)

pub returns-clause-reply : goal.returns-clause-reply
returns-clause-reply c = λ p parked.
    let rows = c.args.layout.now in
    let lease = c.in-Some.lease in
    let are = parked.valid.file.rows_are in
    let good = parked.valid.file.is_file in
    let user = c.user_features.ensures ∙ sym (parked_user rows c.args.task.now lease p parked c.in-Some.is) in
    let shown = ap (λ m. bit_and m c.user_features.result.0) (c.marks.ensures ∙ ap (λ o. marks_of o c.args.task.now.pkru) (sym c.in-Some.is) ∙ sym parked.marks) ∙ ap (bit_and p.marks) user in
    let standard = rw (with_own_pkru p.file c.args.task.now.pkru parked.pkru, c.features-all.ensures.bits, ← are) at (c.standard_of.ensures.standard p.file good (parked.stands lease c.in-Some.is)) in
    let size = c.full_size-size.ensures.size ∙ ap full_size (sym are) in
    let fits : full_size p.file.rows ≤ length c.args.out.now = omega (arith, size, c.full_size-size.ensures.high, c.requires.room) in
    xstate_reply p (bit_and c.marks.result.0 c.user_features.result.0) c.args.out.now c.clear.new.out c.standard_of.new.out c.put_number-2.new.out fits shown
    (c.clear.ensures.written ∙ ap (λ n. splice 0 (zeros n) c.args.out.now) size) standard
    (c.put_number-2.ensures.written ∙ ap (splice 512 (to_le_bytes w64 (bit_and c.marks.result.0 c.user_features.result.0))) (c.put_number.ensures.written ∙ ap (λ m. splice 464 (to_le_bytes w64 m) c.standard_of.new.out) (c.features-all.ensures.bits ∙ ap features (sym are))))

pub returns-clause-count : goal.returns-clause-count
returns-clause-count c = λ p parked. c.full_size-size.ensures.size ∙ ap full_size (sym parked.valid.file.rows_are) ∙ sym (reply_length p Xstate)
