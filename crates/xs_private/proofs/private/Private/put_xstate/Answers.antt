-- The bytes of the Xstate set, with the features and the marks.
use Rattle.std.proofs.Common.{◌≤◌, ◌∙◌, List, length, ap, arith, bit_and}
use Rattle.std.specs.Int.{to_le_bytes, w64}
use Rattle.xs_base.specs.declared.component.Row.{Row}
use Rattle.xs_base.specs.Bytes.{splice, zeros}
use Rattle.xs_base.specs.Layout.{features, full_size}
use Rattle.xs_base.specs.Sets.{has}
use Rattle.xs_base.proofs.SizeLemmas.{end_most}
use Rattle.xs_private.specs.Marks.{user_of}
use Rattle.xs_private.proofs.ReplyLemmas.{xstate_reply}
use Rattle.xs_private.proofs.private.Private.put_xstate.Goals as goal

pub standard_into-requires : goal.standard_into-requires
standard_into-requires c = omega (arith, end_most (has c.features-all.result.0) c.self.inside.file.rows c.layout-layout.ensures.file.layout, c.clear.ensures.len, c.requires.room)

pub returns : goal.returns
returns c =
    let marks = c.self.inside.marks.0 in
    let large = c.self.inside.large in
    let rows = c.self.inside.file.rows in
    let are = c.layout-layout.ensures.rows in
    let user = c.user_of.ensures ∙ ap (λ (rs : List Row). user_of rs large) are in
    let all = c.features-all.ensures.bits ∙ ap features are in
    let size = c.full_size.ensures.size ∙ ap full_size are in
    let fits : full_size rows ≤ length c.args.out.now = omega (arith, size, c.full_size.ensures.high, c.requires.room) in
    rw (← c.self.view_is) (xstate_reply _ (bit_and marks c.user_of.result.0) c.args.out.now c.clear.new.out c.standard_into.new.out c.put_number-2.new.out fits (ap (bit_and marks) user)
    (c.clear.ensures.written ∙ ap (λ n. splice 0 (zeros n) c.args.out.now) size) (rw all at c.standard_into.ensures)
    (c.put_number-2.ensures.written ∙ ap (splice 512 (to_le_bytes w64 (bit_and marks c.user_of.result.0))) (c.put_number.ensures.written ∙ ap (λ m. splice 464 (to_le_bytes w64 m) c.standard_into.new.out) all)))
