-- The frame has room for every component.
use Rattle.std.proofs.Common.{◌∙◌, ap, arith, length, true}
use Rattle.xs_base.specs.Layout.{full_size}
use Rattle.xs_base.specs.Task.{PrivateTask}
use Rattle.xs_base.proofs.SizeLemmas.{end_most}
use Rattle.xs_private.proofs.private.Private.go_back.Goals as goal

pub take_image-requires : goal.take_image-requires
take_image-requires c =
    let valid = c.requires.valid.1 in
    let long = ap (λ (p : PrivateTask). length p.frame) c.self.view_is ∙ valid.frame_size in
    let size = ap (λ (p : PrivateTask). full_size p.file.rows) c.self.view_is in
    let most = end_most (λ _. true) c.args.self.now.file.rows valid.file.is_file.layout in
    record { room = omega (arith, long, size, most, c.deref.ensures.len) }
