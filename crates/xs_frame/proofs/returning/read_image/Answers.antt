-- The private task's user features and user size are those by which its frame was read.
use Rattle.std.proofs.Common.{◌≡◌, sym, ap, ◌∙◌}
use Rattle.xs_base.specs.Task.{PrivateTask}
use Rattle.xs_frame.proofs.TaskLemmas.{large_of, features_are, size_is}
use Rattle.xs_frame.proofs.returning.read_image.Goals as goal

pub returns-clause-image : goal.returns-clause-image
returns-clause-image c = λ p rows_are form.
    let rows = c.args.layout.now in
    let lease = c.in-Some.lease in
    let large = large_of c.args.task.now p lease form c.in-Some.is in
    let user = c.user_features-user.ensures ∙ features_are p rows lease.class rows_are large in
    let size = c.user_size-size.ensures.size ∙ size_is p rows lease.class rows_are large in
    let frame = ap (λ (q : PrivateTask). q.frame) form ∙ sym c.deref.ensures.value in
    c.read_frame.ensures.image p rows_are (sym user) (sym size) frame

pub returns-clause-within : goal.returns-clause-within
returns-clause-within c = λ other at.
    let lease = c.in-Some.lease in
    let same : other ≡ lease = cc (sym at ∙ c.in-Some.is) in
    rw same (c.read_frame.ensures.room lease.class c.user_features-user.ensures)
