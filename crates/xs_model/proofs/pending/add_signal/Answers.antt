-- The signal stands at its place.
use Rattle.std.proofs.Common.{◌≡◌, ℕ, ◌<◌, false, length, take, drop, ◌++◌, ◌∷◌, sym, ap, ◌∙◌, subst, arith}
use Rattle.std.specs.Prelude.{slice_get, vec_capacity}
use Rattle.std.specs.Vec.{vec_len}
use Rattle.xs_model.specs.Laws.{ArePending}
use Rattle.xs_model.specs.Outer.{insert}
use Rattle.xs_model.specs.Pending.{below, is_signal}
use Rattle.xs_model.proofs.PendingLaws.{joined}
use Rattle.xs_model.proofs.Signals.{few_pending, when_ok, insert_longer, insert_new, insert_same, stood}
use Rattle.xs_model.proofs.pending.add_signal.Goals as goal

-- it isn't pending
fresh : (c : goal.After-insert) → is_signal (slice_get c.args.signals.now.items (below c.args.signo c.args.signals.now.items)) c.args.signo ≡ false
fresh c =
    sym (stood c.args.signo c.args.signals.now.items c.as_slice.result.now c.as_slice-2.result.now c.count_below-place.result c.stands_at.result c.as_slice.ensures.value c.as_slice-2.ensures.value c.count_below-place.ensures.count c.stands_at.ensures)
    ∙ c.if-not-stands_at.true

-- where it isn't pending, there is room for it
room : (c : goal.After-insert) → vec_len c.args.signals.now < vec_capacity c.args.signals.now
room c =
    let pending = c.args.signals.now.items in
    let long = insert_longer c.args.signo pending (fresh c) in
    let few = few_pending 0 (insert c.args.signo pending) (joined 0 c.args.signo pending (c.args.signo.in_range.0) c.requires.rise) (omega arith) in
    let capacity = c.requires.room in
    let len = sym c.as_slice.ensures.len ∙ ap length c.as_slice.ensures.value in
    omega (arith, long, few, capacity, len)

pub returns-then-not-stands_at-clause-items : goal.returns-then-not-stands_at-clause-items
returns-then-not-stands_at-clause-items c =
    let pending = c.args.signals.now.items in
    c.insert.ensures.items ∙ when_ok c.insert.result _ _ (c.insert.ensures.succeeds (room c))
    ∙ ap (λ (n : ℕ). take n pending ++ c.args.signo ∷ drop n pending) (c.count_below-place.ensures.count ∙ ap (below c.args.signo) c.as_slice.ensures.value)
    ∙ insert_new c.args.signo pending (fresh c)

pub returns-then-not-stands_at-clause-rise : goal.returns-then-not-stands_at-clause-rise
returns-then-not-stands_at-clause-rise c =
    subst (ArePending 0) (sym (returns-then-not-stands_at-clause-items c)) (joined 0 c.args.signo c.args.signals.now.items (c.args.signo.in_range.0) c.requires.rise)

pub returns-else-not-stands_at-clause-items : goal.returns-else-not-stands_at-clause-items
returns-else-not-stands_at-clause-items c =
    insert_same c.args.signo c.args.signals.now.items
    (sym (stood c.args.signo c.args.signals.now.items c.as_slice.result.now c.as_slice-2.result.now c.count_below-place.result c.stands_at.result c.as_slice.ensures.value c.as_slice-2.ensures.value c.count_below-place.ensures.count c.stands_at.ensures)
    ∙ c.if-not-stands_at.false)
