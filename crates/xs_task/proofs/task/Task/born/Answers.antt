-- A root task over an area without state.
use Rattle.std.proofs.Common.{◌≡◌, ◌∙◌, length, refl, ap, arith}
use Rattle.std.proofs.lemmas.List.{with_items_is}
use Rattle.std.specs.Vec.{with_items}
use Rattle.xs_area.specs.declared.area.Lease.{Lease}
use Rattle.xs_base.specs.Header.{xstate_bv, xcomp_bv}
use Rattle.xs_base.specs.Task.{start_pkru}
use Rattle.xs_task.specs.declared.task.Task.{Task}
use Rattle.xs_task.specs.TaskArea.{IsTaskArea}
use Rattle.xs_task.proofs.BirthLemmas.{blank_area, no_bits, blank_saved, whole_task, root_parked}
use Rattle.xs_task.proofs.CopyLemmas.{long, table}
use Rattle.xs_task.proofs.task.Task.born.Goals as goal

pub make_initial-requires : goal.make_initial-requires
make_initial-requires c = rw (c.deref_mut.ensures.value) (long c.args.layout.now c.args.lease c.requires.area)

-- the lease that it has, and that it is a task's
abbrev new_lease : goal.After-renew → Lease
new_lease c = record { class = c.args.lease.class; area = record { id = c.args.lease.area.id; bytes = with_items c.args.lease.area.bytes c.make_initial.new.area } }

same_length : (c : goal.After-renew) → length c.make_initial.new.area ≡ length c.args.lease.area.bytes.items
same_length c = c.make_initial.ensures.len ∙ ap length c.deref_mut.ensures.value

items_are : (c : goal.After-renew) → (new_lease c).area.bytes.items ≡ c.make_initial.new.area
items_are c = let old = c.args.lease.area.bytes in let len = old.ok.0 in let same = same_length c in with_items_is old c.make_initial.new.area (omega (arith, same, len))

new_area : (c : goal.After-renew) → IsTaskArea c.args.layout.now (new_lease c)
new_area c = blank_area c.args.layout.now c.args.lease (new_lease c) c.requires.area c.requires.small refl refl (ap length (items_are c) ∙ same_length c) (ap xcomp_bv (items_are c) ∙ c.make_initial.ensures.names) (rw (items_are c) c.make_initial.ensures.loadable)

pub returns-clause-whole : goal.returns-clause-whole
returns-clause-whole c = whole_task c.args.layout.now c.renew.new.self (new_lease c) (ap (λ (t : Task). t.lease) c.renew.ensures.others) (new_area c) c.renew.ensures.frame c.renew.ensures.buffer

pub returns-clause-parked : goal.returns-clause-parked
returns-clause-parked c =
    let rows = c.args.layout.now in
    let others = c.renew.ensures.others in
    let area = c.requires.area in
    let tab = table rows c.args.lease area in
    let low = long rows c.args.lease area in
    let none = no_bits c.make_initial.new.area (omega (arith, same_length c)) c.make_initial.ensures.zero in
    root_parked rows c.renew.new.self (new_lease c) tab c.requires.small (ap (λ (t : Task). t.lease) others) (ap (λ (t : Task). t.need_load) others) (ap (λ (t : Task). t.permitted) others) c.renew.ensures.frame c.renew.ensures.buffer
    (ap (λ (t : Task). t.handling) others) (ap (λ (t : Task). t.place) others) (ap (λ (t : Task). t.back) others) (ap (λ (t : Task). t.pkru) others)
    (blank_saved rows (new_lease c) start_pkru tab (ap xstate_bv (items_are c) ∙ none) (rw (items_are c) c.make_initial.ensures.stands))
