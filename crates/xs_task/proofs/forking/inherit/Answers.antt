-- The child stands for the child of the private task.
use Rattle.std.proofs.Common.{◌≡◌, ◌∙◌, sym, ap}
use Rattle.xs_base.specs.File.{pkru_bytes}
use Rattle.xs_base.specs.Task.{PrivateTask}
use Rattle.xs_task.specs.declared.task.Task.{Task}
use Rattle.xs_task.specs.Marks.{marks_of}
use Rattle.xs_task.proofs.CopyLemmas.{table}
use Rattle.xs_task.proofs.ForkLemmas.{another_area, child_file, child_is_file, child_cut, child_saved, child_parked}
use Rattle.xs_task.proofs.forking.inherit.Goals as goal

pub returns-clause-whole : goal.returns-clause-whole
returns-clause-whole c =
    let others = c.begin.ensures in
    another_area c.args.layout.now c.args.child.now c.begin.new.self c.copy_lease.new.to c.requires.child (ap (λ (t : Task). t.frame.items) others) (ap (λ (t : Task). t.buffer.items) others) (ap (λ (t : Task). t.lease) others) c.copy_lease.ensures.area

pub returns-clause-parked : goal.returns-clause-parked
returns-clause-parked c = λ p parked after frame buffer.
    let rows = c.args.layout.now in
    let others = c.begin.ensures in
    let from = c.in-Some.from in
    let to = c.copy_lease.new.to in
    let good = parked.valid.file.is_file in
    let small = c.requires.small c.in-Some-lease.to c.in-Some-lease.is in
    let tab = table rows to c.copy_lease.ensures.area in
    let stands = c.copy_lease.ensures.stands p.file (child_file p.file) good (child_is_file p.file good) (parked.stands from c.in-Some.is) (child_cut rows c.in-Some-lease.to.class p.file tab small good) in
    let saved = child_saved rows from.area.bytes.items c.args.parent.now.pkru p tab parked.valid.file.rows_are (ap (λ o. marks_of o c.args.parent.now.pkru) (sym c.in-Some.is) ∙ sym parked.marks ∙ after) to (c.copy_lease.ensures.class ∙ small) stands (rw (← c.copy_lease.ensures.class) at c.copy_lease.ensures.marks) in
    let own : c.begin.new.self.pkru ≡ c.args.parent.now.pkru = ap (λ (t : Task). t.pkru) others ∙ c.own_pkru-child.ensures.is in
    child_parked rows c.begin.new.self to p parked.valid (c.copy_lease.ensures.class ∙ small) (ap (λ (t : Task). t.lease) others) (ap (λ (t : Task). t.need_load) others)
    (ap (λ (t : Task). t.permitted) others ∙ sym (ap (λ (q : PrivateTask). q.permitted) parked.form)) (ap (λ (t : Task). t.frame.items) others ∙ frame) (ap (λ (t : Task). t.buffer.items) others ∙ buffer)
    (ap (λ (t : Task). t.handling) others) (ap (λ (t : Task). t.place) others) (ap (λ (t : Task). t.back) others) saved
    (parked.pkru ∙ ap pkru_bytes (sym own)) (rw own c.own_pkru-child.ensures.small)
