-- The task goes on with the file of its frame, or with an initial one.
use Rattle.std.proofs.Common.{◌≡◌, false, refl, sym, ap, subst, ◌∙◌, List, ℕ}
use Rattle.xs_base.specs.declared.component.Row.{Row}
use Rattle.xs_base.specs.File.{initial_file}
use Rattle.xs_base.specs.Image.{image_file}
use Rattle.xs_base.specs.Task.{PrivateTask, IsPrivateTask, start_file}
use Rattle.xs_base.proofs.AcceptedLemmas.{return_is_private}
use Rattle.xs_bank.specs.declared.cpu.Cpu.{Cpu}
use Rattle.xs_task.specs.declared.task.Task.{Task}
use Rattle.xs_task.specs.Private.{private_of}
use Rattle.xs_switch.specs.Running.{IsRunning}
use Rattle.xs_image.specs.Restored.{restored_as}
use Rattle.xs_frame.proofs.ReturnLemmas.{after_is, refused_is}
use Rattle.xs_frame.proofs.TaskLemmas.{form_kept, running_in_bank, running_holds}
use Rattle.xs_frame.proofs.returning.sigreturn.Goals as goal

-- ---- the frame is taken

pub returns-in-Ok-clause-answer : goal.returns-in-Ok-clause-answer
returns-in-Ok-clause-answer g c = λ p run.
    let parts = c.in-Ok.image.parts in
    let rows_are = run.valid.file.rows_are in
    c.in-Ok.ensures.image p rows_are run.form
    ∙ ap (restored_as c.in-Ok.image.restored) (
    ap (λ (rs : List Row). image_file (initial_file rs) p.frame parts) rows_are
    ∙ ap (λ (bytes : List ℕ). image_file (initial_file c.args.cpu.now.layout) bytes parts) (ap (λ (q : PrivateTask). q.frame) run.form)
    ∙ sym c.take.ensures.file)

pub returns-in-Ok-clause-running : goal.returns-in-Ok-clause-running
returns-in-Ok-clause-running g c = λ p run.
    let rows = c.args.cpu.now.layout in
    let new = c.take.new.task in
    let bank = g.B.Bank.state c.take.new.cpu.bank in
    let layout : c.take.new.cpu.layout ≡ rows = ap (λ (x : Cpu g.row.B.Denot). x.layout) c.take.ensures.cpu in
    let back = after_is p c.in-Ok.image.restored bank.file (returns-in-Ok-clause-answer g c p run) in
    let form : record p { file = bank.file; handling = false; place = p.back } ≡ private_of new bank.file p.marks =
    ap (λ (q : PrivateTask). record q { file = bank.file; handling = false; place = q.back }) (form_kept c.args.task.now new.lease p run.form c.take.ensures.area)
    ∙ ap (λ (t : Task). private_of t bank.file p.marks) (sym c.take.ensures.task) in
    let clear = ap (λ (t : Task). t.need_load) c.take.ensures.task ∙ c.requires.in_bank in
    let table = rw (run.valid.file.rows_are) at run.valid.file.is_file.layout in
    let valid = subst (λ q. IsPrivateTask rows q) back (return_is_private rows p table run.valid) in
    rw layout (subst (λ q. IsRunning rows new bank q) (sym back) (running_in_bank rows new bank _ valid form clear refl))

pub returns-in-Ok-clause-holds : goal.returns-in-Ok-clause-holds
returns-in-Ok-clause-holds g c = λ p run.
    let clear = ap (λ (t : Task). t.need_load) c.take.ensures.task ∙ c.requires.in_bank in
    running_holds c.take.new.cpu.layout c.take.new.task (g.B.Bank.state c.take.new.cpu.bank) _ c.take.ensures.whole clear c.take.ensures.ready (returns-in-Ok-clause-running g c p run)

-- ---- the frame is refused

pub returns-in-Err-clause-ready : goal.returns-in-Err-clause-ready
returns-in-Err-clause-ready g c = λ flag lease is.
    let layout : c.make_initial.new.cpu.layout ≡ c.args.cpu.now.layout = ap (λ (x : Cpu g.row.B.Denot). x.layout) c.make_initial.ensures.cpu in
    rw layout (record {
      armed = c.make_initial.ensures.armed ∙ c.requires.armed lease is;
      ready = c.make_initial.ensures.ready _ _ _ (c.requires.task.area lease is).loadable.numbered;
    })

pub returns-in-Err-clause-running : goal.returns-in-Err-clause-running
returns-in-Err-clause-running g c = λ p run.
    let rows = c.args.cpu.now.layout in
    let task = c.args.task.now in
    let bank = g.B.Bank.state c.make_initial.new.cpu.bank in
    let rows_are = run.valid.file.rows_are in
    let layout : c.make_initial.new.cpu.layout ≡ rows = ap (λ (x : Cpu g.row.B.Denot). x.layout) c.make_initial.ensures.cpu in
    let back = refused_is p c.in-Err.error (c.in-Err.ensures.image p rows_are run.form) in
    let form = ap (λ (q : PrivateTask). record q { file = start_file p.file.rows }) run.form in
    let table = rw rows_are at run.valid.file.is_file.layout in
    let valid = subst (λ q. IsPrivateTask rows q) back (return_is_private rows p table run.valid) in
    rw layout (subst (λ q. IsRunning rows task bank q) (sym back) (running_in_bank rows task bank _ valid form c.requires.in_bank (c.make_initial.ensures.file ∙ ap start_file (sym rows_are))))

pub returns-in-Err-clause-holds : goal.returns-in-Err-clause-holds
returns-in-Err-clause-holds g c = λ p run.
    let layout : c.make_initial.new.cpu.layout ≡ c.args.cpu.now.layout = ap (λ (x : Cpu g.row.B.Denot). x.layout) c.make_initial.ensures.cpu in
    running_holds c.make_initial.new.cpu.layout c.args.task.now (g.B.Bank.state c.make_initial.new.cpu.bank) _ (rw layout (c.requires.task)) c.requires.in_bank (returns-in-Err-clause-ready g c) (returns-in-Err-clause-running g c p run)
