-- The task after a delivery.
use Rattle.std.proofs.Common.{◌≡◌, length, sym, ap, ◌∙◌}
use Rattle.std.proofs.lemmas.List.{with_items_is}
use Rattle.xs_base.specs.File.{with_pkru}
use Rattle.xs_base.specs.Frame.{frame_bytes}
use Rattle.xs_base.specs.Task.{start_file}
use Rattle.xs_base.proofs.ValidLemmas.{delivered_is_private}
use Rattle.xs_bank.specs.declared.cpu.Cpu.{Cpu}
use Rattle.xs_bank.specs.Bank.{Bank}
use Rattle.xs_task.specs.declared.task.Task.{Task}
use Rattle.xs_task.specs.Private.{private_of}
use Rattle.xs_image.specs.User.{user_features, user_size}
use Rattle.xs_frame.proofs.TaskLemmas.{kept_armed, form_kept, delivered_form, running_in_bank, running_holds}
use Rattle.xs_frame.proofs.delivery.deliver.Goals as goal

pub returns-clause-whole : goal.returns-clause-whole
returns-clause-whole g c =
    let layout : c.make_initial.new.cpu.layout ≡ c.args.cpu.now.layout = ap (λ (x : Cpu g.row.B.Denot). x.layout) c.make_initial.ensures.cpu ∙ ap (λ (x : Cpu g.row.B.Denot). x.layout) c.save_task.ensures.cpu in
    let saved = c.save_task.ensures.whole in
    let whole = c.save_task.new.task.frame in
    let len : length c.write_frame.new.frame ≡ whole.len = c.write_frame.ensures.len ∙ sym saved.frame ∙ sym whole.ok.0 in
    record { frame = ap length (with_items_is whole c.write_frame.new.frame len) ∙ c.write_frame.ensures.len; buffer = saved.buffer; some = saved.some; area = rw layout saved.area }

pub returns-clause-ready : goal.returns-clause-ready
returns-clause-ready g c = λ flag lease is.
    let layout : c.make_initial.new.cpu.layout ≡ c.args.cpu.now.layout = ap (λ (x : Cpu g.row.B.Denot). x.layout) c.make_initial.ensures.cpu ∙ ap (λ (x : Cpu g.row.B.Denot). x.layout) c.save_task.ensures.cpu in
    let rows = c.args.cpu.now.layout in
    let old = g.B.Bank.state c.args.cpu.now.bank in
    let armed = kept_armed rows old.armed c.args.task.now.lease c.save_task.new.task.lease c.save_task.ensures.area (λ l at. (c.requires.ready c.requires.in_bank l at).armed) lease is in
    rw layout (record {
      armed = c.make_initial.ensures.armed ∙ ap (λ (b : Bank). b.armed) c.save_task.ensures.bank ∙ armed;
      ready = c.make_initial.ensures.ready _ _ _ (c.save_task.ensures.whole.area lease is).loadable.numbered;
    })

pub returns-clause-running : goal.returns-clause-running
returns-clause-running g c = λ p run.
    let rows = c.args.cpu.now.layout in
    let task = c.save_task.new.task in
    let lease = c.in-Some.lease in
    let saved_layout : c.save_task.new.cpu.layout ≡ rows = ap (λ (x : Cpu g.row.B.Denot). x.layout) c.save_task.ensures.cpu in
    let layout : c.make_initial.new.cpu.layout ≡ rows = ap (λ (x : Cpu g.row.B.Denot). x.layout) c.make_initial.ensures.cpu ∙ saved_layout in
    let held = run.whole c.requires.in_bank in
    let good = run.valid.file.is_file in
    let rows_are = run.valid.file.rows_are in
    let form : p ≡ private_of task p.file p.marks = form_kept c.args.task.now task.lease p run.form c.save_task.ensures.area ∙ ap (λ (t : Task). private_of t p.file p.marks) (sym c.save_task.ensures.task) in
    let saved = rw held at c.save_task.ensures.saved lease c.in-Some.is in
    let own : with_pkru p.file c.rdpkru-pkru.result ≡ p.file = rw (ap (λ (b : Bank). b.file) c.save_task.ensures.bank ∙ held) at c.rdpkru-pkru.ensures.kept in
    let frames = rw saved_layout at c.write_frame.ensures.frame in
    let written : c.write_frame.new.frame ≡ frame_bytes p.file (user_features rows lease.class) (user_size rows lease.class) = frames p.file good saved own in
    let whole = task.frame in
    let len : length c.write_frame.new.frame ≡ whole.len = c.write_frame.ensures.len ∙ sym c.save_task.ensures.whole.frame ∙ sym whole.ok.0 in
    let clear = ap (λ (t : Task). t.need_load) c.save_task.ensures.task ∙ c.requires.in_bank in
    rw layout (running_in_bank rows _ (g.B.Bank.state c.make_initial.new.cpu.bank) _
    (delivered_is_private rows p (rw rows_are at good.layout) run.valid)
    (delivered_form task p rows lease _ form c.in-Some.is rows_are (with_items_is whole c.write_frame.new.frame len ∙ written))
    clear (c.make_initial.ensures.file ∙ ap start_file (saved_layout ∙ sym rows_are)))

pub returns-clause-holds : goal.returns-clause-holds
returns-clause-holds g c = λ p run.
    let clear = ap (λ (t : Task). t.need_load) c.save_task.ensures.task ∙ c.requires.in_bank in
    running_holds c.make_initial.new.cpu.layout _ (g.B.Bank.state c.make_initial.new.cpu.bank) _ (returns-clause-whole g c) clear (returns-clause-ready g c) (returns-clause-running g c p run)
