-- The task's file is in its area, and PKRU is still in the bank.
use Rattle.std.proofs.Common.{◌≡◌, refl, sym, ap, ◌∙◌, true}
use Rattle.xs_bank.specs.declared.cpu.Cpu.{Cpu}
use Rattle.xs_task.specs.declared.task.Task.{Task}
use Rattle.xs_task.specs.Private.{private_of}
use Rattle.xs_base.specs.File.{part}
use Rattle.xs_bank.specs.Bank.{Bank}
use Rattle.xs_switch.proofs.SwitchLemmas.{running_saved, form_kept}
use Rattle.xs_switch.proofs.section.kernel_section.Goals as goal

pub returns-clause-running : goal.returns-clause-running
returns-clause-running g c = λ p run.
    let layout : c.thread_section.new.cpu.layout ≡ c.args.cpu.now.layout = ap (λ (x : Cpu g.row.B.Denot). x.layout) c.thread_section.ensures.cpu ∙ ap (λ (x : Cpu g.row.B.Denot). x.layout) c.save_task.ensures.cpu in
    rw layout (running_saved c.args.cpu.now.layout (record c.save_task.new.task { need_load = true }) (g.B.Bank.state c.thread_section.new.cpu.bank) p run.valid (form_kept c.args.task.now c.save_task.new.task.lease p run.form c.save_task.ensures.area ∙ ap (λ (t : Task). private_of t p.file p.marks) (sym c.save_task.ensures.task)) refl
    (c.thread_section.ensures.pkru ∙ ap (λ (b : Bank). part b.file 9) c.save_task.ensures.bank ∙ run.pkru)
    (rw (run.whole c.requires.in_bank) at c.save_task.ensures.saved))
