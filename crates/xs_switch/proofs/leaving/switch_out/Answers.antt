-- The parked task stands for the private task.
use Rattle.std.proofs.Common.{◌≡◌, ℕ, List, take, refl, sym, ap, ◌∙◌, inl, inr, Some}
use Rattle.std.proofs.lemmas.Bool.{cases_Bool}
use Rattle.std.specs.Int.{from_le_bytes, w32}
use Rattle.xs_area.specs.declared.area.Lease.{Lease}
use Rattle.xs_base.specs.File.{File, part, pkru_bytes, pkru_of}
use Rattle.xs_task.specs.declared.task.Task.{Task}
use Rattle.xs_task.specs.Marks.{IsSavedIn}
use Rattle.xs_task.specs.Private.{private_of}
use Rattle.xs_bank.specs.declared.cpu.Cpu.{Cpu}
use Rattle.xs_switch.proofs.SwitchLemmas.{pkru_read, form_kept}
use Rattle.xs_switch.proofs.leaving.switch_out.Goals as goal

pub returns-clause-parked : goal.returns-clause-parked
returns-clause-parked g c = λ p run.
    let rows = c.args.cpu.now.layout in
    let bank = g.B.Bank.state c.settle.new.cpu.bank in
    let task = c.args.task.now in
    let new = c.settle.new.task.lease in
    let value = c.rdpkru-task.result in
    let saved : (lease : Lease) → new ≡ Some lease → IsSavedIn rows lease p.file = λ lease is. elim (cases_Bool task.need_load) [
      | inl set ↦ run.saved set lease (sym (c.settle.ensures.unchanged set) ∙ is)
      | inr clear ↦ (rw (run.whole clear) at c.settle.ensures.saved clear lease is)
    ] in
    let same : part p.file 9 ≡ part bank.file 9 = sym run.pkru ∙ ap (λ (f : File). part f 9) (sym c.settle.ensures.file) in
    let own : part p.file 9 ≡ pkru_bytes value = same ∙ pkru_read bank.file value c.loads.ensures.file c.rdpkru-task.ensures.kept in
    let number : pkru_of p.file ≡ value = ap (λ (bs : List ℕ). from_le_bytes w32 (take 4 bs)) same ∙ sym c.rdpkru-task.ensures.pkru in
    let layout : c.settle.new.cpu.layout ≡ rows = ap (λ (x : Cpu g.row.B.Denot). x.layout) c.settle.ensures.cpu in
    let form = form_kept task new p run.form c.settle.ensures.area ∙ ap (λ (t : Task). private_of t p.file p.marks) (sym c.settle.ensures.task) in
    rw layout (c.a_saved_task_is_parked.ensures rows _ p run.valid refl form c.settle.ensures.whole.some saved own number)
