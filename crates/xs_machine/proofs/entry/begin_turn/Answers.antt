-- A user task's registers come and its signal is delivered, or a kernel thread's PKRU comes.
use Rattle.std.proofs.Common.{◌≡◌, inl, inr, sym, ap, ◌∙◌}
use Rattle.xs_base.specs.declared.words.How.TheVariants as hows
use Rattle.xs_task.specs.declared.task.Task.{Task}
use Rattle.xs_machine.proofs.SwitchLemmas.{how_cases, kernel_begun, kernel_how, no_signal, signal_delivered, user_begun}
use Rattle.xs_machine.proofs.entry.begin_turn.Goals as goal

pub returns-then-eq : goal.returns-then-eq
returns-then-eq g c =
    let e = c.to_kernel.ensures in
    let kern : c.args.turn.how ≡ hows.Kern = elim (how_cases c.args.turn.how) [
      | inl load ↦ absurd (let no = rw load at (sym c.if-eq.true ∙ c.eq.ensures) in cc)
      | inr (inl skip) ↦ absurd (let no = rw skip at (sym c.if-eq.true ∙ c.eq.ensures) in cc)
      | inr (inr kern) ↦ kern
    ] in
    kernel_begun c.args.cpu.now c.to_kernel.new.cpu c.args.turn (g.B.Bank.state c.args.cpu.now.bank) (g.B.Bank.state c.to_kernel.new.cpu.bank) kern (c.requires.quiet (kernel_how c.args.turn.how kern)) c.loads.ensures.file e.set_up e.given e.file e.counts e.cpu

pub returns-then-is_some : goal.returns-then-is_some
returns-then-is_some g c =
    let s = c.switch_in.ensures in
    let d = c.deliver.ensures in
    signal_delivered c.args.cpu.now c.switch_in.new.cpu c.deliver.new.cpu c.args.turn c.switch_in.new.task c.deliver.new.task
    (g.B.Bank.state c.args.cpu.now.bank) (g.B.Bank.state c.switch_in.new.cpu.bank) (g.B.Bank.state c.deliver.new.cpu.bank)
    (λ kern. let no = rw kern at (sym c.if-eq.false ∙ c.eq.ensures) in cc) (sym c.is_some.ensures ∙ c.if-is_some.true) s.task s.cpu s.running s.counts
    d.set_up d.whole (ap (λ (x : Task). x.name) d.task) (ap (λ (x : Task). x.need_load) d.task) d.cpu d.ready d.running d.holds d.counts

pub returns-else-is_some : goal.returns-else-is_some
returns-else-is_some g c =
    let e = c.switch_in.ensures in
    user_begun c.args.cpu.now c.switch_in.new.cpu c.args.turn c.switch_in.new.task (g.B.Bank.state c.args.cpu.now.bank) (g.B.Bank.state c.switch_in.new.cpu.bank)
    (λ kern. let no = rw kern at (sym c.if-eq.false ∙ c.eq.ensures) in cc) (no_signal c.args.turn.signal (sym c.is_some.ensures ∙ c.if-is_some.false)) e.set_up e.whole e.task e.cpu e.ready e.running e.holds e.counts
