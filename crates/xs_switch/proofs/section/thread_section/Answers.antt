-- Every machine has XMM0.
use Rattle.std.proofs.Common.{refl, sym, ap, arith, ◌++◌, List, ℕ}
use Rattle.std.proofs.lemmas.Fmt.{decimal_digit}
use Rattle.std.specs.Prelude.{codes}
use Rattle.xs_base.specs.Register.{Member, family}
use Rattle.xs_base.proofs.RowLemmas.{has_sse}
use Rattle.xs_switch.proofs.section.thread_section.Goals as goal

pub write-requires-clause-register : goal.write-requires-clause-register
write-requires-clause-register g c =
    (codes "xmm0", (Member (1, family (codes "xmm") 0 16 1 0 16 16, omega arith, refl, record { index = 0; within = omega arith; spelled = sym (ap (λ (ds : List ℕ). codes "xmm" ++ ds) (decimal_digit 0 (omega arith))); placed = refl }), has_sse (g.B.Bank.state c.args.cpu.now.bank).file.rows c.loads.ensures.file.layout))
