-- The task has the legacy registers of the set.
use Rattle.std.proofs.Common.{◌<◌, ℕ, get_or, refl}
use Rattle.xs_regset.proofs.WriteLemmas.{fx_parked}
use Rattle.xs_regset.proofs.writing.set_fx.Goals as goal

pub returns-clause-accepted : goal.returns-clause-accepted
returns-clause-accepted c = λ p parked.
    let small : (i : ℕ) → get_or c.args.bytes.now i 0 < 256 = λ i. (c.type_inv.bytes i).fits in
    fx_parked c.args.layout.now c.args.task.now _ c.in-Some.lease c.put_legacy.new.lease p c.args.bytes.now parked c.in-Some.is c.put_legacy.ensures.class refl small (c.in_ok-control.ensures.passed p) c.own_pkru.ensures
    (c.put_legacy.ensures.stands p.file parked.valid.file.is_file (parked.stands c.in-Some.lease c.in-Some.is)) c.put_legacy.ensures.marks
