-- The test of each component is that of its bytes.
use Rattle.std.proofs.Common.{◌≡◌, ◌==◌, ◌&&◌, sym, ap, ◌∙◌, arith}
use Rattle.std.proofs.lemmas.Bool.{eqb-true, eqb-false}
use Rattle.std.specs.List.{list_all}
use Rattle.xs_base.proofs.ComponentLemmas.{x87_size}
use Rattle.xs_regs.proofs.Initials.{x87_is, other_test}
use Rattle.xs_regs.proofs.file.is_initial.Goals as goal

pub split_at-requires : goal.split_at-requires
split_at-requires c =
    let x87 : c.args.c.0 ≡ 0 = eqb-true c.args.c.0 0 (sym c.eq.ensures ∙ c.if-eq.true) in
    let size = rw x87 at c.requires in
    omega (arith, x87_size)

pub returns-then-eq-2 : goal.returns-then-eq-2
returns-then-eq-2 c =
    let x87 : c.args.c.0 ≡ 0 = eqb-true c.args.c.0 0 (sym c.eq.ensures ∙ c.if-eq.true) in
    let whole = x87_is c.args.c.0 c.args.bytes.now c.split_at.result.0.now c.split_at.result.1.now c.as_slice.result.now x87 c.requires c.split_at.ensures.front c.split_at.ensures.back c.as_slice.ensures in
    c.are_zero.ensures ∙ sym (ap (λ t. t && list_all (λ b. b == 0) c.split_at.result.1.now) (sym c.eq-then-eq.ensures ∙ c.if-eq-2.true)) ∙ whole

pub returns-else-eq-2 : goal.returns-else-eq-2
returns-else-eq-2 c =
    let x87 : c.args.c.0 ≡ 0 = eqb-true c.args.c.0 0 (sym c.eq.ensures ∙ c.if-eq.true) in
    let whole = x87_is c.args.c.0 c.args.bytes.now c.split_at.result.0.now c.split_at.result.1.now c.as_slice.result.now x87 c.requires c.split_at.ensures.front c.split_at.ensures.back c.as_slice.ensures in
    c.if-eq-2.false ∙ sym (ap (λ t. t && list_all (λ b. b == 0) c.split_at.result.1.now) (sym c.eq-then-eq.ensures ∙ c.if-eq-2.false)) ∙ whole

pub returns-else-eq : goal.returns-else-eq
returns-else-eq c =
    c.are_zero-else-eq.ensures ∙ sym (other_test c.args.c.0 c.args.bytes.now (eqb-false c.args.c.0 0 (sym c.eq.ensures ∙ c.if-eq.false)) c.requires)
