-- An entry is found by its name.
use Rattle.std.proofs.Common.{◌≡◌, refl, sym}
use Rattle.std.proofs.lemmas.Bool.Decides.{Decides-eqb, not_from_Decides}
use Rattle.std.proofs.lemmas.Slice.Eq.{slice_eq-Decides}
use Rattle.xs_base.specs.Register.{Single}
use Rattle.xs_regs.specs.Names.{single_of}
use Rattle.xs_regs.proofs.Searching.{any_here, none_more}
use Rattle.xs_regs.proofs.register.find_alone.Goals as goal

pub returns-then-eq : goal.returns-then-eq
returns-then-eq c =
    any_here _ single_of c.args.entries.now c.each.single-index _ c.each-test.true (sym ((slice_eq-Decides Decides-eqb _ _ _ c.eq.ensures).0 c.if-eq.true), refl)

pub each-preserved : goal.each-preserved
each-preserved c =
    none_more (λ (s : Single). c.args.name.now ≡ s.name) single_of c.args.entries.now c.each.single-index _ c.each-test.true c.each.invariant
    (λ e. not_from_Decides _ (slice_eq-Decides Decides-eqb _ _ _ c.eq.ensures) c.if-eq.false (sym e))
