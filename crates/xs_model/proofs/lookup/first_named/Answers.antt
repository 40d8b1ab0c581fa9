-- The first block of the name is found.
use Rattle.std.proofs.Common.{◌≡◌, ◌+◌, length, sym, ap, ◌∙◌, arith}
use Rattle.std.proofs.lemmas.Bool.Decides.{Decides-eqb, not_from_Decides}
use Rattle.std.proofs.lemmas.Slice.Eq.{slice_eq-Decides}
use Rattle.xs_model.specs.declared.script.Block.{Block}
use Rattle.xs_model.proofs.FirstNamed.{first_named, none_named, unnamed_more}
use Rattle.xs_model.proofs.lookup.first_named.Goals as goal

pub returns-then-eq : goal.returns-then-eq
returns-then-eq c =
    c.each.invariant.number ∙ sym (first_named c.args.blocks.now c.args.name.now c.each.block-index c.block-item.result c.each-test.true c.each.invariant.none
    (ap (λ (b : Block). b.name) (sym c.block-item.is) ∙ sym c.as_slice.ensures.bytes ∙ (slice_eq-Decides Decides-eqb _ _ _ c.eq.ensures).0 c.if-eq.true))

pub each-preserved : goal.each-preserved
each-preserved c = record {
  number = ap (λ n. n + 1) c.each.invariant.number;
  none = unnamed_more c.args.blocks.now c.args.name.now c.each.block-index c.block-item.result c.each-test.true c.each.invariant.none
      (λ e. not_from_Decides _ (slice_eq-Decides Decides-eqb _ _ _ c.eq.ensures) c.if-eq.false (c.as_slice.ensures.bytes ∙ ap (λ (b : Block). b.name) c.block-item.is ∙ e));
}

pub returns : goal.returns
returns c =
    let all : c.each.block-index ≡ length c.args.blocks.now = omega arith in
    c.each.invariant.number ∙ all ∙ sym (none_named c.args.blocks.now c.args.name.now (λ k b less. c.each.invariant.none k b (omega (arith, less, all))))
